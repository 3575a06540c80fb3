-- `judge` gives the first refusal: the input's, and then that of scratch too short.
use borrow.Author.Tests.{not-true, not-false}
use Rattle.documents.specs.Lent.{lent}
use Rattle.build_admission.specs.Admission.{input_tests}
use Rattle.build_meaning.specs.Needs.{sizes_for, scratch_needs}
use Rattle.build_ready.proofs.Laws.{refused-early, refused-late, accepted-late}
use Rattle.refusal.specs.Laws.First.{handed-up}
use Rattle.build_ready.proofs.judge.Goals as goal

pub returns-in_err-admitted : goal.returns-in_err-admitted
returns-in_err-admitted c =
    let a = c.args in
    rw (handed-up c.from_residual.result _ c.from_residual.ensures.1)
    (refused-early (input_tests a.dimension a.blocking (lent a.documents) a.ids.now a.centroids.now) _
    c.admitted.result _ c.admitted.ensures c.in_err-admitted.was)

pub returns-then-not-suffices : goal.returns-then-not-suffices
returns-then-not-suffices c =
    let a = c.args in
    refused-late (input_tests a.dimension a.blocking (lent a.documents) a.ids.now a.centroids.now)
    c.admitted.result (scratch_needs (sizes_for a.dimension a.blocking (lent a.documents) a.ids.now
    a.centroids.now)) c.scratch_needs-needed.result a.lent c.suffices.result c.admitted.ensures
    c.in_ok-admitted.was c.scratch_needs-needed.ensures c.suffices.ensures (not-true _ c.if-not-suffices.true-raw)

pub returns : goal.returns
returns c =
    let a = c.args in
    accepted-late (input_tests a.dimension a.blocking (lent a.documents) a.ids.now a.centroids.now)
    c.admitted.result (scratch_needs (sizes_for a.dimension a.blocking (lent a.documents) a.ids.now
    a.centroids.now)) c.scratch_needs-needed.result a.lent c.suffices.result c.admitted.ensures
    c.in_ok-admitted.was c.scratch_needs-needed.ensures c.suffices.ensures (not-false _ c.if-not-suffices.false-raw)
