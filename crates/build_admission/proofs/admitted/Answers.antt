-- Each answer is the first fault that the tests before it left over.
use lib.ListN.{take}
use Rattle.documents.specs.Lent.{lent}
use Rattle.build_admission.specs.Laws.Used.{used-are, taken-long}
use Rattle.build_admission.proofs.Laws.{refuses-limits, refuses-documents, refuses-terms, refuses-starts, refuses-lengths, leaves-blocking}
use Rattle.build_admission.proofs.admitted.Goals as goal

pub returns-then-outside_limits : goal.returns-then-outside_limits
returns-then-outside_limits c =
    let a = c.args in
    refuses-limits a.dimension a.blocking (lent a.documents) a.ids.now a.centroids.now
    c.outside_limits.result c.outside_limits.ensures c.if-outside_limits.true

pub slice_bounds-used-end : goal.slice_bounds-used-end
slice_bounds-used-end c =
    let a = c.args in taken-long a.blocking a.centroids.now c.centroids_taken-taken.result c.centroids_taken-taken.ensures

pub returns-then-not-documents_known : goal.returns-then-not-documents_known
returns-then-not-documents_known c =
    let a = c.args in
    refuses-documents a.dimension a.blocking (lent a.documents) a.ids.now a.centroids.now
    c.outside_limits.result c.outside_limits.ensures c.if-outside_limits.false
    (take c.centroids_taken-taken.result a.centroids.now)
    (used-are a.blocking a.centroids.now c.centroids_taken-taken.result c.centroids_taken-taken.ensures)
    c.documents_known.result c.documents_known.ensures c.if-not-documents_known.true-raw

pub returns-then-not-terms_hold : goal.returns-then-not-terms_hold
returns-then-not-terms_hold c =
    let a = c.args in
    refuses-terms a.dimension a.blocking (lent a.documents) a.ids.now a.centroids.now
    c.outside_limits.result c.outside_limits.ensures c.if-outside_limits.false
    (take c.centroids_taken-taken.result a.centroids.now)
    (used-are a.blocking a.centroids.now c.centroids_taken-taken.result c.centroids_taken-taken.ensures)
    c.documents_known.result c.documents_known.ensures c.if-not-documents_known.false-raw c.terms_hold.result
    c.terms_hold.ensures c.if-not-terms_hold.true-raw

pub returns-then-not-fit : goal.returns-then-not-fit
returns-then-not-fit c =
    let a = c.args in
    refuses-starts a.dimension a.blocking (lent a.documents) a.ids.now a.centroids.now
    c.outside_limits.result c.outside_limits.ensures c.if-outside_limits.false
    (take c.centroids_taken-taken.result a.centroids.now)
    (used-are a.blocking a.centroids.now c.centroids_taken-taken.result c.centroids_taken-taken.ensures)
    c.documents_known.result c.documents_known.ensures c.if-not-documents_known.false-raw c.terms_hold.result
    c.terms_hold.ensures c.if-not-terms_hold.false-raw c.ranges_fit-fit.result c.ranges_fit-fit.ensures c.if-not-fit.true

pub returns-then-not-fit-2 : goal.returns-then-not-fit-2
returns-then-not-fit-2 c =
    let a = c.args in
    refuses-lengths a.dimension a.blocking (lent a.documents) a.ids.now a.centroids.now
    c.outside_limits.result c.outside_limits.ensures c.if-outside_limits.false
    (take c.centroids_taken-taken.result a.centroids.now)
    (used-are a.blocking a.centroids.now c.centroids_taken-taken.result c.centroids_taken-taken.ensures)
    c.documents_known.result c.documents_known.ensures c.if-not-documents_known.false-raw c.terms_hold.result
    c.terms_hold.ensures c.if-not-terms_hold.false-raw c.ranges_fit-fit.result c.ranges_fit-fit.ensures c.if-not-fit.false
    c.if-not-fit-2.true

pub returns : goal.returns
returns c =
    let a = c.args in
    leaves-blocking a.dimension a.blocking (lent a.documents) a.ids.now a.centroids.now
    c.outside_limits.result c.outside_limits.ensures c.if-outside_limits.false
    (take c.centroids_taken-taken.result a.centroids.now)
    (used-are a.blocking a.centroids.now c.centroids_taken-taken.result c.centroids_taken-taken.ensures)
    c.documents_known.result c.documents_known.ensures c.if-not-documents_known.false-raw c.terms_hold.result
    c.terms_hold.ensures c.if-not-terms_hold.false-raw c.ranges_fit-fit.result c.ranges_fit-fit.ensures c.blocking_verdict.result
    c.if-not-fit.false c.if-not-fit-2.false c.blocking_verdict.ensures
