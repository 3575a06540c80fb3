-- Each answer is that of the checks that led to it.
use mathlib.Core.Path.{sym, ◌∙◌}
use borrow.Author.Tests.{not-true, not-false}
use Rattle.documents.specs.Lent.{lent}
use Rattle.build_admission.proofs.Laws.{offsets-fail, ids-fail, ids-left}
use Rattle.build_admission.proofs.documents_known.Goals as goal

pub returns-then-not-offsets_hold : goal.returns-then-not-offsets_hold
returns-then-not-offsets_hold c =
    let a = c.args in offsets-fail (lent a.documents) a.ids.now a.centroids.now (sym c.offsets_hold.ensures ∙ not-true _ c.if-not-offsets_hold.true-raw)

pub returns-then-not-ids_hold : goal.returns-then-not-ids_hold
returns-then-not-ids_hold c =
    let a = c.args in
    ids-fail (lent a.documents) a.ids.now a.centroids.now c.saturating_sub-count.result
    c.saturating_sub-count.ensures (sym c.offsets_hold.ensures ∙ not-false _ c.if-not-offsets_hold.false-raw)
    (sym c.ids_hold.ensures ∙ not-true _ c.if-not-ids_hold.true-raw)

pub returns : goal.returns
returns c =
    let a = c.args in
    ids-left (lent a.documents) a.ids.now a.centroids.now c.saturating_sub-count.result
    c.saturating_sub-count.ensures (sym c.offsets_hold.ensures ∙ not-false _ c.if-not-offsets_hold.false-raw) _
    (sym c.ids_hold.ensures ∙ not-false _ c.if-not-ids_hold.false-raw) c.ids_hold-2.ensures
