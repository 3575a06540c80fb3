-- Each answer is that of the check that led to it.
use mathlib.Core.Path.{sym, ◌∙◌}
use borrow.Author.Tests.{not-true, not-false}
use Rattle.documents.specs.Lent.{lent}
use Rattle.build_admission.proofs.Laws.{terms-fail, terms-left}
use Rattle.build_admission.proofs.terms_hold.Goals as goal

pub returns-then-not-documents_hold : goal.returns-then-not-documents_hold
returns-then-not-documents_hold c =
    let a = c.args in terms-fail (lent a.documents) a.ids.now a.centroids.now a.dimension (sym c.documents_hold.ensures ∙ not-true _ c.if-not-documents_hold.true-raw)

pub returns : goal.returns
returns c =
    let a = c.args in
    terms-left (lent a.documents) a.ids.now a.centroids.now a.dimension _
    (sym c.documents_hold.ensures ∙ not-false _ c.if-not-documents_hold.false-raw) c.documents_hold-2.ensures
