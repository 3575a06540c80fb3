-- The loop's invariant: what was found so far and the check of the documents left make the check of all.
use mathlib.Core.Path.{refl, ◌∙◌}
use native.Mathlib.Omega.{arith}
use Rattle.documents.specs.Lent.{lent}
use Rattle.document_checks.proofs.Listed.{listed-step, listed-end}
use Rattle.document_checks.proofs.documents_hold.Goals as goal

pub loop-id-init : goal.loop-id-init
loop-id-init c = refl

pub loop-id-preserved : goal.loop-id-preserved
loop-id-preserved c =
    let l = c.loop-id in
    let a = c.args in
    listed-step l.ok a.dimension (lent a.documents) a.ids.now l.id-index _ (omega arith) c.document_holds-ok.ensures ∙ l.invariant

pub returns : goal.returns
returns c =
    let l = c.loop-id in
    let a = c.args in
    listed-end l.ok a.dimension (lent a.documents) a.ids.now l.id-index _ (omega arith) l.invariant
