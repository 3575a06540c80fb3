-- The loop's invariant: what was found so far and the check of the ids left make the check of all.
use mathlib.Core.Path.{refl, ◌∙◌}
use native.Mathlib.Omega.{arith}
use Rattle.document_checks.proofs.Loops.{ids_step, ids-end}
use Rattle.document_checks.proofs.ids_hold.Goals as goal

pub loop-id-init : goal.loop-id-init
loop-id-init c = refl

pub loop-id-preserved : goal.loop-id-preserved
loop-id-preserved c = let l = c.loop-id in let a = c.args in ids_step l.ok a.count a.ids.now l.id-index (omega arith) ∙ l.invariant

pub returns : goal.returns
returns c = let l = c.loop-id in let a = c.args in ids-end l.ok a.count a.ids.now l.id-index _ (omega arith) l.invariant
