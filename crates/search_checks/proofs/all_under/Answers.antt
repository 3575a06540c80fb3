-- `search_checks::all_under` meets its contract. The test of what is left, with what was found so far, is the test of all.
use native.Mathlib.Omega.{arith}
use mathlib.Core.Path.{refl, ◌∙◌}
use Rattle.search_checks.proofs.Loops.{every-step, every-end}
use Rattle.search_checks.proofs.all_under.Goals as goal

pub loop-id-init : goal.loop-id-init
loop-id-init c = refl

pub loop-id-preserved : goal.loop-id-preserved
loop-id-preserved c = let l = c.loop-id in every-step _ _ 0 l.ok _ l.id-index (omega arith) refl ∙ l.invariant

pub returns : goal.returns
returns c = let l = c.loop-id in every-end _ _ 0 l.ok l.id-index _ (omega arith) l.invariant
