-- `search_checks::steps_hold` meets its contract. The test of what is left, with what was found so far, is the test of all.
use lib.Ieee.{nan}
use native.Mathlib.Omega.{arith}
use mathlib.Core.Path.{refl, ◌∙◌}
use Rattle.search_checks.proofs.Loops.{step-test, every-step, every-end}
use Rattle.search_checks.proofs.steps_hold.Goals as goal

pub loop-s-init : goal.loop-s-init
loop-s-init c = refl

pub loop-s-preserved : goal.loop-s-preserved
loop-s-preserved c = let l = c.loop-s in every-step _ _ nan l.ok _ l.s-index (omega arith) (step-test _) ∙ l.invariant

pub returns : goal.returns
returns c = let l = c.loop-s in every-end _ _ nan l.ok l.s-index _ (omega arith) l.invariant
