-- `search_checks::minimums_hold` meets its contract. The test of what is left, with what was found so far, is the test of all.
use Rattle.float32.specs.Laws.BoundLaws.{in-bound-tests}
use lib.Ieee.{nan}
use native.Mathlib.Omega.{arith}
use mathlib.Core.Path.{refl, ◌∙◌}
use Rattle.search_checks.proofs.Loops.{every-step, every-end}
use Rattle.search_checks.proofs.minimums_hold.Goals as goal

pub loop-m-init : goal.loop-m-init
loop-m-init c = refl

pub loop-m-preserved : goal.loop-m-preserved
loop-m-preserved c = let l = c.loop-m in every-step _ _ nan l.ok _ l.m-index (omega arith) (in-bound-tests _) ∙ l.invariant

pub returns : goal.returns
returns c = let l = c.loop-m in every-end _ _ nan l.ok l.m-index _ (omega arith) l.invariant
