-- `search_checks::count_seams` meets its contract. What is counted and what is left to count make the whole.
use native.Mathlib.Omega.{arith}
use mathlib.Core.Path.{◌∙◌}
use Rattle.search_checks.proofs.Loops.{seams-step, seams-end}
use Rattle.search_checks.proofs.count_seams.Goals as goal

pub loop-i-init : goal.loop-i-init
loop-i-init c = (omega arith, omega arith)

pub loop-i-preserved : goal.loop-i-preserved
loop-i-preserved c = let l = c.loop-i in (omega (arith, c.seam-count.ensures.small), seams-step _ l.count l.i (omega arith) _ _ (omega arith) c.seam-count.ensures.answer ∙ l.invariant.1)

pub returns : goal.returns
returns c = let l = c.loop-i in seams-end _ l.count l.i (omega arith) _ _ (omega arith) l.invariant.1
