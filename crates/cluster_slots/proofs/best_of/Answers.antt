-- `cluster_slots::best_of` meets its contract.
use Rattle.cluster_slots.specs.Laws.Loops.{better-in, better-out}
use Rattle.cluster_slots.proofs.best_of.Goals as goal

pub returns-then-s-sums : goal.returns-then-s-sums
returns-then-s-sums c = let a = c.args in better-in a.sums.now a.best c.if_better.result a.slot.0 c.if-s-sums.true c.if_better.ensures

pub returns-else-s-sums : goal.returns-else-s-sums
returns-else-s-sums c = let a = c.args in better-out a.sums.now a.best a.best a.slot.0 c.if-s-sums.false
