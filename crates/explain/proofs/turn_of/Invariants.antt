-- `explain::turn_of`: the turns passed, and those before the first of the rest, are those before the first of all.
use Rattle.explain.proofs.Turns.{Passed}
use Rattle.explain.proofs.turn_of.Given as goal

abbrev pub invariant-loop-t : goal.invariant-loop-t
invariant-loop-t l = Passed l.block_offsets l.count l.block_order l.turns l.position l.t
