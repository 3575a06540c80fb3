-- `kept_entries::insert` meets its contract: the entry stands at its place, and what is left to do gives what all of it gives.
use Rattle.kept_entries.proofs.Rising.{Rising}
use Rattle.kept_entries.proofs.insert.Given as goal

abbrev pub invariant-loop-j : goal.invariant-loop-j
invariant-loop-j l = Rising l.at l.fn.entries l.e l.entries l.j
