-- The first i places have the starts of i blocks.
use Rattle.std.proofs.Common.{◌≡◌, ◌++◌, drop}
use Rattle.blocking.specs.Blocking.{starts}
use Rattle.blocking.proofs.write_offsets.Given as goal

abbrev pub invariant-loop-i : goal.invariant-loop-i
invariant-loop-i l = l.block_offsets ≡ starts l.block_size l.i ++ drop l.i l.initial.block_offsets
