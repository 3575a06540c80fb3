-- The loop's invariant: so many numbers from the front are zero, and those left are as they were.
use Rattle.std.proofs.Common.{◌≡◌, ◌≤◌, ◌++◌, length, drop, replicate}
use Rattle.clearing.proofs.clear.Given as goal

abbrev pub invariant-loop-number : goal.invariant-loop-number
invariant-loop-number g l = (l.number-index ≤ length l.initial.number-items)
    × (l.number-items ≡ replicate l.number-index g.T.Zero.ZERO ++ drop l.number-index l.initial.number-items)
