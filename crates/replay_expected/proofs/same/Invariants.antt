-- The loop keeps: what has been seen and what is left come to the whole.
use mathlib.Core.Path.{◌≡◌}
use Prim.Native.Nat.{◌≤◌}
use mathlib.Core.Bool.{◌&&◌}
use mathlib.Core.List.{map}
use lib.ListN.{length, drop}
use Rattle.replay_expected.specs.Held.{held}
use Rattle.replay_expected.proofs.same.Given as goal

abbrev pub invariant-loop-i : goal.invariant-loop-i
invariant-loop-i g l = let keys = map g.N.Numbered.number l.numbers in (l.i ≤ length l.numbers) × (l.same && held (drop l.i keys) (drop l.i l.expected) l.rest ≡ held keys l.expected l.rest)
