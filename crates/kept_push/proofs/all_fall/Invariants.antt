-- `kept_push::all_fall` meets its contract: what was found so far and what is left make the whole.
use Prim.Native.Nat.{ℕ, ◌-◌, ◌<◌}
use mathlib.Core.Path.{◌≡◌}
use mathlib.Core.Bool.{◌&&◌}
use lib.ListN.{get_or}
use lib.Dec.{T}
use lib.Ieee.{nan, binary32, fits}
use Rattle.kept_push.specs.Standing.{each_from, falls}
use Rattle.kept_push.proofs.all_fall.Given as goal

abbrev pub invariant-loop-i : goal.invariant-loop-i
invariant-loop-i l = ((l.ok && each_from (falls l.scores) l.i (l.to - l.i)) ≡ each_from (falls l.scores) l.from (l.to - l.from)) × (l.from < l.i → (k : ℕ) → T (fits binary32 (get_or l.scores k nan)))
