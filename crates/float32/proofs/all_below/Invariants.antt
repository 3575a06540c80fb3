-- `float32::all_below` meets its contract: what was found so far is the test of the values so far.
use Prim.Native.Nat.{ℕ, ◌<◌}
use mathlib.Core.Path.{◌≡◌}
use lib.ListN.{get_or, take}
use lib.Dec.{T}
use lib.Ieee.{nan, binary32, fits, lt}
use Rattle.sequences.specs.Lists.{every}
use Rattle.float32.proofs.all_below.Given as goal

abbrev pub invariant-loop-value : goal.invariant-loop-value
invariant-loop-value l = (l.ok ≡ every (λ y. lt y l.x) (take l.value-index l.values)) × (0 < l.value-index → (k : ℕ) → T (fits binary32 (get_or l.values k nan)))
