-- `search_checks::count_falls` meets its contract. What is counted in the parts so far and what is left to count make the whole.
use Prim.Native.Nat.{◌+◌, ◌-◌, ◌≤◌}
use mathlib.Core.Path.{◌≡◌}
use lib.ListN.{length, drop}
use Rattle.search_checks.specs.Counting.{falls}
use Rattle.search_checks.proofs.count_falls.Given as goal

abbrev pub invariant-loop-i : goal.invariant-loop-i
invariant-loop-i l = (l.n ≡ length l.summary_ids) × (l.i ≤ l.n) × (l.count ≤ l.i) × (l.count + falls (drop l.i l.summary_ids) ≡ falls l.summary_ids)

abbrev pub decreases-loop-i : goal.decreases-loop-i
decreases-loop-i l = l.n - l.i
