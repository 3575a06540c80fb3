-- `search_checks::count_few_falls` meets its contract. What is counted and what is left to count make the whole.
use Prim.Native.Nat.{◌+◌, ◌-◌, ◌<◌}
use mathlib.Core.Path.{◌≡◌}
use lib.ListN.{drop}
use Rattle.search_checks.specs.Counting.{falls}
use Rattle.search_checks.proofs.count_few_falls.Given as goal

abbrev pub invariant-loop-i : goal.invariant-loop-i
invariant-loop-i l = (l.count < l.i) × (l.count + falls (drop (l.i - 1) l.summary_ids) ≡ falls l.summary_ids)
