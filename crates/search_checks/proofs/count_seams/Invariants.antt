-- `search_checks::count_seams` meets its contract. What is counted and what is left to count make the whole.
use Prim.Native.Nat.{◌+◌, ◌-◌, ◌<◌}
use mathlib.Core.Path.{◌≡◌}
use lib.ListN.{drop}
use Rattle.search_checks.specs.Counting.{seams}
use Rattle.search_checks.proofs.count_seams.Given as goal

abbrev pub invariant-loop-i : goal.invariant-loop-i
invariant-loop-i l = (l.count < l.i) × (l.count + seams l.summary_ids (drop (l.i - 1) l.component_offsets) ≡ seams l.summary_ids l.component_offsets)
