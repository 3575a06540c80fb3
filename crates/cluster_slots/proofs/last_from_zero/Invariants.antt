-- `cluster_slots::last_from_zero` meets its contract.
use mathlib.Core.Path.{◌≡◌}
use lib.ListN.{length}
use Rattle.cluster_slots.specs.Met.{from_zero}
use Rattle.cluster_slots.proofs.last_from_zero.Given as goal

abbrev pub invariant-loop-k : goal.invariant-loop-k
invariant-loop-k l = from_zero l.sums l.k ≡ from_zero l.sums (length l.sums)
