-- `cluster_approximate::gathering::gather` meets its contract.
use mathlib.Core.Bool.{not}
use Rattle.sequences.specs.Lists.{those}
use Rattle.sort.specs.Ranked.{rank_in}
use Rattle.cluster_passes.specs.Ranked.{is_small}
use mathlib.Core.Path.{◌≡◌}
use mathlib.Core.List.{◌++◌}
use Prim.Native.Nat.{◌≤◌}
use lib.ListN.{take, drop}
use Rattle.cluster_approximate.proofs.gathering.gather.Given as goal

abbrev pub invariant-loop-id : goal.invariant-loop-id
invariant-loop-id l = (l.n ≤ l.id-index) × (take l.n l.competing ++ those (λ c. not (is_small l.counts l.minimum (rank_in l.known c))) (drop l.id-index l.centroids) ≡ those (λ c. not (is_small l.counts l.minimum (rank_in l.known c))) l.centroids)
