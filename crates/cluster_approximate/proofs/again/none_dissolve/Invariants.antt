-- `cluster_approximate::again::none_dissolve` meets its contract: the fold of what is left is the fold of all.
use mathlib.Core.Path.{◌≡◌}
use mathlib.Core.Bool.{true, not, ◌&&◌}
use mathlib.Core.List.{foldl}
use lib.ListN.{drop}
use Rattle.cluster_meaning.specs.Clusters.{small}
use Rattle.cluster_approximate.proofs.again.none_dissolve.Given as goal

abbrev pub invariant-loop-i : goal.invariant-loop-i
invariant-loop-i l = foldl (λ b n. b && not (small l.minimum n)) l.none (drop l.i l.counts) ≡ foldl (λ b n. b && not (small l.minimum n)) true l.counts
