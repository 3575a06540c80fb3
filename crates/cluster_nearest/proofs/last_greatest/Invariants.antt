-- `cluster_nearest::last_greatest` meets its contract: the fold of what is left is the fold of all but the first.
use Prim.Native.Nat.{◌-◌, ◌≤◌}
use mathlib.Core.Path.{◌≡◌}
use mathlib.Core.List.{foldl, zip_with}
use lib.ListN.{drop}
use Rattle.cluster_nearest.specs.Nearest.{candidate, if_no_less}
use Rattle.cluster_nearest.specs.Laws.Loops.{Fits}
use Rattle.cluster_nearest.proofs.last_greatest.Given as goal

abbrev pub invariant-loop-i : goal.invariant-loop-i
invariant-loop-i l =
    (l.i ≤ l.n) × Fits l.best × (foldl if_no_less l.best (zip_with candidate (drop l.i l.centroids) (drop l.i l.sums)) ≡ foldl if_no_less l.initial.best (zip_with candidate (drop 1 l.centroids) (drop 1 l.sums)))

abbrev pub decreases-loop-i : goal.decreases-loop-i
decreases-loop-i l = l.n - l.i
