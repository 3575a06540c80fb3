-- `cluster_nearest::last_of` meets its contract.
use mathlib.Core.Path.{◌≡◌}
use mathlib.Core.List.{foldl, zip_with}
use Rattle.std.specs.Iterator.Adapters.{zip_first, zip_second}
use Rattle.std.specs.Slice.Iter.{iter_rest}
use Rattle.cluster_nearest.specs.Nearest.{candidate, if_no_less}
use Rattle.cluster_nearest.proofs.last_of.Given as goal

abbrev pub invariant-loop-centroid : goal.invariant-loop-centroid
invariant-loop-centroid l =
    foldl if_no_less l.best (zip_with candidate (iter_rest (zip_first l.centroid-iterator)) (iter_rest (zip_second l.centroid-iterator)))
    ≡ foldl if_no_less l.initial.best (zip_with candidate l.centroids l.sums)
