-- `build_scratch::needs_of_sizes` meets its contract: the formula, where a sum that no u64 can hold is shown as the greatest.
use Rattle.build_scratch.proofs.Laws.{formula}
use Rattle.build_scratch.proofs.needs_of_sizes.Goals as goal

pub returns : goal.returns
returns c = formula c.args.ids c.args.centroids c.args.centroid_terms c.args.dimension _ _ _ c.ranges.ids.fits c.ranges.centroids.fits c.ranges.centroid_terms.fits c.ranges.dimension.fits c.max-most.ensures c.saturating_add.ensures c.saturating_add-2.ensures
