-- Its constant is the limit.
use Rattle.std.proofs.Common.{rules}
use Rattle.blocking.specs.Limits.{centroid_limit}
use Rattle.blocking.proofs.limits.too_many_centroids.Goals as goal

pub returns : goal.returns
unfolding centroid_limit
returns c = search rules
