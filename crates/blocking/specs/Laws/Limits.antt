-- Laws of Limits, by which every other crate knows them.
use Rattle.std.specs.Prelude.{ℕ, ◌*◌, ◌≤◌, ◌<◌, ◌^◌}
use Rattle.std.proofs.Common.{arith}
use Rattle.blocking.specs.Limits.{block_limit, centroid_limit, dimension_limit}

-- as many blocks as there may be can be counted, and so numbered, in 16 bits
pub block-fits : (n : ℕ) → n ≤ block_limit → n < 2 ^ 16
unfolding block_limit
block-fits n h = omega arith

-- clusters are never more than centroids, so that clustering makes no more blocks than there may be
pub centroids-within : (n : ℕ) → n ≤ centroid_limit → n ≤ block_limit
unfolding block_limit centroid_limit
centroids-within n h = omega arith

-- as many components as there may be can be numbered in 32 bits
pub dimension-fits : (n : ℕ) → n ≤ dimension_limit → n < 2 ^ 32
unfolding dimension_limit
dimension-fits n h = omega arith

-- one entry for each component of 32 bits and each block can be counted in 64 bits
pub entries_fit : (components n : ℕ) → components ≤ 2 ^ 32 → n ≤ components * block_limit → n < 2 ^ 64
unfolding block_limit
entries_fit components n h l = omega arith
