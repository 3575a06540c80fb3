-- Laws of Needs: scratch takes at most 12 numbers per list id, centroid, centroid term and dimension.
use Rattle.std.specs.Prelude.{ℕ, ◌+◌, ◌*◌, ◌≤◌, ◌<◌}
use Rattle.std.proofs.Common.{arith}
use Rattle.scratch.specs.declared.ScratchLengths.{ScratchLengths}
use Rattle.build_meaning.specs.Needs.{Sizes, scratch_needs}

abbrev pub total : ScratchLengths → ℕ
total s = s.order + s.blocks + s.sorted + s.known + s.taken + s.counts + s.starts + s.slots + s.weights + s.sums + s.keys

-- at most 12 numbers per list id, centroid, centroid term and dimension, which is 1 at least
pub at-most-twelve : (s : Sizes) → 0 < s.dimension → total (scratch_needs s) ≤ 12 * (s.ids + s.centroids + s.centroid_terms + s.dimension)
at-most-twelve s h = omega arith
