-- When a clustering cuts nothing.
use Rattle.std.specs.Prelude.{ℕ, ◌≤◌, ◌<◌, ◌^◌, List, length}
use Rattle.documents.specs.Documents.{Documents, terms}
use Rattle.sort.specs.Sorted.{sorted as sorted_list}
use Rattle.scratch.specs.Scratches.{Scratches}
use Rattle.cluster_meaning.specs.Ranks.{Among}
use Rattle.cluster_passes.specs.Room.{Room}

-- the scratch has a place for each document, centroid and term
pub record Enough (d : Documents) (ids centroids : List ℕ) (s : Scratches) : Type 0 where
  pub order : length ids ≤ length s.order
  pub competing : length centroids ≤ length s.order
  pub sorted : length ids ≤ length s.sorted
  pub taken : length ids ≤ length s.taken
  pub known : length centroids ≤ length s.known
  pub few : length ids < 2 ^ 64
  pub short : (i : ℕ) → Among (sorted_list ids) i → length (terms d i) ≤ length s.keys
  pub room : 0 < length ids → Room d centroids (length s.starts) (length s.slots) (length s.weights) (length s.sums) (length s.counts)
