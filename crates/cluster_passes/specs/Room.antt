-- Room for both passes.
use Rattle.std.specs.Prelude.{ℕ, ◌≤◌, ◌<◌, List, length}
use Rattle.documents.specs.Documents.{Documents}
use Rattle.cluster_passes.specs.Indexes.{Indexes}

-- room for the index, for scores and for counters, and a centroid
pub record Room (d : Documents) (centroids : List ℕ) (s a b n k : ℕ) : Type 0 where
  pub some : 0 < length centroids
  pub index : Indexes d centroids s a b n
  pub counters : length centroids ≤ k
