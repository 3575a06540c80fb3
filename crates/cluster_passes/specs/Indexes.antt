-- Room in slices for the index of centroids and for their scores.
use Rattle.std.specs.Prelude.{ℕ, ◌-◌, ◌≤◌, ◌<◌, ◌^◌, List, length, Float}
use Rattle.sequences.specs.Lists.{EachOf}
use Rattle.documents.specs.Documents.{Documents, documents}
use Rattle.counting_sort.specs.Counting.{Laid}
use Rattle.cluster_index.specs.Index.{component_of, entries}

abbrev pub index_documents : Laid ℕ Float → Documents
index_documents s = documents s.cursors s.first s.second

-- ---- s offsets, a slots and b weights have room for the centroids' index, n scores for theirs
pub record Indexes (d : Documents) (centroids : List ℕ) (s a b n : ℕ) : Type 0 where
  pub offsets : 0 < s
  pub below : EachOf (λ e. component_of e < s - 1) (entries d centroids)
  pub slots : length (entries d centroids) ≤ a
  pub weights : length (entries d centroids) ≤ b
  pub short : length (entries d centroids) < 2 ^ 64
  pub sums : length centroids ≤ n
