-- The ranks that the exact mode's passes leave.
use Rattle.std.specs.Prelude.{ℕ, cond, List, map, replicate}
use Rattle.documents.specs.Documents.{Documents, terms}
use Rattle.counting_sort.specs.Counting.{counted}
use Rattle.cluster_index.specs.Index.{indexed}
use Rattle.cluster_nearest.specs.Nearest.{first_above}
use Rattle.cluster_nearest.specs.Scored.{scores_of}
use Rattle.sort.specs.Ranked.{rank_in}
use Rattle.cluster_passes.specs.Ranked.{listed_at, took_itself}
use Rattle.cluster_passes.specs.Indexes.{index_documents}

-- ---- what the passes leave, for slices of any length: s offsets, a slots, b weights, n scores, k counters
-- a listed centroid takes itself, else the first greatest score above 0 decides
abbrev pub first_choice : List ℕ → List ℕ → Documents → ℕ → Documents → ℕ → ℕ
first_choice known centroids index n d i = cond (listed_at known i (rank_in known i)) i (first_above centroids (scores_of index n (terms d i)))

-- whose group dissolves, and who took itself, looks again
abbrev pub second_rank : List ℕ → List ℕ → ℕ → List ℕ → Documents → ℕ → Documents → ℕ → ℕ → ℕ
second_rank known counts minimum centroids index n d i r = cond (took_itself known counts minimum i r) (rank_in known (first_above centroids (scores_of index n (terms d i)))) r

abbrev pub first_ranks : Documents → List ℕ → List ℕ → ℕ → ℕ → ℕ → ℕ → ℕ → ℕ
first_ranks d centroids known s a b n i = rank_in known (first_choice known centroids (index_documents (indexed d centroids s a b)) n d i)

unfoldable pub exact_ranks : Documents → ℕ → List ℕ → List ℕ → ℕ → ℕ → ℕ → ℕ → ℕ → List ℕ → List ℕ
exact_ranks d minimum centroids known s a b n k ids =
    map (λ i. second_rank known (counted (replicate k 0) (map (first_ranks d centroids known s a b n) ids)) minimum centroids (index_documents (indexed d centroids s a b)) n d i
    (first_ranks d centroids known s a b n i)) ids
