-- The ranks that the approximate mode's passes leave.
use Rattle.std.specs.Prelude.{ℕ, not, List, map, replicate}
use Rattle.sequences.specs.Lists.{those, first_or}
use Rattle.documents.specs.Documents.{Documents}
use Rattle.counting_sort.specs.Counting.{counted}
use Rattle.cluster_index.specs.Index.{indexed}
use Rattle.sort.specs.Ranked.{rank_in}
use Rattle.cluster_passes.specs.Ranked.{is_small}
use Rattle.cluster_passes.specs.Indexes.{index_documents}
use Rattle.cluster_approximate_pass.specs.Taking.{nearly_choice, again_rank}

-- ---- what the passes leave, for slices of any length: s offsets, a slots, b weights, n scores, k counters, q keys
-- the centroids whose groups don't dissolve
abbrev pub remaining : List ℕ → List ℕ → ℕ → List ℕ → List ℕ
remaining known counts minimum centroids = those (λ c. not (is_small counts minimum (rank_in known c))) centroids

-- a rank after the first pass
abbrev pub nearly_ranks : Documents → ℕ → List ℕ → List ℕ → ℕ → ℕ → ℕ → ℕ → ℕ → ℕ → ℕ
nearly_ranks d cut centroids known s a b n q i = rank_in known (nearly_choice cut (first_or 0 centroids) centroids (index_documents (indexed d centroids s a b)) n q d i)

-- the counts after the first pass
abbrev pub counts_of : Documents → ℕ → List ℕ → List ℕ → ℕ → ℕ → ℕ → ℕ → ℕ → ℕ → List ℕ → List ℕ
counts_of d cut centroids known s a b n k q ids = counted (replicate k 0) (map (nearly_ranks d cut centroids known s a b n q) ids)

-- a rank after both
abbrev pub both_ranks : Documents → ℕ → ℕ → List ℕ → List ℕ → List ℕ → ℕ → ℕ → ℕ → ℕ → ℕ → ℕ → ℕ → ℕ
both_ranks d cut minimum centroids known counts s a b n q i r =
    let left = remaining known counts minimum centroids in
    again_rank known counts minimum cut (first_or 0 centroids) left (index_documents (indexed d left s a b)) n q d i r

unfoldable pub approximate_ranks : Documents → ℕ → ℕ → List ℕ → List ℕ → ℕ → ℕ → ℕ → ℕ → ℕ → ℕ → List ℕ → List ℕ
approximate_ranks d cut minimum centroids known s a b n k q ids =
    map (λ i. both_ranks d cut minimum centroids known (counts_of d cut centroids known s a b n k q ids) s a b n q i (nearly_ranks d cut centroids known s a b n q i)) ids
