-- What a clustering answers and leaves in scratch of any length: what finds no place is cut. Where all finds a place (Enough) it is document
-- 01's "Clusters" (Laws/Uncut).
use Rattle.std.specs.Prelude.{ℕ, ◌+◌, List, [], ◌∷◌, length}
use Rattle.configuration.specs.declared.ClusteringAlgorithm.{ClusteringAlgorithm}
use Rattle.documents.specs.Documents.{Documents}
use Rattle.sort.specs.Sorted.{sorted as sorted_list}
use Rattle.clearing.specs.Zeros.{zeros, float_zeros}
use Rattle.counting_sort.specs.Counting.{Grouped, grouped, grouped_by}
use Rattle.scratch.specs.Scratches.{Scratches, scratches}
use Rattle.cluster_by_mode.specs.Modes.{fitting, ranks_by}

-- entries by rising key, the offsets of their groups laid over the blocks, and how many offsets there are: one more than groups. Of no
-- entries there is no offset, and nothing changes
abbrev pub some_groups : List ℕ → List ℕ → List ℕ → List ℕ → List ℕ → Grouped
some_groups keys [] counts order blocks = grouped 0 counts order blocks
some_groups keys (e ∷ es) counts order blocks =
    let g = grouped_by keys (e ∷ es) (length counts) (length order) blocks in
    grouped (g.count + 1) g.cursors g.order g.blocks

-- the listed documents that find a place, in rising order
abbrev pub listed_in : List ℕ → Scratches → List ℕ
listed_in ids s = sorted_list (fitting (length s.sorted) (length s.taken) ids)

-- the centroids that find a place
abbrev pub centroids_in : List ℕ → Scratches → List ℕ
centroids_in centroids s = fitting (length s.known) (length s.order) centroids

-- of each of these documents the rank of the centroid that takes it
abbrev pub ranks_in : ClusteringAlgorithm → Documents → ℕ → List ℕ → List ℕ → Scratches → List ℕ
ranks_in algorithm d minimum ids centroids s =
    ranks_by algorithm d minimum (centroids_in centroids s) (sorted_list (centroids_in centroids s)) (length s.order) (length s.starts) (length s.slots) (length s.weights)
    (length s.sums) (length s.counts) (length s.keys) (listed_in ids s)

-- the documents of one centroid are a block
unfoldable pub groups_in : ClusteringAlgorithm → Documents → ℕ → List ℕ → List ℕ → Scratches → Grouped
groups_in algorithm d minimum ids centroids s = some_groups (ranks_in algorithm d minimum ids centroids s) (listed_in ids s) (zeros s.counts) (zeros s.order) s.blocks

-- the blocks' documents from the start of their buffer on, and zeros after them; the blocks' offsets from the start of theirs, after which
-- nothing changes; all else is zero
unfoldable pub clustered_in : ClusteringAlgorithm → Documents → ℕ → List ℕ → List ℕ → Scratches → Scratches
clustered_in algorithm d minimum ids centroids s =
    let g = groups_in algorithm d minimum ids centroids s in
    scratches g.order g.blocks (zeros s.sorted) (zeros s.known) (zeros s.taken) (zeros s.counts) (zeros s.starts) (zeros s.slots) (float_zeros s.weights)
    (float_zeros s.sums) (zeros s.keys)
