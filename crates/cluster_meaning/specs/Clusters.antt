-- Document 01, "Clusters".
use Rattle.std.specs.Prelude.{ℕ, Bool, not, ◌&&◌, cond, List, map, length, leb, ltb}
use Rattle.sort.specs.Sorted.{sorted}
use Rattle.sequences.specs.Lists.{those, first_or, rising, with_key}
use Rattle.documents.specs.Documents.{Documents}
use Rattle.configuration.specs.declared.ClusteringAlgorithm.{ClusteringAlgorithm}
use Rattle.configuration.specs.declared.ClusteringAlgorithm.TheVariants as algorithm
use Rattle.cluster_nearest.specs.Nearest.{nearest, nearest_or_itself, nearly}

-- ---- documents with their centroids
pub record Assigned : Type 0 where
  pub centroid : ℕ
  pub document : ℕ

abbrev pub assigned : ℕ → ℕ → Assigned
assigned c i = record { centroid = c; document = i }

abbrev pub centroid_of : Assigned → ℕ
centroid_of a = a.centroid

abbrev pub document_of : Assigned → ℕ
document_of a = a.document

abbrev pub assign : (ℕ → ℕ) → List ℕ → List Assigned
assign f ids = map (λ i. assigned (f i) i) ids

-- a group of at most the minimum size dissolves; a centroid that drew nothing has no group
abbrev pub small : ℕ → ℕ → Bool
small minimum n = ltb 0 n && leb n minimum

unfoldable pub dissolved : ℕ → List Assigned → ℕ → Bool
dissolved minimum pairs c = small minimum (length (with_key centroid_of c pairs))

-- the documents of dissolved groups are assigned again
unfoldable pub reassign : ℕ → (ℕ → ℕ) → List Assigned → List Assigned
reassign minimum again pairs = map (λ a. cond (dissolved minimum pairs a.centroid) (assigned (again a.document) a.document) a) pairs

-- now a dissolved centroid doesn't take itself at once, but stays a candidate for all
unfoldable pub exactly : Documents → ℕ → List ℕ → List ℕ → List Assigned
exactly d minimum centroids ids = reassign minimum (nearest d centroids) (assign (nearest_or_itself d centroids) ids)

-- survivors alone compete the second time, those that drew nothing included
abbrev pub survivors : ℕ → List Assigned → List ℕ → List ℕ
survivors minimum pairs centroids = those (λ c. not (dissolved minimum pairs c)) centroids

unfoldable pub approximately : Documents → ℕ → ℕ → List ℕ → List ℕ → List Assigned
approximately d cut minimum centroids ids =
    let first = first_or 0 centroids in
    let pairs = assign (nearly d cut first centroids) ids in
    reassign minimum (nearly d cut first (survivors minimum pairs centroids)) pairs

-- by the chosen mode
abbrev pub assigned_by : ClusteringAlgorithm → Documents → ℕ → List ℕ → List ℕ → List Assigned
assigned_by algorithm.RandomKmeans d minimum centroids ids = exactly d minimum centroids ids
assigned_by (algorithm.RandomKmeansInvertedIndexApprox cut) d minimum centroids ids = approximately d cut minimum centroids ids

-- ---- one block per centroid present, the centroids rising, and the documents of each
unfoldable pub clusters : List Assigned → List (List ℕ)
clusters pairs = map (λ c. sorted (map document_of (with_key centroid_of c pairs))) (rising (map centroid_of pairs))
