-- The ranks that the passes of the chosen mode leave.
use Rattle.std.specs.Prelude.{ℕ, min, List, length, take}
use Rattle.configuration.specs.declared.ClusteringAlgorithm.{ClusteringAlgorithm}
use Rattle.configuration.specs.declared.ClusteringAlgorithm.TheVariants as algorithm
use Rattle.documents.specs.Documents.{Documents}
use Rattle.cluster_exact.specs.Exact.{exact_ranks}
use Rattle.cluster_approximate.specs.Approximate.{approximate_ranks}

-- the centroids that find a place in two slices
abbrev pub fitting : ℕ → ℕ → List ℕ → List ℕ
fitting a b centroids = take (min a b) centroids

-- the ranks that the passes of a mode leave, for slices of any length; the approximate mode gathers centroids in o places
abbrev pub ranks_by : ClusteringAlgorithm → Documents → ℕ → List ℕ → List ℕ → ℕ → ℕ → ℕ → ℕ → ℕ → ℕ → ℕ → List ℕ → List ℕ
ranks_by algorithm.RandomKmeans d minimum centroids known o s a b n k q ids = exact_ranks d minimum centroids known s a b (min (length centroids) n) k ids
ranks_by (algorithm.RandomKmeansInvertedIndexApprox cut) d minimum centroids known o s a b n k q ids = approximate_ranks d cut minimum (take o centroids) known s a b n k q ids
