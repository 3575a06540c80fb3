-- For laws on Built: which centroid takes each document of an input.
use Rattle.std.specs.Prelude.{ℕ, List}
use Rattle.configuration.specs.declared.ClusteringAlgorithm.{ClusteringAlgorithm}
use Rattle.cluster_meaning.specs.Clusters.{Assigned, assigned_by}
use Rattle.build_meaning.specs.Built.{Input}

-- each document of the list with the centroid that takes it, over an input
abbrev pub assigned_in : ClusteringAlgorithm → ℕ → Input → List Assigned
assigned_in algorithm minimum g = assigned_by algorithm g.documents minimum g.centroids g.ids
