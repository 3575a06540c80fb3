-- The strategies of a build, chosen by numbers. Every number chooses one; what the chosen one does not use is not looked at.
use Rattle.std.specs.Prelude.{ℕ, cond, eqb, Float}
use Rattle.configuration.specs.declared.BlockingStrategy.{BlockingStrategy}
use Rattle.configuration.specs.declared.BlockingStrategy.TheVariants.{FixedSize, RandomKmeans}
use Rattle.configuration.specs.declared.ClusteringAlgorithm.{ClusteringAlgorithm}
use Rattle.configuration.specs.declared.ClusteringAlgorithm.TheVariants as algorithm
use Rattle.configuration.specs.declared.SummarizationStrategy.{SummarizationStrategy}
use Rattle.configuration.specs.declared.SummarizationStrategy.TheVariants as summary

-- 1 for the dot product with each centroid, 2 for a document's largest terms; any other number does as 2, and is reserved
unfoldable pub algorithm_of : ℕ → ℕ → ClusteringAlgorithm
algorithm_of blocking doc_cut = cond (eqb blocking 1) algorithm.RandomKmeans (algorithm.RandomKmeansInvertedIndexApprox doc_cut)

-- 0 for a fixed size, 1 and 2 for the nearest centroid; any other number does as 2, and is reserved
unfoldable pub blocking_of : ℕ → ℕ → Float → ℕ → ℕ → BlockingStrategy
blocking_of blocking size fraction minimum doc_cut = cond (eqb blocking 0) (FixedSize size) (RandomKmeans fraction minimum (algorithm_of blocking doc_cut))

-- 0 for a fixed size, 1 for energy; any other number does as 1, and is reserved
unfoldable pub summarization_of : ℕ → ℕ → Float → SummarizationStrategy
summarization_of summarization size energy = cond (eqb summarization 0) (summary.FixedSize size) (summary.EnergyPreserving energy)
