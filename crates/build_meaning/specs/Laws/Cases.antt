-- Small lists, worked out: both ways of clustering, a repeated id, an empty document, a group that dissolves, an empty list, and both
-- summaries.
use Rattle.std.specs.Prelude.{ℕ, ◌≡◌, refl, false, List, [], ◌∷◌, pos, Float}
use Rattle.std.specs.Float.{fin, binary32}
use Rattle.std.specs.Float.Ieee.{of_bits, add, mul, lt, le}
use Rattle.configuration.specs.declared.BlockingStrategy.{BlockingStrategy}
use Rattle.configuration.specs.declared.BlockingStrategy.TheVariants.{FixedSize, RandomKmeans}
use Rattle.configuration.specs.declared.ClusteringAlgorithm.TheVariants as algorithm
use Rattle.configuration.specs.declared.SummarizationStrategy.{SummarizationStrategy}
use Rattle.configuration.specs.declared.SummarizationStrategy.TheVariants as strategy
use Rattle.sequences.specs.Lists.{put_once, rising, insert_by, sorted_by}
use Rattle.float32.specs.Key.{key_of}
use Rattle.float32.specs.Order.{at_most}
use Rattle.documents.specs.Documents.{term, Documents, documents, paired, terms, dot, greater_first, falling, largest}
use Rattle.blocking.specs.Blocking.{fixed_offsets}
use Rattle.cluster_nearest.specs.Nearest.{greatest, nearest, nearest_or_itself, nearly}
use Rattle.cluster_meaning.specs.Clusters.{dissolved, reassign, exactly, approximately, clusters}
use Rattle.summary_maximum.specs.Maximum.{maxima}
use Rattle.summary_terms.specs.Summaries.{enough, preserving, summary}
use Rattle.build_meaning.specs.Built.{Input, blocked, blocks, summaries}

abbrev one : Float
one = fin false 1 (pos 0)

abbrev two : Float
two = fin false 1 (pos 1)

-- component 0 with 1; component 0 with 2; component 1 with 1; no term at all
abbrev four : Documents
four = documents (0 ∷ 1 ∷ 2 ∷ 3 ∷ 3 ∷ []) (0 ∷ 0 ∷ 1 ∷ []) (one ∷ two ∷ one ∷ [])

abbrev five : List ℕ
five = 2 ∷ 0 ∷ 1 ∷ 0 ∷ 3 ∷ []

abbrev input : BlockingStrategy → SummarizationStrategy → List ℕ → Input
input k s ids = record { dimension = 2; blocking = k; summarization = s; documents = four; ids = ids; centroids = 1 ∷ 2 ∷ [] }

-- the two greatest; half of the sum
abbrev most : SummarizationStrategy
most = strategy.FixedSize 2

abbrev half : SummarizationStrategy
half = strategy.EnergyPreserving (of_bits binary32 0x3f000000)

abbrev exact : ℕ → BlockingStrategy
exact minimum = RandomKmeans one minimum algorithm.RandomKmeans

abbrev approximate : ℕ → BlockingStrategy
approximate minimum = RandomKmeans one minimum (algorithm.RandomKmeansInvertedIndexApprox 1)

pub record Worked : Type 0 where
  -- the document with no term goes to the first centroid
  pub by_dot : blocks (input (exact 0) most five) ≡ blocked (0 ∷ 0 ∷ 1 ∷ 3 ∷ 2 ∷ []) (0 ∷ 4 ∷ 5 ∷ [])
  -- the group of document 2 dissolves, and the dissolved centroid takes it again
  pub by_dot_again : blocks (input (exact 1) most five) ≡ blocked (0 ∷ 0 ∷ 1 ∷ 3 ∷ 2 ∷ []) (0 ∷ 4 ∷ 5 ∷ [])
  -- the document with no term goes to the last centroid
  pub by_largest : blocks (input (approximate 0) most five) ≡ blocked (0 ∷ 0 ∷ 1 ∷ 2 ∷ 3 ∷ []) (0 ∷ 3 ∷ 5 ∷ [])
  -- a group of two dissolves, and its centroid competes no more
  pub by_largest_again : blocks (input (approximate 2) most five) ≡ blocked (0 ∷ 0 ∷ 1 ∷ 2 ∷ 3 ∷ []) (0 ∷ 5 ∷ [])
  pub none : blocks (input (exact 0) most []) ≡ blocked [] []
  pub by_size : blocks (input (FixedSize 2) most five) ≡ blocked five (0 ∷ 2 ∷ 5 ∷ [])
  -- each component of a block once, with its maximum, rising
  pub two_greatest : summaries (input (FixedSize 3) most (2 ∷ 0 ∷ 1 ∷ [])) ≡ (term 0 two ∷ term 1 one ∷ []) ∷ []
  -- 2 alone is at least half of 3
  pub half_of_sum : summaries (input (FixedSize 3) half (2 ∷ 0 ∷ 1 ∷ [])) ≡ (term 0 two ∷ []) ∷ []

pub worked : Worked
unfolding blocks summaries fixed_offsets exactly approximately reassign dissolved nearest nearest_or_itself nearly greatest clusters put_once rising insert_by sorted_by terms paired dot greater_first falling
    largest at_most key_of maxima enough preserving summary of_bits add mul lt le
worked = record { by_dot = refl; by_dot_again = refl; by_largest = refl; by_largest_again = refl; none = refl; by_size = refl; two_greatest = refl; half_of_sum = refl }
