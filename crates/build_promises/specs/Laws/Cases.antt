-- Small lists, built whole and worked out: every number of the result.
use Rattle.std.specs.Prelude.{ℕ, ◌≡◌, refl, false, List, [], ◌∷◌, pos, Float}
use Rattle.std.specs.Float.{fin, binary32}
use Rattle.std.specs.Float.Ieee.{of_bits, of_int, add, sub, mul, div, lt, le}
use Rattle.configuration.specs.declared.BlockingStrategy.{BlockingStrategy}
use Rattle.configuration.specs.declared.BlockingStrategy.TheVariants.{FixedSize, RandomKmeans}
use Rattle.configuration.specs.declared.ClusteringAlgorithm.TheVariants as algorithm
use Rattle.configuration.specs.declared.SummarizationStrategy.{SummarizationStrategy}
use Rattle.configuration.specs.declared.SummarizationStrategy.TheVariants as strategy
use Rattle.sequences.specs.Lists.{put_once, rising, insert_by, sorted_by}
use Rattle.float32.specs.Key.{key_of, value_of}
use Rattle.float32.specs.Order.{at_most}
use Rattle.float32.specs.Rounding.{byte_of}
use Rattle.documents.specs.Documents.{Documents, documents, paired, terms, dot, greater_first, falling, largest}
use Rattle.packing.specs.Packing.{pack_of}
use Rattle.blocking.specs.Blocking.{fixed_offsets}
use Rattle.cluster_nearest.specs.Nearest.{greatest, nearest, nearest_or_itself, nearly}
use Rattle.cluster_meaning.specs.Clusters.{dissolved, reassign, exactly, approximately, clusters}
use Rattle.summary_maximum.specs.Maximum.{maxima}
use Rattle.summary_terms.specs.Summaries.{enough, preserving, summary}
use Rattle.quantizing.specs.Quantizing as quantizing
use Rattle.sparse_scores.specs.Layout.{arrays}
use Rattle.sparse_layout.specs.Layouts.{layout}
use Rattle.build_meaning.specs.Built.{Input, Built, blocks, summaries, built}

abbrev one : Float
one = fin false 1 (pos 0)

abbrev two : Float
two = fin false 1 (pos 1)

-- component 0 with 1; component 0 with 2; component 1 with 1; no term at all
abbrev four : Documents
four = documents (0 ∷ 1 ∷ 2 ∷ 3 ∷ 3 ∷ []) (0 ∷ 0 ∷ 1 ∷ []) (one ∷ two ∷ one ∷ [])

abbrev input : BlockingStrategy → SummarizationStrategy → List ℕ → Input
input k s ids = record { dimension = 2; blocking = k; summarization = s; documents = four; ids = ids; centroids = 1 ∷ 2 ∷ [] }

abbrev list : List ℕ → List ℕ → List ℕ → List ℕ → List ℕ → List ℕ → List Float → List Float → Built
list ps os cs cos is ks ms ss = record { postings = ps; block_offsets = os; summaries = arrays cs cos is ks ms ss }

pub record Worked : Type 0 where
  -- one block of three: least 1, greatest 2, step 1/255, codes 255 and 0
  pub by_size : built (input (FixedSize 3) (strategy.FixedSize 2) (2 ∷ 0 ∷ 1 ∷ []))
      ≡ list (131073 ∷ 1 ∷ 65537 ∷ []) (0 ∷ 3 ∷ []) (0 ∷ 1 ∷ []) (0 ∷ 1 ∷ 2 ∷ []) (0 ∷ 0 ∷ []) (255 ∷ 0 ∷ []) (one ∷ []) (of_bits binary32 0x3b808081 ∷ [])
  -- the group of two dissolves and one block is left: a repeated id, an empty document, half of the sum kept, step 0
  pub by_largest : built (input (RandomKmeans one 2 (algorithm.RandomKmeansInvertedIndexApprox 1)) (strategy.EnergyPreserving (of_bits binary32 0x3f000000)) (2 ∷ 0 ∷ 1 ∷ 0 ∷ 3 ∷ []))
      ≡ list (1 ∷ 1 ∷ 65537 ∷ 131073 ∷ 196608 ∷ []) (0 ∷ 5 ∷ []) (0 ∷ []) (0 ∷ 1 ∷ []) (0 ∷ []) (0 ∷ []) (two ∷ []) (fin false 0 (pos 0) ∷ [])
  -- two clusters: each summary has one term
  pub by_dot : built (input (RandomKmeans one 0 algorithm.RandomKmeans) (strategy.FixedSize 1) (2 ∷ 0 ∷ 1 ∷ []))
      ≡ list (1 ∷ 65537 ∷ 131073 ∷ []) (0 ∷ 2 ∷ 3 ∷ []) (0 ∷ 1 ∷ []) (0 ∷ 1 ∷ 2 ∷ []) (0 ∷ 1 ∷ []) (0 ∷ 0 ∷ []) (two ∷ one ∷ []) (fin false 0 (pos 0) ∷ fin false 0 (pos 0) ∷ [])
  -- an empty list by clusters: no offsets
  pub none : built (input (RandomKmeans one 0 algorithm.RandomKmeans) (strategy.FixedSize 1) []) ≡ list [] [] [] (0 ∷ []) [] [] [] []

pub worked : Worked
unfolding built blocks summaries fixed_offsets exactly approximately reassign dissolved nearest nearest_or_itself nearly greatest clusters put_once rising insert_by sorted_by terms paired dot greater_first
    falling largest at_most key_of value_of maxima enough preserving summary layout pack_of quantizing.least quantizing.greatest byte_of of_bits of_int add sub mul div lt le
worked = record { by_size = refl; by_largest = refl; by_dot = refl; none = refl }
