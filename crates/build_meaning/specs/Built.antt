-- A posting list, built from an accepted input. Document 01, "Leaves first".
use Rattle.std.specs.Prelude.{ℕ, List, [], ◌∷◌, map, length}
use Rattle.configuration.specs.declared.BlockingStrategy.{BlockingStrategy}
use Rattle.configuration.specs.declared.BlockingStrategy.TheVariants.{FixedSize, RandomKmeans}
use Rattle.configuration.specs.declared.SummarizationStrategy.{SummarizationStrategy}
use Rattle.sequences.specs.Lists.{joined, offsets_from, between}
use Rattle.documents.specs.Documents.{Term, Documents, packed}
use Rattle.blocking.specs.Blocking.{fixed_offsets}
use Rattle.cluster_meaning.specs.Clusters.{assigned_by, clusters}
use Rattle.summary_terms.specs.Summaries.{summary}
use Rattle.sparse_scores.specs.Layout.{Layout}
use Rattle.sparse_layout.specs.Layouts.{layout}

pub record Input : Type 0 where
  pub dimension : ℕ
  pub blocking : BlockingStrategy
  pub summarization : SummarizationStrategy
  pub documents : Documents
  pub ids : List ℕ
  pub centroids : List ℕ

abbrev pub input : ℕ → BlockingStrategy → SummarizationStrategy → Documents → List ℕ → List ℕ → Input
input dimension blocking summarization d ids centroids = record { dimension = dimension; blocking = blocking; summarization = summarization; documents = d; ids = ids; centroids = centroids }

-- the documents in the order of the list, and the block offsets
pub record Blocked : Type 0 where
  pub documents : List ℕ
  pub block_offsets : List ℕ

abbrev pub blocked : List ℕ → List ℕ → Blocked
blocked is os = record { documents = is; block_offsets = os }

-- one block per cluster; an empty list has no offsets
abbrev pub in_clusters : List (List ℕ) → Blocked
in_clusters [] = blocked [] []
in_clusters (b ∷ bs) = blocked (joined (b ∷ bs)) (offsets_from 0 (b ∷ bs))

abbrev pub blocked_by : BlockingStrategy → Documents → List ℕ → List ℕ → Blocked
blocked_by (FixedSize size) d centroids ids = blocked ids (fixed_offsets (length ids) size)
blocked_by (RandomKmeans fraction minimum algorithm) d centroids ids = in_clusters (clusters (assigned_by algorithm d minimum centroids ids))

abbrev pub blocked_in : BlockingStrategy → Input → Blocked
blocked_in blocking g = blocked_by blocking g.documents g.centroids g.ids

unfoldable pub blocks : Input → Blocked
blocks g = blocked_in g.blocking g

-- the documents of each block
abbrev pub block_documents : Input → List (List ℕ)
block_documents g = between (blocks g).block_offsets (blocks g).documents

-- one summary for each block
unfoldable pub summaries : Input → List (List Term)
summaries g = map (summary g.summarization g.documents) (block_documents g)

pub record Built : Type 0 where
  pub postings : List ℕ
  pub block_offsets : List ℕ
  pub summaries : Layout

unfoldable pub built : Input → Built
built g = record { postings = map (packed g.documents) (blocks g).documents; block_offsets = (blocks g).block_offsets; summaries = layout (summaries g) }
