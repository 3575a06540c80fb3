-- The blocks of a list: the documents of each, their terms, and those that each one's summary keeps. Document 01, "Block maximum and
-- summaries".
use Rattle.std.specs.Prelude.{ℕ, suc, ◌-◌, List, map, get_or}
use Rattle.sequences.specs.Lists.{part, between}
use Rattle.documents.specs.Documents.{Term, Documents}
use Rattle.configuration.specs.declared.SummarizationStrategy.{SummarizationStrategy}
use Rattle.summary_maximum.specs.Maximum.{block_terms, below}
use Rattle.summary_terms.specs.Summaries.{summary_of}

-- the documents of the block b: one of `between blocks order`, and none past the last
abbrev pub block_at : List ℕ → List ℕ → ℕ → List ℕ
block_at blocks order b = part (get_or blocks b 0) (get_or blocks (suc b) 0 - get_or blocks b 0) order

-- the terms that each summary keeps, of the terms of each block
abbrev pub tops_of : SummarizationStrategy → List (List Term) → List (List Term)
tops_of strategy blocks = map (summary_of strategy) blocks

-- the terms of each block are those of its documents, with components below a limit
abbrev pub terms_in : ℕ → Documents → List (List ℕ) → List (List Term)
terms_in limit d blocks = map (λ block. below limit (block_terms d block)) blocks

abbrev pub tops : ℕ → SummarizationStrategy → Documents → List ℕ → List ℕ → List (List Term)
tops limit strategy d order blocks = tops_of strategy (terms_in limit d (between blocks order))
