-- What the end of a build answers, and what it leaves in what it is lent.
use Rattle.refusal.specs.declared.Refusal.{Refusal}
use Rattle.std.specs.Prelude.{ℕ, List, take, Float, Result, Ok, Err}
use Rattle.configuration.specs.declared.SummarizationStrategy.{SummarizationStrategy}
use Rattle.documents.specs.Documents.{Documents}
use Rattle.build_meaning.specs.Building.{Outputs, output_lengths, zeros, cleared_output}
use Rattle.build_count_pass.specs.Counting.{counting}
use Rattle.build_layout.specs.Laid.{built_from, laid_verdict, Left, left, left_by}

-- what writing leaves, and beside it the documents in block order and the block offsets
pub record Finished : Type 0 where
  pub written : Left
  pub order : List ℕ
  pub blocks : List ℕ

abbrev pub finished : Left → List ℕ → List ℕ → Finished
finished w o b = record { written = w; order = o; blocks = b }

-- blocks refused: all output is zero, and nothing else changes. Blocks made: the result of the first documents in block order and of so
-- many offsets is written, and both buffers are zero
abbrev pub finished_by : Result ℕ Refusal → ℕ → SummarizationStrategy → Documents → ℕ → Outputs → List ℕ → List ℕ → List ℕ → List ℕ → List Float → List ℕ → Finished
finished_by (Err r) dimension s d listed o order blocks k c x t = finished (left (Err r) (cleared_output o) k c x t) order blocks
finished_by (Ok n) dimension s d listed o order blocks k c x t =
    finished
    (left_by (laid_verdict dimension s d (take listed order) (take n blocks) (counting k c x t o.minimums o.steps) (output_lengths o)) (built_from dimension s d (take listed order) (take n blocks))
    o k c x t)
    (zeros order)
    (zeros blocks)

-- the scratch that the keys of the blocks were stored in: zero once blocks were made, else as it was
abbrev pub slots_by : Result ℕ Refusal → List ℕ → List ℕ
slots_by (Err r) slots = slots
slots_by (Ok n) slots = zeros slots
