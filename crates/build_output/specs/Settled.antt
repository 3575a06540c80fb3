-- What ending a build whose entries were counted answers and leaves, for any answer, blocks, counts and buffers.
use Rattle.build_meaning.specs.declared.BuiltSizes.{BuiltSizes}
use Rattle.refusal.specs.declared.Refusal.{Refusal}
use Rattle.std.specs.Prelude.{ℕ, List, Float, Result, Ok, Err}
use Rattle.configuration.specs.declared.SummarizationStrategy.{SummarizationStrategy}
use Rattle.documents.specs.Documents.{Documents}
use Rattle.build_meaning.specs.Building.{Outputs, outputs, zeros, float_zeros, cleared_output}
use Rattle.build_output.specs.Placed.{Written, written, second_pass}

-- the answer, the output and the work space
pub record Left : Type 0 where
  pub answer : Result BuiltSizes Refusal
  pub output : Outputs
  pub keys : List ℕ
  pub places : List ℕ
  pub maxima : List Float
  pub entry_counts : List ℕ

abbrev pub left : Result BuiltSizes Refusal → Outputs → List ℕ → List ℕ → List Float → List ℕ → Left
left a o k p m c = record { answer = a; output = o; keys = k; places = p; maxima = m; entry_counts = c }

-- the output without the blocks' minimums and steps, which the first pass writes
abbrev pub written_of : Outputs → Written
written_of o = written o.postings o.block_offsets o.summary_components o.component_offsets o.summary_ids o.codes

abbrev pub over : Written → Outputs → Outputs
over w o = outputs w.postings w.block_offsets w.summary_components w.component_offsets w.summary_ids w.codes o.minimums o.steps

abbrev pub settled : Result BuiltSizes Refusal → ℕ → SummarizationStrategy → Documents → List ℕ → List ℕ → List ℕ → Outputs → List ℕ → List ℕ → List Float → List ℕ → Left
settled (Err r) dimension strategy d order blocks store o k p m c = left (Err r) (cleared_output o) (zeros k) (zeros p) (float_zeros m) (zeros c)
settled (Ok z) dimension strategy d order blocks store o k p m c = left (Ok z) (over (second_pass dimension strategy d order blocks store k p m c (written_of o)) o) (zeros k)
    (zeros p) (float_zeros m) (zeros c)
