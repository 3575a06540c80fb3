-- What a build answers, and what it leaves in the lent buffers. Document 01, "Numbered refusals".
use Rattle.refusal.specs.declared.Refusal.{Refusal}
use Rattle.std.specs.Prelude.{ℕ, Bool, not, List, [], ◌∷◌, ◌++◌, length, drop, eqb, Float, Result, Ok, Err}
use Rattle.refusal.specs.declared.Refusal.TheVariants.{BufferTooShort, EmptySummary}
use Rattle.refusal.specs.Refusals.{number_of}
use Rattle.refusal.specs.First.{Test, ◌gives◌, first_of}
use Rattle.sequences.specs.Lists.{every}
use Rattle.build_admission.specs.Admission.{input_tests}
use Rattle.build_meaning.specs.declared.BuiltSizes.{BuiltSizes}
use Rattle.build_meaning.specs.Built.{Input, Built, summaries, built}
use Rattle.build_meaning.specs.Needs.{sizes_of, scratch_needs, scratch_suffices, Output, output_suffices}
pub use Rattle.clearing.specs.Zeros.{zeros, float_zeros}
pub use Rattle.scratch.specs.Scratches.{Scratches, scratches}
unfoldable pub use Rattle.scratch.specs.Scratches.{scratch_lengths, cleared_scratch}

-- the buffers that a build writes its result to
pub record Outputs : Type 0 where
  pub postings : List ℕ
  pub block_offsets : List ℕ
  pub summary_components : List ℕ
  pub component_offsets : List ℕ
  pub summary_ids : List ℕ
  pub codes : List ℕ
  pub minimums : List Float
  pub steps : List Float

abbrev pub outputs : List ℕ → List ℕ → List ℕ → List ℕ → List ℕ → List ℕ → List Float → List Float → Outputs
outputs a b c d e f g h = record { postings = a; block_offsets = b; summary_components = c; component_offsets = d; summary_ids = e; codes = f; minimums = g; steps = h }

-- these, and the buffers that it works in
pub record Lent : Type 0 where
  pub output : Outputs
  pub scratch : Scratches

abbrev pub lent : Outputs → Scratches → Lent
lent o s = record { output = o; scratch = s }

unfoldable pub output_lengths : Outputs → Output
output_lengths o = record {
  postings = length o.postings;
  block_offsets = length o.block_offsets;
  summary_components = length o.summary_components;
  component_offsets = length o.component_offsets;
  summary_ids = length o.summary_ids;
  codes = length o.codes;
  minimums = length o.minimums;
  steps = length o.steps;
}

-- ---- when a build is refused
abbrev pub some_empty : {A : Type 0} → List (List A) → Bool
some_empty ls = not (every (λ l. not (eqb (length l) 0)) ls)

-- 4 (scratch), 7, 4 (output)
abbrev pub room_tests : Input → Lent → List Test
room_tests g lent =
    (not (scratch_suffices (scratch_needs (sizes_of g)) (scratch_lengths lent.scratch)) gives BufferTooShort)
    ∷ (some_empty (summaries g) gives EmptySummary)
    ∷ (not (output_suffices (built g) (output_lengths lent.output)) gives BufferTooShort)
    ∷ []

-- 8 (length, dimension), 6, 14 (listed documents and centroids), 1, 2 (listed documents), 3 or 5, 8 (blocks), and then those
unfoldable pub tests : Input → Lent → List Test
tests g lent = input_tests g.dimension g.blocking g.documents g.ids g.centroids ++ room_tests g lent

unfoldable pub verdict_of : Input → Lent → Result (Unit {0}) Refusal
verdict_of g lent = first_of (tests g lent)

-- ---- what it leaves
-- a result at the front of a lent buffer; past it nothing changes
abbrev pub laid : {A : Type 0} → List A → List A → List A
laid result buffer = result ++ drop (length result) buffer

unfoldable pub cleared_output : Outputs → Outputs
cleared_output o = record {
  postings = zeros o.postings;
  block_offsets = zeros o.block_offsets;
  summary_components = zeros o.summary_components;
  component_offsets = zeros o.component_offsets;
  summary_ids = zeros o.summary_ids;
  codes = zeros o.codes;
  minimums = float_zeros o.minimums;
  steps = float_zeros o.steps;
}

-- the result in front of each output buffer
unfoldable pub filled : Built → Outputs → Outputs
filled b o = record {
  postings = laid b.postings o.postings;
  block_offsets = laid b.block_offsets o.block_offsets;
  summary_components = laid b.summaries.summary_components o.summary_components;
  component_offsets = laid b.summaries.component_offsets o.component_offsets;
  summary_ids = laid b.summaries.summary_ids o.summary_ids;
  codes = laid b.summaries.codes o.codes;
  minimums = laid b.summaries.minimums o.minimums;
  steps = laid b.summaries.steps o.steps;
}

-- a refused build sets all output to zero, an accepted one leaves it past its result; both zero the scratch
abbrev pub left_by : Result (Unit {0}) Refusal → Input → Lent → Lent
left_by (Ok _) g lent = record { output = filled (built g) lent.output; scratch = cleared_scratch lent.scratch }
left_by (Err r) g lent = record { output = cleared_output lent.output; scratch = cleared_scratch lent.scratch }

unfoldable pub left : Input → Lent → Lent
left g lent = left_by (verdict_of g lent) g lent

-- ---- what it answers: the refusal, or how many numbers each output buffer then has at its front
abbrev pub sizes_built : Built → BuiltSizes
sizes_built b = record {
  postings = length b.postings;
  block_offsets = length b.block_offsets;
  summary_components = length b.summaries.summary_components;
  entries = length b.summaries.summary_ids;
  summaries = length b.summaries.minimums;
}

abbrev pub answer_by : Result (Unit {0}) Refusal → Built → Result BuiltSizes Refusal
answer_by (Ok _) b = Ok (sizes_built b)
answer_by (Err r) b = Err r

-- an answer in document 01's terms, under the names of include/merino.h: the number of the refusal, 0 for none, and how many numbers of
-- the result stand in front of the output buffers, none where the build is refused
pub record InNumbers : Type 0 where
  pub number : ℕ
  pub postings_written : ℕ
  pub block_offsets_written : ℕ
  pub summary_components_written : ℕ
  pub entries_written : ℕ
  pub summaries_written : ℕ

abbrev pub numbers : ℕ → ℕ → ℕ → ℕ → ℕ → ℕ → InNumbers
numbers n p o c e s = record { number = n; postings_written = p; block_offsets_written = o; summary_components_written = c; entries_written = e; summaries_written = s }

abbrev pub in_numbers : Result BuiltSizes Refusal → InNumbers
in_numbers (Err r) = numbers (number_of r) 0 0 0 0 0
in_numbers (Ok s) = numbers 0 s.postings s.block_offsets s.summary_components s.entries s.summaries

pub record Left : Type 0 where
  pub answer : Result BuiltSizes Refusal
  pub lent : Lent

abbrev pub leaves : Result BuiltSizes Refusal → Lent → Left
leaves a l = record { answer = a; lent = l }

-- a build as a whole: its answer, and all that was lent
unfoldable pub builds : Input → Lent → Left
builds g l = leaves (answer_by (verdict_of g l) (built g)) (left g l)
