-- What making the blocks of a list answers, and what it leaves in scratch.
use Rattle.refusal.specs.declared.Refusal.{Refusal}
use Rattle.std.specs.Prelude.{ℕ, not, List, [], ◌∷◌, ◌++◌, length, Result, Ok, Err}
use Rattle.configuration.specs.declared.BlockingStrategy.{BlockingStrategy}
use Rattle.refusal.specs.declared.Refusal.TheVariants.{BufferTooShort}
use Rattle.refusal.specs.First.{Test, ◌gives◌}
use Rattle.documents.specs.Documents.{Documents}
use Rattle.build_admission.specs.Admission.{input_tests}
use Rattle.build_meaning.specs.Built.{Blocked}
use Rattle.build_meaning.specs.Needs.{sizes_for, scratch_needs, scratch_suffices}
use Rattle.build_meaning.specs.Building.{Scratches, scratches, scratch_lengths, laid, cleared_scratch}

-- all that looks at the input alone, and then 4 (scratch)
abbrev pub make_tests : ℕ → BlockingStrategy → Documents → List ℕ → List ℕ → Scratches → List Test
make_tests dimension blocking d ids centroids s =
    input_tests dimension blocking d ids centroids ++ ((not (scratch_suffices (scratch_needs (sizes_for dimension blocking d ids centroids)) (scratch_lengths s)) gives BufferTooShort) ∷ [])

pub record Left : Type 0 where
  pub answer : Result ℕ Refusal
  pub scratch : Scratches

abbrev pub left : Result ℕ Refusal → Scratches → Left
left a s = record { answer = a; scratch = s }

-- scratch is zero, but for the list's documents in block order and the block offsets, each from the start of its buffer on
abbrev pub holding : Blocked → Scratches → Scratches
holding b s =
    let z = cleared_scratch s in
    scratches (laid b.documents z.order) (laid b.block_offsets z.blocks) z.sorted z.known z.taken z.counts z.starts z.slots z.weights z.sums z.keys

abbrev pub left_by : Result (Unit {0}) Refusal → Blocked → Scratches → Left
left_by (Ok _) b s = left (Ok (length b.block_offsets)) (holding b s)
left_by (Err r) b s = left (Err r) (cleared_scratch s)
