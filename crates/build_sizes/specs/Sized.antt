-- The result of a list's blocks, when writing it is refused, and what counting its sizes answers and leaves in what it is lent.
use Rattle.build_meaning.specs.declared.BuiltSizes.{BuiltSizes}
use Rattle.std.specs.Prelude.{ℕ, ◌+◌, ◌-◌, ◌≡◌, Bool, not, ◌&&◌, ◌||◌, cond, length, take, drop, leb, ltb, eqb, Result, Ok, Err}
use mathlib.Core.List.{List, [], ◌∷◌, ◌++◌, map, foldl}
use Rattle.refusal.specs.declared.Refusal.{Refusal}
use Rattle.refusal.specs.declared.Refusal.TheVariants.{OutsideLimits, BufferTooShort, EmptySummary}
use Rattle.refusal.specs.First.{Test, ◌gives◌, first_of}
use Rattle.packing.specs.declared.PackedPosting.{PackedPosting}
use Rattle.packing.specs.Packing as range
use Rattle.blocking.specs.Limits.{block_limit, dimension_limit}
use Rattle.configuration.specs.declared.SummarizationStrategy.{SummarizationStrategy}
use Rattle.documents.specs.Documents.{Term, Documents, start, size}
use Rattle.sparse_layout.specs.Layouts.{layout}
use Rattle.sparse_layout.specs.Counted.{present_from}
use Rattle.sparse_layout.specs.Keys.{on_to}
use Rattle.build_meaning.specs.Built.{Built}
use Rattle.build_meaning.specs.Needs.{Output, output_suffices}
use Rattle.build_meaning.specs.Building.{answer_by}
pub use Rattle.build_block_summary.specs.Blocks.{tops}
use Rattle.build_kept_keys.specs.Frames.{kept_in}
use Rattle.build_count_pass.specs.Counting.{none_empty, full_first, Counting, counting, count_left}
use Rattle.build_sizes.specs.declared.OutputLengths.{OutputLengths}

-- ---- the result, from the documents in block order and the block offsets
-- a document's range in one number; 0 for one that cannot be packed
abbrev pub packed_number : Result PackedPosting Refusal → ℕ
packed_number (Ok p) = p.0
packed_number (Err r) = 0

abbrev pub posting_of : Documents → ℕ → ℕ
posting_of d i = packed_number (range.packed (start d i) (start d i + size d i))

-- terms from the dimension on are left out
unfoldable pub built_from : ℕ → SummarizationStrategy → Documents → List ℕ → List ℕ → Built
built_from dimension strategy d order blocks = record { postings = map (posting_of d) order; block_offsets = blocks; summaries = layout (tops dimension strategy d order blocks) }

-- ---- when it is refused: 8 (dimension, blocks), 4 (work space), 7, 4 (output)
abbrev pub dimension_outside : ℕ → Bool
dimension_outside dimension = eqb dimension 0 || ltb dimension_limit dimension

-- of four buffers of so many places, one has none for some component below the dimension
abbrev pub any_short : ℕ → ℕ → ℕ → ℕ → ℕ → Bool
any_short dimension keys places maxima counts = ltb keys dimension || ltb places dimension || ltb maxima dimension || ltb counts dimension

abbrev pub work_tests : ℕ → ℕ → ℕ → ℕ → ℕ → ℕ → List Test
work_tests dimension blocks keys places maxima counts =
    (dimension_outside dimension gives OutsideLimits)
    ∷ (ltb block_limit blocks gives OutsideLimits)
    ∷ (any_short dimension keys places maxima counts gives BufferTooShort)
    ∷ []

-- for offsets of so many blocks, and for what is lent
abbrev pub work_for : ℕ → List ℕ → Counting → List Test
work_for dimension blocks w = work_tests dimension (length blocks - 1) (length w.keys) (length w.places) (length w.maxima) (length w.entry_counts)

abbrev pub laid_tests : ℕ → SummarizationStrategy → Documents → List ℕ → List ℕ → Counting → Output → List Test
laid_tests dimension strategy d order blocks w room =
    work_for dimension blocks w
    ++ ((not (none_empty (tops dimension strategy d order blocks)) gives EmptySummary)
    ∷ (not (output_suffices (built_from dimension strategy d order blocks) room) gives BufferTooShort)
    ∷ [])

unfoldable pub laid_verdict : ℕ → SummarizationStrategy → Documents → List ℕ → List ℕ → Counting → Output → Result (Unit {0}) Refusal
laid_verdict dimension strategy d order blocks w room = first_of (laid_tests dimension strategy d order blocks w room)

-- ---- counting
abbrev pub room_of : OutputLengths → Output
room_of l = record {
  postings = l.postings;
  block_offsets = l.block_offsets;
  summary_components = l.summary_components;
  component_offsets = l.component_offsets;
  summary_ids = l.summary_ids;
  codes = l.codes;
  minimums = l.minimums;
  steps = l.steps;
}

-- counts are taken for the components below the dimension, with the rest of the counts behind them
abbrev pub counted_front : ℕ → List (List Term) → Counting → Counting
counted_front dimension tops w =
    let c = count_left tops (counting w.keys w.places w.maxima (take dimension w.entry_counts) w.minimums w.steps) in
    counting c.keys c.places c.maxima (c.entry_counts ++ drop dimension w.entry_counts) c.minimums c.steps

-- the work refused: nothing changes. Else what counting leaves, up to the first empty summary
abbrev pub measured_by : Result (Unit {0}) Refusal → ℕ → List (List Term) → Counting → Counting
measured_by (Ok _) dimension tops w = counted_front dimension tops w
measured_by (Err r) dimension tops w = w

abbrev pub measured_left : ℕ → SummarizationStrategy → Documents → List ℕ → List ℕ → Counting → Counting
measured_left dimension strategy d order blocks w = measured_by (first_of (work_for dimension blocks w)) dimension (tops dimension strategy d order blocks) w

-- the same of the store: the keys that the blocks before the first empty summary keep
abbrev pub stored_by : Result (Unit {0}) Refusal → List (List Term) → List ℕ → List ℕ
stored_by (Ok _) tops store = kept_in (full_first tops) store
stored_by (Err r) tops store = store

abbrev pub measured_store : ℕ → SummarizationStrategy → Documents → List ℕ → List ℕ → Counting → List ℕ → List ℕ
measured_store dimension strategy d order blocks w store = stored_by (first_of (work_for dimension blocks w)) (tops dimension strategy d order blocks) store

-- what the first pass answers and leaves
pub record Measures (dimension : ℕ) (strategy : SummarizationStrategy) (d : Documents) (order blocks : List ℕ) (w : Counting) (room : Output) (r : Result BuiltSizes Refusal) (after : Counting) : Type 0 where
  pub answer : r ≡ answer_by (laid_verdict dimension strategy d order blocks w room) (built_from dimension strategy d order blocks)
  pub left : after ≡ measured_left dimension strategy d order blocks w

-- the sizes of a result of so many postings, offsets, components, entries and summaries, as long as they find room
abbrev pub judged_room : ℕ → ℕ → ℕ → ℕ → ℕ → OutputLengths → Bool
judged_room p o n e b l =
    (leb p l.postings && leb o l.block_offsets)
    && ((leb n l.summary_components && ltb n l.component_offsets) && ((leb e l.summary_ids && leb e l.codes) && (leb b l.minimums && leb b l.steps)))

abbrev pub sizes_or_refused : Bool → ℕ → ℕ → ℕ → ℕ → ℕ → Result BuiltSizes Refusal
sizes_or_refused fits p o n e b = cond (not fits) (Err BufferTooShort) (Ok (record { postings = p; block_offsets = o; summary_components = n; entries = e; summaries = b }))

abbrev pub room_by : ℕ → ℕ → ℕ → ℕ → ℕ → OutputLengths → Result BuiltSizes Refusal
room_by p o n e b l = sizes_or_refused (judged_room p o n e b l) p o n e b

-- the same for the sizes that counts give
abbrev pub room_answer : ℕ → ℕ → List ℕ → OutputLengths → Result BuiltSizes Refusal
room_answer p o counts l = room_by p o (length (present_from 0 counts)) (foldl on_to 0 counts) (o - 1) l
