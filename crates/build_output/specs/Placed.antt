-- What the second pass over a list's blocks leaves in the output it is lent, for any blocks, counts and buffers.
use Rattle.std.specs.Prelude.{ℕ, List, map, length, take, Float}
use Rattle.std.proofs.lemmas.List.Edits.{sets}
use Rattle.configuration.specs.declared.SummarizationStrategy.{SummarizationStrategy}
use Rattle.documents.specs.Documents.{Documents}
use Rattle.sparse_layout.specs.Keys.{Lent, lent, named, laid_components, laid_starts, scanned}
use Rattle.summary_terms.specs.Answers.{limit_of}
use Rattle.build_block_summary.specs.Blocks.{tops}
use Rattle.build_kept_keys.specs.Frames.{recalled}
use Rattle.build_fill_pass.specs.Filling.{Filling, filling, fill_left}
use Rattle.build_sizes.specs.Sized.{posting_of}

-- the output that the second pass writes
pub record Written : Type 0 where
  pub postings : List ℕ
  pub block_offsets : List ℕ
  pub summary_components : List ℕ
  pub component_offsets : List ℕ
  pub summary_ids : List ℕ
  pub codes : List ℕ

abbrev pub written : List ℕ → List ℕ → List ℕ → List ℕ → List ℕ → List ℕ → Written
written p o c s i k = record { postings = p; block_offsets = o; summary_components = c; component_offsets = s; summary_ids = i; codes = k }

-- where the entries of each component below the dimension begin, from how many there are
abbrev pub cursors_of : ℕ → List ℕ → List ℕ
cursors_of dimension counts = scanned 0 0 (named (take dimension counts)) (take dimension counts)

-- the entries as `fill` leaves them, with a store of the blocks' kept keys
abbrev pub filled_by : ℕ → SummarizationStrategy → Documents → List ℕ → List ℕ → List ℕ → Filling → Filling
filled_by dimension strategy d order blocks store f =
    fill_left (recalled store (tops (limit_of dimension (length f.keys) (length f.places) (length f.maxima)) strategy d order blocks)) f

abbrev pub entries_of : ℕ → SummarizationStrategy → Documents → List ℕ → List ℕ → List ℕ → List ℕ → List ℕ → List Float → List ℕ → Written → Lent
entries_of dimension strategy d order blocks store keys places maxima counts w = (filled_by dimension strategy d order blocks store (filling keys places maxima (lent (cursors_of dimension counts)
    w.summary_ids w.codes))).entries

-- the postings and the block offsets from the start of their buffers on, the layout's components and where each begins, and the entries
abbrev pub second_pass : ℕ → SummarizationStrategy → Documents → List ℕ → List ℕ → List ℕ → List ℕ → List ℕ → List Float → List ℕ → Written → Written
second_pass dimension strategy d order blocks store keys places maxima counts w =
    written
    (sets w.postings 0 (map (posting_of d) order))
    (sets w.block_offsets 0 blocks)
    (laid_components 0 0 (named (take dimension counts)) w.summary_components)
    (laid_starts 0 0 (named (take dimension counts)) w.component_offsets)
    (entries_of dimension strategy d order blocks store keys places maxima counts w).summary_ids
    (entries_of dimension strategy d order blocks store keys places maxima counts w).codes
