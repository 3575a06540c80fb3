-- What counting the entries of a list's blocks answers and leaves in what it is lent: counts by component, and the minimum and the step of
-- each block. Document 01, "Quantizing" and "Sparse layout".
use Rattle.std.specs.Prelude.{ℕ, Bool, not, length, eqb, Float}
use mathlib.Core.List.{List, map, foldl}
use Rattle.std.proofs.lemmas.List.Edits.{sets}
use Rattle.sequences.specs.Lists.{every, before}
use Rattle.documents.specs.Documents.{Term}
use Rattle.quantizing.specs.Quantizing.{least, step_for}
use Rattle.sparse_layout.specs.Layouts.{values, entries_from}
use Rattle.sparse_layout.specs.Placing.{component_of}
use Rattle.sparse_layout.specs.Keys.{counted}
use Rattle.clearing.specs.Zeros.{zeros, float_zeros}

-- each summary keeps a term
abbrev pub none_empty : List (List Term) → Bool
none_empty tops = every (λ t. not (eqb (length t) 0)) tops

-- those before the first that keeps none
abbrev pub full_first : List (List Term) → List (List Term)
full_first tops = before (λ t. eqb (length t) 0) tops

-- ---- what is lent: work space, and the results
pub record Counting : Type 0 where
  pub keys : List ℕ
  pub places : List ℕ
  pub maxima : List Float
  pub entry_counts : List ℕ
  pub minimums : List Float
  pub steps : List Float

abbrev pub counting : List ℕ → List ℕ → List Float → List ℕ → List Float → List Float → Counting
counting k p m c l s = record { keys = k; places = p; maxima = m; entry_counts = c; minimums = l; steps = s }

-- how often each component comes in the kept terms, from zeros on
abbrev pub counts_of : List (List Term) → List ℕ → List ℕ
counts_of tops counts = foldl counted (zeros counts) (map component_of (entries_from 0 tops))

abbrev pub minimums_of : List (List Term) → List Float
minimums_of tops = map (λ t. least (values t)) tops

abbrev pub steps_of : List (List Term) → List Float
steps_of tops = map (λ t. step_for (values t)) tops

-- the work space all zero, the counts, and in front of each buffer as many minimums and steps as find a place
abbrev pub counted_in : List (List Term) → Counting → Counting
counted_in tops l =
    counting (zeros l.keys) (zeros l.places) (float_zeros l.maxima) (counts_of tops l.entry_counts) (sets l.minimums 0 (minimums_of tops)) (sets l.steps 0 (steps_of tops))

-- of the blocks before the first whose summary is empty
abbrev pub count_left : List (List Term) → Counting → Counting
count_left tops l = counted_in (full_first tops) l
