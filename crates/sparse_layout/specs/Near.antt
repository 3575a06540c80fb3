-- What is read of a summary is near to it: demand 3, of the codes that a layout stores.
use Rattle.std.specs.Prelude.{◌≡◌, ℕ, ◌<◌, T, List, map, length, get_or, slice_index_or, Float}
use Rattle.std.specs.Float.{nan}
use Rattle.std.specs.Float.Ieee.{le}
use Rattle.documents.specs.Documents.{Term, term}
use Rattle.quantizing.specs.Quantizing.{least, greatest, step_for, code_of, read_back}
use Rattle.quantizing.specs.Demand3.{Drifts, least_step}
use Rattle.sparse_scores.specs.Layout.{Layout}
use Rattle.sparse_scores.specs.ReadBack.{terms_of}
use Rattle.sparse_layout.specs.Layouts.{values}

-- the value of a term, by its place
abbrev pub value_at : List Term → ℕ → Float
value_at ts k = (get_or ts k (term 0 nan)).value

-- of the summary s, laid down as number b of a layout: what is stored for it, what a search reads of it, and how near that is
pub record StoredNear (l : Layout) (b : ℕ) (s : List Term) : Type 0 where
  pub minimum : get_or l.minimums b nan ≡ least (values s)
  pub step : get_or l.steps b nan ≡ step_for (values s)
  -- its components and no other, each with the value that the code of its value stands for
  pub as_many : length (terms_of l b) ≡ length s
  pub components : map (λ t. t.component) (terms_of l b) ≡ map (λ t. t.component) s
  pub read : (k : ℕ) → k < length s → value_at (terms_of l b) k ≡ read_back (slice_index_or l.minimums b nan) (slice_index_or l.steps b nan) (code_of (slice_index_or l.minimums b nan) (slice_index_or l.steps b nan) (value_at s k))
  -- demand 3, where the stored step is at least 2 ^ -126
  pub near : T (le least_step (slice_index_or l.steps b nan)) → (k : ℕ) → k < length s → Drifts (slice_index_or l.minimums b nan) (greatest (values s)) (slice_index_or l.steps b nan) (value_at s k) (value_at (terms_of l b) k)
