-- What is known of an accepted list and an accepted query.
use Rattle.std.specs.Prelude.{◌≤◌, ◌≡◌, true, List, length}
use Rattle.sequences.specs.Lists.{EachOf, every, strictly_rise}
use Rattle.documents.specs.Documents.{Term}
use Rattle.quantizing.specs.Quantizing.{minimum_allowed, step_allowed}
use Rattle.quantizing.specs.Extremes.{F32}
use Rattle.sparse_scores.specs.Layout.{Layout}

-- what the types of the lent slices say: minimums, steps and query values are f32, and codes are bytes
pub record Typed (l : Layout) (query : List Term) : Type 0 where
  pub minimums : EachOf F32 l.minimums
  pub steps : EachOf F32 l.steps
  pub codes : EachOf (λ k. k ≤ 255) l.codes
  pub values : EachOf (λ q. F32 q.value) query

-- ---- the parts of refusal 9
pub record Parts (l : Layout) : Type 0 where
  pub rises : strictly_rise l.summary_components ≡ true
  pub as_many : length l.minimums ≡ length l.steps
  pub minimums : every minimum_allowed l.minimums ≡ true
  pub steps : every step_allowed l.steps ≡ true
