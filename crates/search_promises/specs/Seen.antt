-- What a caller of the C function has, by its number and the numbers beside it.
use Rattle.std.specs.Prelude.{ℕ, ◌≡◌, Bool, cond, List, eqb, Float}
use Rattle.sequences.specs.Lists.{from}
use Rattle.refusal.specs.declared.Refusal.{Refusal}
use Rattle.refusal.specs.Refusals.{number_of}
use Rattle.sparse_scores.specs.Scores.{put_in}
use Rattle.search_probe.specs.declared.Answer.{Answer}
use Rattle.search_probe.specs.Probed.{Lends, in_numbers}
use Rattle.search.specs.Order.{by_score}
use Rattle.search.specs.Searched.{Question, block_count, scores_for, score_places, order_places}
use Rattle.c_search.specs.Found.{Shown}
use Rattle.search_promises.specs.Ended.{Refused, Follows, left_in}

-- ---- the choice of the order: 0 for number order, else greater score first
abbrev pub turns_by : ℕ → Question → List ℕ
turns_by by q = cond (eqb by 0) (from 0 (block_count q)) (by_score (scores_for q))

abbrev pub places_by : ℕ → Question → List Float → List ℕ → Bool
places_by by q xs bs = cond (eqb by 0) (score_places q xs) (order_places q xs bs)

-- the order's places hold it at the end, unless the search was refused; in number order they are not looked at
abbrev pub order_by : ℕ → Question → Answer → List ℕ → List ℕ
order_by by q a bs = cond (eqb by 0) bs (left_in a (by_score (scores_for q)) bs)

-- what is shown of an answer: its numbers, and what follows of it
pub record Shows (by : ℕ) (q : Question) (l : Lends) (xs : List Float) (bs : List ℕ) (z : Shown) (a : Answer) : Type 0 where
  pub number_is : z.number ≡ (in_numbers a).number
  pub position_is : z.position ≡ (in_numbers a).position
  pub evaluated_is : z.evaluated ≡ (in_numbers a).evaluated
  pub skipped_is : z.skipped ≡ (in_numbers a).skipped
  pub follows : Follows q l (turns_by by q) (places_by by q xs bs) z.lent a
  pub scores-are : z.block_scores ≡ left_in a (scores_for q) xs
  pub order_is : z.block_order ≡ order_by by q a bs

-- ---- by the number that is shown
-- the blocks' scores stand at the front of what was lent for them, and so does their order, if they were sorted
abbrev pub Written : ℕ → Question → List Float → List ℕ → Shown → Type 0
Written by q xs bs z = (z.block_scores ≡ put_in (scores_for q) xs) × (z.block_order ≡ cond (eqb by 0) bs (put_in (by_score (scores_for q)) bs))

-- refused for the first fault, and nothing has changed
pub record Declined (by : ℕ) (q : Question) (l : Lends) (xs : List Float) (bs : List ℕ) (z : Shown) : Type 0 where
  pub reason : Refusal
  pub number_is : z.number ≡ number_of reason
  pub refused : Refused q l (places_by by q xs bs) z.lent reason
  pub scores_stay : z.block_scores ≡ xs
  pub order_stays : z.block_order ≡ bs
  pub no_position : z.position ≡ 0
  pub none_evaluated : z.evaluated ≡ 0
  pub none-skipped : z.skipped ≡ 0
