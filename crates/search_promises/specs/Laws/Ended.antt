-- Laws of Ended: from the contract of a search and its answer to all that is promised.
use Rattle.std.specs.Prelude.{ℕ, ◌≡◌, refl, Bool, List, Float, Result, Ok, Err}
use Rattle.std.proofs.Common.{arith, sym, ap, ◌∙◌}
use Rattle.std.proofs.Math.Path.{subst}
use Rattle.sequences.specs.Lists.{from}
use Rattle.refusal.specs.declared.Refusal.{Refusal}
use Rattle.refusal.specs.First.{first_of}
use Rattle.refusal.specs.Laws.First.{first-fault}
use Rattle.sparse_scores.specs.Scores.{put_in}
use Rattle.search_probe.specs.declared.Answer.{Answer}
use Rattle.search_probe.specs.declared.Answer.TheVariants as answer
use Rattle.search_probe.specs.Probing.{Place, Reached, goes_on, stops_at, left}
use Rattle.search_probe.specs.Probed.{Lends, Left, laid}
use Rattle.search.specs.Order.{by_score}
use Rattle.search.specs.Searched.{Question, block_count, scores_for, swept, tests, Searched, leaves, if_accepted, score_places, searched, SearchedInOrder, leaves_in_order, if_accepted_in_order, order_places}
use Rattle.search.specs.Searched.{searched_in_order}
use Rattle.search_promises.specs.Ran.{Ran}
use Rattle.search_promises.specs.Laws.Ran.{ran}
use Rattle.search_promises.specs.Ended.{Ended, Halted, Refused, Follows, left_in}

module _ (q : Question) (l : Lends) (blocks : List ℕ) (places : Bool) where
  accepted-follows : first_of (tests q l places) ≡ Ok tt → Follows q l blocks places (laid q.terms l (swept q blocks l)).lent (laid q.terms l (swept q blocks l)).answer
  accepted-follows a = go (swept q blocks l) refl
    where
      runs : Ran q l blocks (laid q.terms l (swept q blocks l)).lent
      runs = ran q l places a blocks

      go : (r : Reached) → swept q blocks l ≡ r → Follows q l blocks places (laid q.terms l r).lent (laid q.terms l r).answer
      go (goes_on t) s =
          let R : Ran q l blocks (laid q.terms l (goes_on t)).lent = subst (λ r. Ran q l blocks (laid q.terms l r).lent) s runs in
          record {
            runs = R;
            last = t;
            on = s;
            kept_many = refl;
            counts_evaluated = sym (ap (λ z. (left z).evaluated) s) ∙ R.promises.sweeps.counts_evaluated ∙ omega arith;
            counts_skipped = sym (ap (λ z. (left z).skipped) s) ∙ R.promises.sweeps.counts_skipped ∙ omega arith;
          }
      go (stops_at n i t) s =
          let R : Ran q l blocks (laid q.terms l (stops_at n i t)).lent = subst (λ r. Ran q l blocks (laid q.terms l r).lent) s runs in
          record { runs = R; last = t; off = s; reason = R.promises.stops_for n i t s }

-- ---- the contract of `search`
module _ (q : Question) (l : Lends) (xs : List Float) where
  pub search-follows : (f : Left) (ys : List Float) → leaves f ys ≡ searched q l xs
      → Follows q l (from 0 (block_count q)) (score_places q xs) f.lent f.answer × (ys ≡ left_in f.answer (scores_for q) xs)
  unfolding searched
  search-follows f ys h = subst (λ (z : Searched). Follows q l (from 0 (block_count q)) (score_places q xs) z.found.lent z.found.answer
      × (z.block_scores ≡ left_in z.found.answer (scores_for q) xs)) (sym h) (go (first_of (tests q l (score_places q xs))) refl)
    where
      done : Searched
      done = leaves (laid q.terms l (swept q (from 0 (block_count q)) l)) (put_in (scores_for q) xs)

      written : (r : Reached) → put_in (scores_for q) xs ≡ left_in (laid q.terms l r).answer (scores_for q) xs
      written (goes_on t) = refl
      written (stops_at r i t) = refl

      go : (v : Result (Unit {0}) Refusal) → first_of (tests q l (score_places q xs)) ≡ v
          → Follows q l (from 0 (block_count q)) (score_places q xs) (if_accepted v done l xs).found.lent (if_accepted v done l xs).found.answer × ((if_accepted v done l xs).block_scores
          ≡ left_in (if_accepted v done l xs).found.answer (scores_for q) xs)
      go (Ok _) a = (accepted-follows q l (from 0 (block_count q)) (score_places q xs) a, written (swept q (from 0 (block_count q)) l))
      go (Err r) a = (record { fault = first-fault (tests q l (score_places q xs)) r a; unchanged = refl }, refl)

  pub search-ended : (f : Left) (ys : List Float) (n e m : ℕ) → leaves f ys ≡ searched q l xs → f.answer ≡ answer.Found n e m → Ended q l (from 0 (block_count q)) f.lent n e m
      × (ys ≡ put_in (scores_for q) xs)
  search-ended f ys n e m h k = subst (λ a. Follows q l (from 0 (block_count q)) (score_places q xs) f.lent a × (ys ≡ left_in a (scores_for q) xs)) k (search-follows f ys h)

  pub search-halted : (f : Left) (ys : List Float) (r : Refusal) (i : Place) → leaves f ys ≡ searched q l xs → f.answer ≡ answer.Stopped r i → Halted q l (from 0 (block_count q)) f.lent r i
      × (ys ≡ put_in (scores_for q) xs)
  search-halted f ys r i h k = subst (λ a. Follows q l (from 0 (block_count q)) (score_places q xs) f.lent a × (ys ≡ left_in a (scores_for q) xs)) k (search-follows f ys h)

  pub search-refused : (f : Left) (ys : List Float) (r : Refusal) → leaves f ys ≡ searched q l xs → f.answer ≡ answer.Refused r → Refused q l (score_places q xs) f.lent r × (ys ≡ xs)
  search-refused f ys r h k = subst (λ a. Follows q l (from 0 (block_count q)) (score_places q xs) f.lent a × (ys ≡ left_in a (scores_for q) xs)) k (search-follows f ys h)

-- ---- the contract of `sort_and_search`
module _ (q : Question) (l : Lends) (xs : List Float) (bs : List ℕ) where
  -- what is left of the scores and of the order
  abbrev Sorted : Lends → List Float → List ℕ → Answer → Type 0
  Sorted x ys cs a = Follows q l (by_score (scores_for q)) (order_places q xs bs) x a × (ys ≡ left_in a (scores_for q) xs) × (cs ≡ left_in a (by_score (scores_for q)) bs)

  pub sorted-follows : (f : Left) (ys : List Float) (cs : List ℕ) → leaves_in_order f ys cs ≡ searched_in_order q l xs bs → Sorted f.lent ys cs f.answer
  unfolding searched_in_order
  sorted-follows f ys cs h = subst (λ (z : SearchedInOrder). Sorted z.found.lent z.block_scores z.block_order z.found.answer) (sym h) (go (first_of (tests q l (order_places q xs bs))) refl)
    where
      done : SearchedInOrder
      done = leaves_in_order (laid q.terms l (swept q (by_score (scores_for q)) l)) (put_in (scores_for q) xs) (put_in (by_score (scores_for q)) bs)

      written : {A : Type 0} (result buffer : List A) (r : Reached) → put_in result buffer ≡ left_in (laid q.terms l r).answer result buffer
      written result buffer (goes_on t) = refl
      written result buffer (stops_at r i t) = refl

      go : (v : Result (Unit {0}) Refusal) → first_of (tests q l (order_places q xs bs)) ≡ v
          → Sorted (if_accepted_in_order v done l xs bs).found.lent (if_accepted_in_order v done l xs bs).block_scores (if_accepted_in_order v done l xs bs).block_order
          (if_accepted_in_order v done l xs bs).found.answer
      go (Ok _) a = (
        accepted-follows q l (by_score (scores_for q)) (order_places q xs bs) a,
        written (scores_for q) xs (swept q (by_score (scores_for q)) l),
        written (by_score (scores_for q)) bs
            (swept q (by_score (scores_for q)) l),
      )
      go (Err r) a = (record { fault = first-fault (tests q l (order_places q xs bs)) r a; unchanged = refl }, refl, refl)

  pub sorted-ended : (f : Left) (ys : List Float) (cs : List ℕ) (n e m : ℕ) → leaves_in_order f ys cs ≡ searched_in_order q l xs bs → f.answer ≡ answer.Found n e m
      → Ended q l (by_score (scores_for q)) f.lent n e m × (ys ≡ put_in (scores_for q) xs) × (cs ≡ put_in (by_score (scores_for q)) bs)
  sorted-ended f ys cs n e m h k = subst (Sorted f.lent ys cs) k (sorted-follows f ys cs h)

  pub sorted-halted : (f : Left) (ys : List Float) (cs : List ℕ) (r : Refusal) (i : Place) → leaves_in_order f ys cs ≡ searched_in_order q l xs bs → f.answer ≡ answer.Stopped r i
      → Halted q l (by_score (scores_for q)) f.lent r i × (ys ≡ put_in (scores_for q) xs) × (cs ≡ put_in (by_score (scores_for q)) bs)
  sorted-halted f ys cs r i h k = subst (Sorted f.lent ys cs) k (sorted-follows f ys cs h)

  pub sorted-refused : (f : Left) (ys : List Float) (cs : List ℕ) (r : Refusal) → leaves_in_order f ys cs ≡ searched_in_order q l xs bs → f.answer ≡ answer.Refused r
      → Refused q l (order_places q xs bs) f.lent r × (ys ≡ xs) × (cs ≡ bs)
  sorted-refused f ys cs r h k = subst (Sorted f.lent ys cs) k (sorted-follows f ys cs h)
