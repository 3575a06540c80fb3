-- Laws of Numbers: no score that an accepted search leaves is a NaN. They ask only what every slice satisfies by its type: an f32 at each
-- place of a slice of f32, a number below 256 at each place of a slice of bytes.
use Rattle.refusal.specs.declared.Refusal.{Refusal}
use Rattle.std.specs.Prelude.{ℕ, suc, ◌≤◌, ◌<◌, ◌≡◌, Bool, not, ◌&&◌, length, get_or, take, drop, T, leb, ltb, Float, Result, Ok, Err}
use Rattle.std.proofs.Common.{arith, sym, ap, ◌∙◌, take_all, take_at, leb-true}
use Rattle.std.proofs.Math.Path.{refl, subst}
use Rattle.std.proofs.Math.Bool.{true}
use mathlib.Core.List.{List, [], ◌∷◌, ◌++◌, zip_with}
use Rattle.std.specs.Float.{nan}
use Rattle.std.specs.Float.Ieee.{is_nan}
use Rattle.std.proofs.lemmas.Bool.{not-false}
use Rattle.sequences.specs.Lists.{EachOf, every, from}
use Rattle.sequences.specs.Laws.Lists.{both}
use Rattle.refusal.specs.First.{first_of, Faultless}
use Rattle.refusal.specs.Laws.First.{faultless}
use Rattle.float32.specs.Laws.Tests.{is_true}
use Rattle.documents.specs.Documents.{paired}
use Rattle.kept_list.specs.Lent.{Lent, entries, places}
use Rattle.kept_list.specs.Push.{is_number}
use Rattle.quantizing.specs.Demand3.{F32s}
use Rattle.quantizing.specs.Extremes.{F32}
use Rattle.quantizing.specs.Laws.Extremes.{each-f32}
use Rattle.sparse_scores.specs.Scores.{put_in}
use Rattle.sparse_scores.specs.Laws.WalkLaws.{scores-length}
use Rattle.sparse_scores.specs.WellFormed.{well_formed}
use Rattle.sparse_scores.specs.Promises.{Typed}
use Rattle.sparse_scores.specs.Laws.Promises.{parts}
use Rattle.search_probe.specs.declared.Answer.{Answer}
use Rattle.search_probe.specs.declared.Answer.TheVariants.{Refused, Stopped, Found}
use Rattle.search_probe.specs.Probed.{Lends, Left, laid}
use Rattle.search.specs.Order.{by_score}
use Rattle.search.specs.Searched.{Question, block_count, scores_for, swept, room, tests, if_accepted, score_places, Searched, leaves, searched, if_accepted_in_order, order_places, SearchedInOrder}
use Rattle.search.specs.Searched.{leaves_in_order, searched_in_order}
use Rattle.search.specs.Dots.{query_terms}
use Rattle.search.specs.Laws.Scores.{block-score-number}
use Rattle.search.specs.Laws.KeptNumbers.{both_true, kept-numbers}
use Rattle.search.specs.Numbers.{numbers, numbers_left}

numbers-left : (a : Answer) (n : ℕ) (xs : List Float) (l : Lent) → numbers (take n xs) ≡ true → every is_number (entries l) ≡ true → numbers_left a n xs l ≡ true
numbers-left (Refused r) n xs l h k = refl
numbers-left (Stopped r i) n xs l h k = both_true (numbers (take n xs)) (every is_number (entries l)) h k
numbers-left (Found m e s) n xs l h k = both_true (numbers (take n xs)) (every is_number (entries l)) h k

-- ---- what the types of the lent slices say
each-paired : (qs : List ℕ) (ws : List Float) → EachOf F32 ws → EachOf (λ t. F32 t.value) (paired qs ws)
unfolding paired zip_with
each-paired [] ws e = tt
each-paired (q ∷ qs) [] e = tt
each-paired (q ∷ qs) (w ∷ ws) e = (e.0, each-paired qs ws e.1)

each-byte : (codes : List ℕ) → ((k : ℕ) → get_or codes k 0 < 256) → EachOf (λ k. k ≤ 255) codes
each-byte [] h = tt
each-byte (c ∷ codes) h = (let z = h 0 in omega arith, each-byte codes (λ k. h (suc k)))

pub record Slices (q : Question) : Type 0 where
  pub query_values : F32s q.terms.query_values
  pub codes : (k : ℕ) → get_or q.layout.codes k 0 < 256
  pub minimums : F32s q.layout.minimums
  pub steps : F32s q.layout.steps

typed-by : (q : Question) → Slices q → Typed q.layout (query_terms q.terms)
typed-by q s = record {
  minimums = each-f32 q.layout.minimums s.minimums;
  steps = each-f32 q.layout.steps s.steps;
  codes = each-byte q.layout.codes s.codes;
  values = each-paired q.terms.query_components q.terms.query_values (each-f32 q.terms.query_values s.query_values);
}

all-numbers : (xs : List Float) → ((s : ℕ) → s < length xs → T (not (is_nan (get_or xs s nan)))) → numbers xs ≡ true
all-numbers [] h = refl
all-numbers (x ∷ xs) h = both_true (not (is_nan x)) (numbers xs) (is_true (not (is_nan x)) (h 0 (omega arith))) (all-numbers xs (λ s l. h (suc s) (omega arith)))

-- ---- an accepted search
module _ (q : Question) (l : Lends) (b : Bool) (accepted : first_of (tests q l b) ≡ Ok tt) where
  faults : Faultless (tests q l b)
  faults = faultless (tests q l b) accepted

  pub roomy : (places q.k l.kept ≡ true) × ((ltb (length q.terms.components) (length l.visits) ≡ true) × (b ≡ true))
  roomy =
      let r = both (places q.k l.kept) (ltb (length q.terms.components) (length l.visits) && b) (not-false (room q l b) faults.1.1.1.1.1.0) in
      (r.0, both (ltb (length q.terms.components) (length l.visits)) b r.1)

  pub scores-many : length (scores_for q) ≡ block_count q
  scores-many =
      let e = (parts (length q.postings) q.block_offsets q.layout (not-false (well_formed (length q.postings) q.block_offsets q.layout) faults.1.1.1.0)).as_many in
      scores-length q.layout (query_terms q.terms) ∙ omega arith

  scores-numbers : Slices q → (xs : List Float) → block_count q ≤ length xs → numbers (take (block_count q) (put_in (scores_for q) xs)) ≡ true
  scores-numbers s xs h =
      ap (λ l. numbers (take (block_count q) (l ++ drop (length (scores_for q)) xs))) (take_all (length xs) (scores_for q) (omega (arith, scores-many)))
      ∙ ap numbers (take_at (scores_for q) (drop (length (scores_for q)) xs) (block_count q) scores-many)
      ∙ all-numbers (scores_for q) (λ n k. block-score-number q l b accepted (typed-by q s) n (omega (arith, scores-many)))

module _ (q : Question) (s : Slices q) (l : Lends) (xs : List Float) where
  pub searched-numbers : (f : Left) (ys : List Float) → leaves f ys ≡ searched q l xs → numbers_left f.answer (block_count q) ys f.lent.kept ≡ true
  unfolding searched
  searched-numbers f ys e = go (first_of (tests q l (score_places q xs))) refl e
    where
      go : (v : Result (Unit {0}) Refusal) → first_of (tests q l (score_places q xs)) ≡ v → leaves f ys ≡ if_accepted v (leaves (laid q.terms l (swept q (from 0 (block_count q)) l)) (put_in (scores_for q) xs)) l xs
          → numbers_left f.answer (block_count q) ys f.lent.kept ≡ true
      go (Err r) h e = subst (λ z. numbers_left z (block_count q) ys f.lent.kept ≡ true) (sym (ap (λ (z : Searched). z.found.answer) e)) refl
      go (Ok tt) h e =
          numbers-left f.answer (block_count q) ys f.lent.kept
          (ap (λ (z : Searched). numbers (take (block_count q) z.block_scores)) e ∙ scores-numbers q l (score_places q xs) h s xs (leb-true (block_count q) (length xs) (roomy q l (score_places q xs)
          h).1.1))
          (ap (λ (z : Searched). every is_number (entries z.found.lent.kept)) e ∙ kept-numbers q l (score_places q xs) h (from 0 (block_count q)))

  pub ordered-numbers : (bs : List ℕ) (f : Left) (ys : List Float) (cs : List ℕ) → leaves_in_order f ys cs ≡ searched_in_order q l xs bs → numbers_left f.answer (block_count q) ys f.lent.kept ≡ true
  unfolding searched_in_order
  ordered-numbers bs f ys cs e = go (first_of (tests q l (order_places q xs bs))) refl e
    where
      go : (v : Result (Unit {0}) Refusal) → first_of (tests q l (order_places q xs bs)) ≡ v
          → leaves_in_order f ys cs ≡ if_accepted_in_order v (leaves_in_order (laid q.terms l (swept q (by_score (scores_for q)) l)) (put_in (scores_for q) xs) (put_in (by_score (scores_for q)) bs)) l xs bs
          → numbers_left f.answer (block_count q) ys f.lent.kept ≡ true
      go (Err r) h e = subst (λ z. numbers_left z (block_count q) ys f.lent.kept ≡ true) (sym (ap (λ (z : SearchedInOrder). z.found.answer) e)) refl
      go (Ok tt) h e =
          let p = both (score_places q xs) (leb (block_count q) (length bs)) (roomy q l (order_places q xs bs) h).1.1 in
          numbers-left f.answer (block_count q) ys f.lent.kept
          (ap (λ (z : SearchedInOrder). numbers (take (block_count q) z.block_scores)) e ∙ scores-numbers q l (order_places q xs bs) h s xs (leb-true (block_count q) (length xs) p.0))
          (ap (λ (z : SearchedInOrder). every is_number (entries z.found.lent.kept)) e ∙ kept-numbers q l (order_places q xs bs) h (by_score (scores_for q)))
