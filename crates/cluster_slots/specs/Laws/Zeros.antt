-- From scores that are all +0, the choice is the last greatest of those that compete, and leaves all +0 again.
use Prim.Native.Nat.{ℕ, zero, suc, ◌-◌, ◌≤◌, ◌<◌, min}
use native.Mathlib.Omega.{arith}
use Rattle.std.specs.Prelude.{◌≡◌, Bool, false, List, ◌∷◌, ◌++◌, length, take, replicate, Float}
use Rattle.std.proofs.Math.Path.{refl, sym, ap}
use Rattle.std.proofs.Common.{◌∙◌, ne_eqb}
use Rattle.std.proofs.Math.Bool.{true, cond}
use Rattle.std.proofs.Math.ListN.{get_or, drop, take-append-drop}
use Rattle.std.proofs.lemmas.List.{length-replicate, get_or-replicate}
use Rattle.std.specs.Float.{nan}
use Rattle.float32.specs.Order.{at_most}
use Rattle.sequences.specs.Lists.{among}
use Rattle.documents.specs.Documents.{Term, Documents}
use Rattle.cluster_index.specs.Index.{add_terms}
use Rattle.cluster_nearest.specs.Nearest.{last_from, last_no_less}
use Rattle.cluster_nearest.specs.Scored.{scores_of}
use Rattle.cluster_slots.specs.Met.{met, none, best_met, from_zero, none_above, chosen, clear_met, meet_many, chosen_by, set_back, nearest_by_keys, scores_after, Clear}
use Rattle.cluster_slots.specs.Laws.Kept.{Fitting, add-length, keeps, add_fit, zeros-fit, added-cut, set_back_lem}
use Rattle.cluster_slots.specs.Laws.Nearest.{zip-cut, above-picked, last-picked}

-- ---- by the terms' scores from zeros on: the last greatest, where there are no more scores than centroids
module _ (index : Documents) (m : ℕ) (qs : List Term) (first : ℕ) (cs : List ℕ) (few : m ≤ length cs) where
  abbrev sums : List Float
  sums = scores_of index m qs

  scores-fit : Fitting sums
  scores-fit = add_fit index qs (replicate m none) (zeros-fit m)

  scores-length : length sums ≡ m
  scores-length = add-length index qs (replicate m none) ∙ length-replicate m none

  scores-short : length sums ≤ length cs
  scores-short = omega (arith, scores-length)

  not-met : (s : ℕ) → s < length sums → among s (met index qs) ≡ false → get_or sums s nan ≡ none
  not-met s h e = keeps s nan index qs (replicate m none) e ∙ get_or-replicate m s none nan (omega (arith, scores-length))

  pub chosen_is : chosen first cs index sums qs ≡ last_no_less first cs sums
  unfolding chosen
  chosen_is = go (at_most (best_met index sums qs).score none) refl
    where
      past : at_most (best_met index sums qs).score none ≡ true → (k : ℕ) → from_zero sums (length sums) ≡ k → none_above first cs sums k ≡ last_no_less first cs sums
      past h zero e = refl
      past h (suc j) e =
          ap (λ t. cond t (last_no_less first cs sums) (get_or cs (suc j - 1) 0)) (ne_eqb (suc j) 0 (λ q. omega arith))
          ∙ ap (λ z. get_or cs z 0) (let z : suc j - 1 ≡ j = omega arith in z)
          ∙ last-picked first cs sums scores-fit scores-short (met index qs) not-met h j e

      go : (t : Bool) → at_most (best_met index sums qs).score none ≡ t
          → cond t (none_above first cs sums (from_zero sums (length sums))) (get_or cs (best_met index sums qs).slot.0 0) ≡ last_no_less first cs sums
      go true h = past h (from_zero sums (length sums)) refl
      go false h = above-picked first cs sums scores-fit scores-short (met index qs) not-met h

  either : chosen_by first cs index sums qs ≡ last_no_less first cs sums
  either = go (meet_many index sums qs)
    where
      go : (t : Bool) → cond t (last_no_less first cs sums) (chosen first cs index sums qs) ≡ last_no_less first cs sums
      go true = refl
      go false = chosen_is

  back : set_back index sums qs ≡ replicate m none
  back = go (meet_many index sums qs)
    where
      go : (t : Bool) → cond t (replicate (length sums) none) (clear_met index sums qs) ≡ replicate m none
      go true = ap (λ n. replicate n none) scores-length
      go false = set_back_lem index m qs

-- ---- the whole: from scores that are all +0
module _ (index : Documents) (m : ℕ) (qs : List Term) (first : ℕ) (cs : List ℕ) where
  zeros-cut : take (length cs) (replicate m none) ≡ replicate (min (length cs) m) none
  zeros-cut = go (length cs) m
    where
      go : (k n : ℕ) → take k (replicate n none) ≡ replicate (min k n) none
      go zero n = ap (λ z. replicate z none) (let z : 0 ≡ min 0 n = omega arith in z)
      go (suc k) zero = ap (λ z. replicate z none) (let z : 0 ≡ min (suc k) 0 = omega arith in z)
      go (suc k) (suc n) = ap (λ l. none ∷ l) (go k n) ∙ ap (λ z. replicate z none) (let z : suc (min k n) ≡ min (suc k) (suc n) = omega arith in z)

  -- it is the last greatest of those that compete
  pub nearest-is : nearest_by_keys first cs index (replicate m none) qs ≡ last_no_less first cs (scores_of index m qs)
  unfolding nearest_by_keys last_no_less
  nearest-is =
      ap (λ l. chosen_by first cs index (add_terms index l qs) qs) zeros-cut
      ∙ either index (min (length cs) m) qs first cs (omega arith)
      ∙ ap (λ l. last_no_less first cs (add_terms index l qs)) (sym zeros-cut)
      ∙ ap (last_no_less first cs) (sym (added-cut index (length cs) qs (replicate m none)))
      ∙ ap (last_from first) (sym (zip-cut first cs (scores_of index m qs)))

  -- and all scores are +0 again
  pub zeros-again : scores_after cs index (replicate m none) qs ≡ replicate m none
  unfolding scores_after
  zeros-again =
      ap (λ l. l ++ drop (length cs) (replicate m none))
      (ap (λ l. set_back index (add_terms index l qs) qs) zeros-cut ∙ back index (min (length cs) m) qs first cs (omega arith) ∙ sym zeros-cut)
      ∙ take-append-drop (length cs) (replicate m none)

pub from-zeros : (index : Documents) (xs ys : List Float) (qs ps : List Term) (first : ℕ) (cs : List ℕ) (r : ℕ) → Clear xs → qs ≡ ps → (r ≡ nearest_by_keys first cs index xs qs)
    × (ys ≡ scores_after cs index xs qs)
    → (r ≡ last_no_less first cs (scores_of index (length xs) ps)) × (ys ≡ replicate (length xs) none)
from-zeros index xs ys qs ps first cs r z e p = (
  p.0 ∙ (λ j. nearest_by_keys first cs index (z j) (e j)) ∙ nearest-is index (length xs) ps first cs,
  p.1 ∙ ap (λ l. scores_after cs index l qs) z ∙ zeros-again index (length xs) qs first cs,
)
