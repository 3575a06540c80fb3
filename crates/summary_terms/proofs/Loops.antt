-- The loops one turn at a time.
use Prim.Native.Nat.{ℕ, zero, suc, ◌+◌, ◌<◌, min}
use native.Mathlib.Omega.{arith}
use native.Mathlib.Numerals.{add-one}
use mathlib.Core.Path.{◌≡◌, refl, ap, ◌∙◌}
use mathlib.Core.Bool.{true, false, cond}
use mathlib.Core.List.{List, [], ◌∷◌, ◌++◌, map, foldl, zip_with, map-append, foldl-append}
use lib.ListN.{length, get_or, take, drop, set, length-map}
use lib.Seq.{drop-cons, drop-length}
use lib.Ieee.{Float, nan, binary32, add, mul, le}
use Rattle.configuration.specs.declared.SummarizationStrategy.{SummarizationStrategy}
use Rattle.configuration.specs.declared.SummarizationStrategy.TheVariants.{FixedSize, EnergyPreserving}
use Rattle.documents.specs.Documents.{sum}
use Rattle.documents.specs.TermKeys.{value_of_term}
use Rattle.summary_terms.specs.Answers.{zero as zero_value}
use Rattle.summary_terms.specs.Steps.{key_of_pair, reached_by, kept_count}

-- ---- components joined with their maxima
join-suc : (n : ℕ) (ks : List ℕ) (ms : List Float) → n < length ks → length ks ≡ length ms
    → set (take n (zip_with key_of_pair ks ms) ++ drop n ks) n (key_of_pair (get_or (take n (zip_with key_of_pair ks ms) ++ drop n ks) n 0) (get_or ms n nan)) ≡ take (suc n) (zip_with key_of_pair ks ms) ++ drop (suc n) ks
unfolding zip_with
join-suc n [] ms h e = let z : ⊥ = omega arith in absurd z
join-suc n (k ∷ ks) [] h e = let z : ⊥ = omega arith in absurd z
join-suc zero (k ∷ ks) (m ∷ ms) h e = refl
join-suc (suc n) (k ∷ ks) (m ∷ ms) h e = ap (λ l. key_of_pair k m ∷ l) (join-suc n ks ms (omega arith) (omega arith))

pub join_step : (n : ℕ) (ks : List ℕ) (ms : List Float) (b : List ℕ) (x : ℕ) → b ≡ take n (zip_with key_of_pair ks ms) ++ drop n ks → n < length ks → length ks ≡ length ms
    → x ≡ key_of_pair (get_or b n 0) (get_or ms n nan) → set b n x ≡ take (n + 1) (zip_with key_of_pair ks ms) ++ drop (n + 1) ks
join_step n ks ms b x e h l q = rw (q, e, add-one n) (join-suc n ks ms h l)

join-all : (ks : List ℕ) (ms : List Float) → length ks ≡ length ms → take (length ks) (zip_with key_of_pair ks ms) ++ drop (length ks) ks ≡ zip_with key_of_pair ks ms
unfolding zip_with
join-all [] ms e = refl
join-all (k ∷ ks) [] e = let z : ⊥ = omega arith in absurd z
join-all (k ∷ ks) (m ∷ ms) e = ap (λ l. key_of_pair k m ∷ l) (join-all ks ms (omega arith))

pub join-end : (n : ℕ) (ks : List ℕ) (ms : List Float) (b : List ℕ) → b ≡ take n (zip_with key_of_pair ks ms) ++ drop n ks → n ≡ length ks → length ks ≡ length ms → b ≡ zip_with key_of_pair ks ms
join-end n ks ms b e h l = e ∙ rw h (join-all ks ms l)

-- ---- the running sum of the keys' values
pub one_more : (ks : List ℕ) (k : ℕ) → sum (map value_of_term (ks ++ (k ∷ []))) ≡ add binary32 (sum (map value_of_term ks)) (value_of_term k)
one_more ks k = ap sum (map-append value_of_term ks (k ∷ [])) ∙ foldl-append (add binary32) zero_value (map value_of_term ks) (value_of_term k ∷ [])

-- the same place by place, for whoever counts places
pub total-step : (a a' w : Float) (ks : List ℕ) (i : ℕ) → i < length ks → foldl (add binary32) a (map value_of_term (drop i ks)) ≡ w → a' ≡ add binary32 a (value_of_term (get_or ks i 0)) → foldl (add binary32) a' (map value_of_term (drop (i + 1) ks)) ≡ w
total-step a a' w ks i h e q = let d = drop-cons ks i 0 h in rw (q, add-one i) (rw d at e)

pub total-end : (a w : Float) (ks : List ℕ) (i : ℕ) → i ≡ length ks → foldl (add binary32) a (map value_of_term (drop i ks)) ≡ w → a ≡ w
total-end a w ks i e h = rw (e, drop-length ks) at h

module _ (goal : Float) (ks : List ℕ) (i : ℕ) (h : i < length ks) (w : ℕ) (a a' : Float) (e : i + reached_by goal a (map value_of_term (drop i ks)) ≡ w) (q : a' ≡ add binary32 a (value_of_term (get_or ks i 0))) where
  turn : i + suc (cond (le goal a') 0 (reached_by goal a' (map value_of_term (drop (i + 1) ks)))) ≡ w
  unfolding reached_by
  turn = let d = drop-cons ks i 0 h in rw (q, add-one i) (rw d at e)

  pub reached-now : le goal a' ≡ true → i + 1 ≡ w
  reached-now t = rw t at turn

  pub reached-step : le goal a' ≡ false → i + 1 + reached_by goal a' (map value_of_term (drop (i + 1) ks)) ≡ w
  reached-step t = let z = rw t at turn in omega arith

pub from-none : (n : ℕ) → 0 + n ≡ n
from-none n = omega arith

pub reached-end : (goal : Float) (ks : List ℕ) (i w : ℕ) (a : Float) → i ≡ length ks → i + reached_by goal a (map value_of_term (drop i ks)) ≡ w → i ≡ w
unfolding reached_by
reached-end goal ks i w a e h = let z : length ks + 0 ≡ w = rw (e, drop-length ks) at h in omega arith

-- ---- how many are kept
module _ (s : SummarizationStrategy) (ks : List ℕ) where
  pub kept_fixed : (n r : ℕ) → s ≡ FixedSize n → r ≡ min n (length ks) → r ≡ kept_count s (map value_of_term ks)
  kept_fixed n r e h = rw (e, length-map ks value_of_term) h

  pub kept-energy : (energy t : Float) (r : ℕ) → s ≡ EnergyPreserving energy → t ≡ sum (map value_of_term ks) → r ≡ reached_by (mul binary32 t energy) zero_value (map value_of_term ks) → r ≡ kept_count s (map value_of_term ks)
  kept-energy energy t r e f g = g ∙ rw (e, f)
