-- Who is left out: k others are kept, and it is better than none of them.
use Rattle.std.specs.Prelude.{ℕ, zero, suc, ◌<◌, Bool, cond, ◌≡◌, refl, ◌⊎◌, length, take, drop}
use Rattle.std.proofs.Common.{arith, true≢false, sym, ap, ◌∙◌, subst, length-take, take-append-drop}
use Rattle.std.proofs.Math.Bool.{true, false}
use Rattle.std.proofs.Math.Logic.{inl, inr}
use mathlib.Core.List.Memᴰ
use mathlib.Core.List.{List, [], ◌∷◌, ◌++◌, Memᴰ, head-eq_of_cons-eq}
use mathlib.Core.List.{tail-eq_of_cons-eq}
use Rattle.std.proofs.lemmas.Bool.{not-true}
use Rattle.sequences.specs.Lists.{every, EachOf, insert_by, sorted_by}
use Rattle.sequences.specs.Laws.Lists.{both, decide}
use Rattle.kept_list.specs.Keep.{beats, insert_after, keep, no_later, k_best, in_order}
use Rattle.kept_list.specs.Order.{Order}
use Rattle.kept_list.specs.Laws.Pushing.{keep-replaces}
use Rattle.kept_list.specs.Laws.Best.{sorted_sort}

module _ {A : Type 0} where
  every_of : (p : A → Bool) (d : A) (l : List A) → Memᴰ d l → every p l ≡ true → p d ≡ true
  every_of p d [] m h = absurd (Memᴰ.not-nil m)
  every_of p d (x ∷ l) m h = let s = both (p x) (every p l) h in elim (Memᴰ.cases_cons m) [ inl e ↦ ap p e ∙ s.0 | inr t ↦ every_of p d l t s.1 ]

  in_insert : (p : A → A → Bool) (d x : A) (l : List A) → Memᴰ d (x ∷ l) → Memᴰ d (insert_by p x l)
  unfolding insert_by
  in_insert p d x [] m = m
  in_insert p d x (y ∷ ys) m = go (p x y) (in_insert p d x ys) (Memᴰ.cases_cons m)
    where
      go : (b : Bool) → (Memᴰ d (x ∷ ys) → Memᴰ d (insert_by p x ys)) → (d ≡ x) ⊎ Memᴰ d (y ∷ ys) → Memᴰ d (cond b (x ∷ y ∷ ys) (y ∷ insert_by p x ys))
      go true i c = m
      go false i (inl e) = Memᴰ.tail (i (Memᴰ.head e))
      go false i (inr t) = elim (Memᴰ.cases_cons t) [ inl e ↦ Memᴰ.head e | inr u ↦ Memᴰ.tail (i (Memᴰ.tail u)) ]

  in-sorted : (p : A → A → Bool) (d : A) (l : List A) → Memᴰ d l → Memᴰ d (sorted_by p l)
  unfolding sorted_by
  in-sorted p d [] m = m
  in-sorted p d (x ∷ l) m =
      in_insert p d x (sorted_by p l) (elim (Memᴰ.cases_cons m) [ inl e ↦ Memᴰ.head e | inr t ↦ Memᴰ.tail (in-sorted p d l t) ])

  past-many : (k : ℕ) (d : A) (l : List A) → Memᴰ d (drop k l) → k < length l
  past-many zero d [] m = absurd (Memᴰ.not-nil m)
  past-many (suc k) d [] m = absurd (Memᴰ.not-nil m)
  past-many zero d (x ∷ l) m = omega arith
  past-many (suc k) d (x ∷ l) m = let i = past-many k d l m in omega arith

module _ {A : Type 0} (better : A → A → Bool) (O : Order better) where
  behind : (d : A) (a b : List A) → Memᴰ d b → in_order better (a ++ b) ≡ true → EachOf (λ f. better d f ≡ false) a
  behind d [] b m h = tt
  behind d (f ∷ a) b m h =
      let s = both (every (no_later better f) (a ++ b)) (in_order better (a ++ b)) h in
      (not-true (better d f) (every_of (no_later better f) d (a ++ b) (Memᴰ.append_right a m) s.0), behind d a b m s.1)

  pub left_out : (k : ℕ) (es : List A) (d : A) → Memᴰ d es → (Memᴰ d (k_best better k es) → ⊥) → (length (k_best better k es) ≡ k) × EachOf (λ f. better d f ≡ false) (k_best better k es)
  left_out k es d m out =
      let l = sorted_by (no_later better) es in
      let split = take-append-drop k l in
      elim (Memᴰ.append_cases (take k l) (subst (λ (z : List A). Memᴰ d z) (sym split) (in-sorted (no_later better) d es m))) [
        | inl here ↦ absurd (out here)
        | inr past ↦ (omega (arith, length-take k l, past-many k d l past), behind d (take k l) (drop k l) past (rw split (sorted_sort better O es)))
      ]

  never : (e f : A) → better e f ≡ true → e ≡ f → ⊥
  never e f b q = true≢false (sym b ∙ ap (λ x. better x f) q ∙ ap (better f) (sym q) ∙ O.asym e f b)

  unlike : (e w : A) (l : List A) → better e w ≡ true → insert_after better e l ≡ l ++ (w ∷ []) → ⊥
  unlike e w [] b q = never e w b (head-eq_of_cons-eq q)
  unlike e w (f ∷ fs) b q = go (unlike e w fs b) (beats better e (f ∷ fs)) refl q
    where
      go : (insert_after better e fs ≡ fs ++ (w ∷ []) → ⊥) → (c : Bool) → beats better e (f ∷ fs) ≡ c → cond c (e ∷ f ∷ fs) (f ∷ insert_after better e fs) ≡ f ∷ fs ++ (w ∷ []) → ⊥
      go i true h q = never e f (both (better e f) (beats better e fs) h).0 (head-eq_of_cons-eq q)
      go i false h q = i (tail-eq_of_cons-eq q)

  -- at k, an entry that was not taken is not better than the worst
  pub not_taken : (k : ℕ) (e w : A) (l : List A) → length (l ++ (w ∷ [])) ≡ k → keep better k e (l ++ (w ∷ [])) ≡ l ++ (w ∷ []) → better e w ≡ false
  not_taken k e w l h q = elim (decide (better e w)) [
    | inl b ↦ absurd (unlike e w l b (sym (keep-replaces better k e w l h b) ∙ q))
    | inr n ↦ n
  ]
