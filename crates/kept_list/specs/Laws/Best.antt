-- Pushes leave the k best.
use Rattle.std.specs.Prelude.{ℕ, ◌≤◌, Bool, ◌≡◌, length, take}
use Rattle.std.proofs.Common.{arith, sym, ◌∙◌, length-take, take_all}
use Rattle.std.proofs.Math.Bool.{true}
use Rattle.std.proofs.Math.Path.{refl, ap}
use Rattle.std.proofs.Math.Logic.{inl, inr}
use mathlib.Core.List.{List, [], ◌∷◌, ◌++◌}
use Rattle.sequences.specs.Lists.{every, insert_by, sorted_by}
use Rattle.sequences.specs.Laws.Lists.{both, decide}
use Rattle.kept_list.specs.Keep.{keep, keep_all, no_later, k_best, in_order}
use Rattle.kept_list.specs.Order.{Order}
use Rattle.kept_list.specs.Laws.Pushing.{put, put_all, put_all-append, take_put}
use Rattle.kept_list.specs.Laws.Sorted.{trans, insert-is-put, sorted-put, sorted-put_all, sorted-take}

module _ {A : Type 0} (better : A → A → Bool) (O : Order better) where
  -- ---- putting the entries in from the left, one after another, is putting them in order
  put_front : (a b : A) (l : List A) → put better b (insert_by (no_later better) a l) ≡ insert_by (no_later better) a (put better b l)
  unfolding insert_by
  put_front a b [] = elim (decide (better b a)) [ inl y ↦ rw y | inr n ↦ rw n ]
  put_front a b (f ∷ fs) =
      let i = put_front a b fs in
      elim (decide (better f a)) [
        | inl fa ↦ elim (decide (better b f)) [
          | inl bf ↦ let ba = trans better O b f a bf fa in rw (fa, bf, ba, fa)
          | inr bf ↦ rw (fa, bf, fa, i)
        ]
        | inr fa ↦ elim (decide (better b f)) [
          | inl bf ↦ elim (decide (better b a)) [ inl ba ↦ rw (fa, ba, bf, ba, fa) | inr ba ↦ rw (fa, ba, bf, ba) ]
          | inr bf ↦ let ba = O.between b f a bf fa in rw (fa, ba, bf, fa)
        ]
      ]

  put_all-front : (a : A) (l ps : List A) → put_all better (insert_by (no_later better) a l) ps ≡ insert_by (no_later better) a (put_all better l ps)
  put_all-front a l [] = refl
  put_all-front a l (p ∷ ps) = ap (λ (m : List A). put_all better m ps) (put_front a p l) ∙ put_all-front a (put better p l) ps

  put_all-sorts : (es : List A) → put_all better [] es ≡ sorted_by (no_later better) es
  unfolding insert_by sorted_by
  put_all-sorts [] = refl
  put_all-sorts (e ∷ es) = put_all-front e [] es ∙ ap (insert_by (no_later better) e) (put_all-sorts es)

  pub sorted_sort : (es : List A) → in_order better (sorted_by (no_later better) es) ≡ true
  sorted_sort es = rw (← put_all-sorts es) (sorted-put_all better O [] es refl)

  -- a list in order stays as it is
  pub sort-same : (l : List A) → in_order better l ≡ true → sorted_by (no_later better) l ≡ l
  unfolding insert_by sorted_by
  sort-same [] h = refl
  sort-same (e ∷ es) h = let s = both (every (no_later better e) es) (in_order better es) h in ap (insert_by (no_later better) e) (sort-same es s.1) ∙ front es s.0
    where
      front : (es : List A) → every (no_later better e) es ≡ true → insert_by (no_later better) e es ≡ e ∷ es
      front [] h = refl
      front (f ∷ fs) h = let s = both (no_later better e f) (every (no_later better e) fs) h in rw s.0

  put_all-onto : (es ps : List A) → in_order better es ≡ true → put_all better es ps ≡ sorted_by (no_later better) (es ++ ps)
  put_all-onto es ps h =
      ap (λ (m : List A). put_all better m ps) (sym (put_all-sorts es ∙ sort-same es h)) ∙ sym (put_all-append better [] es ps) ∙ put_all-sorts (es ++ ps)

  -- ---- the first k go by the first k alone
  keep-take : (k : ℕ) (e : A) (l : List A) → in_order better l ≡ true → keep better k e (take k l) ≡ take k (put better e l)
  keep-take k e l h = ap (take k) (insert-is-put better O e (take k l) (sorted-take better O k l h)) ∙ take_put better k e l

  keep_all-take : (k : ℕ) (l ps : List A) → in_order better l ≡ true → keep_all better k (take k l) ps ≡ take k (put_all better l ps)
  keep_all-take k l [] h = refl
  keep_all-take k l (p ∷ ps) h = ap (λ (m : List A). keep_all better k m ps) (keep-take k p l h) ∙ keep_all-take k (put better p l) ps (sorted-put better O p l h)

  -- pushing entries onto a kept list leaves the k best of all of them
  pub k-best : (k : ℕ) (es ps : List A) → in_order better es ≡ true → length es ≤ k → keep_all better k es ps ≡ k_best better k (es ++ ps)
  k-best k es ps h n = ap (λ (m : List A). keep_all better k m ps) (sym (take_all k es n)) ∙ keep_all-take k es ps h ∙ ap (take k) (put_all-onto es ps h)

  pub sorted-k_best : (k : ℕ) (es : List A) → in_order better (k_best better k es) ≡ true
  sorted-k_best k es = sorted-take better O k (sorted_by (no_later better) es) (sorted_sort es)

  pub length-k_best : (k : ℕ) (es : List A) → length (k_best better k es) ≤ k
  length-k_best k es = omega (arith, length-take k (sorted_by (no_later better) es))

  pub k_best-same : (k : ℕ) (es : List A) → in_order better es ≡ true → length es ≤ k → k_best better k es ≡ es
  k_best-same k es h n = ap (take k) (sort-same es h) ∙ take_all k es n

  -- what was left out before is left out of the whole
  pub k_best-left : (k : ℕ) (es fs : List A) → k_best better k (k_best better k es ++ fs) ≡ k_best better k (es ++ fs)
  k_best-left k es fs =
      sym (k-best k (k_best better k es) fs (sorted-k_best k es) (length-k_best k es))
      ∙ keep_all-take k (sorted_by (no_later better) es) fs (sorted_sort es)
      ∙ ap (λ (m : List A). take k (put_all better m fs)) (sym (put_all-sorts es))
      ∙ ap (take k) (sym (put_all-append better [] es fs) ∙ put_all-sorts (es ++ fs))
