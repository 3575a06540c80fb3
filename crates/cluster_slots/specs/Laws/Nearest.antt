-- Where each slot that is not met has +0, the choice by the slots met is the last greatest of all slots.
use Prim.Native.Nat.{ℕ, zero, suc, ◌+◌, ◌≤◌, ◌<◌}
use native.Mathlib.Omega.{arith}
use Rattle.std.proofs.Math.Decide.{dec_lt}
use Rattle.std.specs.Prelude.{◌≡◌, Bool, true, false, cond, Float}
use Rattle.std.proofs.Math.Path.{refl, ap, subst}
use Rattle.std.proofs.Common.{sym, ◌∙◌, get_or-take, get_or-drop}
use mathlib.Core.List.{List, [], ◌∷◌, ◌++◌, foldl, zip_with}
use Rattle.std.proofs.Math.ListN.{length, get_or, take, drop, length-take, length-drop}
use Rattle.std.proofs.Math.Seq.{split_at}
use Rattle.std.specs.Float.{nan}
use Rattle.float32.specs.Order.{at_most}
use Rattle.sequences.specs.Lists.{EachOf, among}
use Rattle.sequences.specs.Laws.Greatest.{Under, Below}
use Rattle.cluster_nearest.specs.declared.Candidate.{Candidate}
use Rattle.cluster_nearest.specs.Nearest.{candidate, last_from, last_no_less}
use Rattle.cluster_nearest.specs.Laws.Loops.{no_more, Fits, last-at}
use Rattle.cluster_slots.specs.declared.Best.{Best}
use Rattle.cluster_slots.specs.Met.{none, best, better, from_zero}
use Rattle.cluster_slots.specs.Laws.Loops.{best-above}
use Rattle.cluster_slots.specs.Laws.Kept.{Fitting, none-fits}
use Rattle.cluster_slots.specs.Laws.Covers.{same, other_way, through, raised, Covered, best-fits, covers}

-- ---- centroids and scores side by side
each_of : {A : Type 0} (P : A → Type 0) (d : A) (l : List A) → ((i : ℕ) → i < length l → P (get_or l i d)) → EachOf P l
each_of P d [] f = tt
each_of P d (x ∷ l) f = (f 0 (omega arith), each_of P d l (λ i h. f (suc i) (omega arith)))

nowhere : Candidate
nowhere = candidate 0 nan

module _ (first : ℕ) where
  zip_length : (cs : List ℕ) (ys : List Float) → length ys ≤ length cs → length (zip_with candidate cs ys) ≡ length ys
  unfolding zip_with
  zip_length [] [] h = refl
  zip_length [] (y ∷ ys) h = absurd (let z : ⊥ = omega arith in z)
  zip_length (c ∷ cs) [] h = refl
  zip_length (c ∷ cs) (y ∷ ys) h = ap suc (zip_length cs ys (omega arith))

  zip-at : (cs : List ℕ) (ys : List Float) (i : ℕ) → length ys ≤ length cs → i < length ys → get_or (zip_with candidate cs ys) i nowhere ≡ candidate (get_or cs i 0) (get_or ys i nan)
  unfolding zip_with
  zip-at cs [] i h k = absurd (let z : ⊥ = omega arith in z)
  zip-at [] (y ∷ ys) i h k = absurd (let z : ⊥ = omega arith in z)
  zip-at (c ∷ cs) (y ∷ ys) zero h k = refl
  zip-at (c ∷ cs) (y ∷ ys) (suc i) h k = zip-at cs ys i (omega arith) (omega arith)

  pub zip-cut : (cs : List ℕ) (xs : List Float) → zip_with candidate cs xs ≡ zip_with candidate cs (take (length cs) xs)
  unfolding zip_with
  zip-cut [] xs = refl
  zip-cut (c ∷ cs) [] = refl
  zip-cut (c ∷ cs) (x ∷ xs) = ap (λ l. candidate c x ∷ l) (zip-cut cs xs)

  -- a slot with a greatest score, and none as great after it, has the last greatest
  module _ (cs : List ℕ) (ys : List Float) (fit : Fitting ys) (short : length ys ≤ length cs) (j : ℕ) (h : j < length ys)
      (most : (s : ℕ) → s < length ys → at_most (get_or ys s nan) (get_or ys j nan) ≡ true) (last : (s : ℕ) → s < length ys → j < s → at_most (get_or ys j nan) (get_or ys s nan) ≡ false) where
    pub picked : last_no_less first cs ys ≡ get_or cs j 0
    unfolding last_no_less
    picked =
        let K = zip_with candidate cs ys in
        let l : length K ≡ length ys = zip_length cs ys short in
        let a : (i : ℕ) → i < length ys → get_or K i nowhere ≡ candidate (get_or cs i 0) (get_or ys i nan) = λ i k. zip-at cs ys i short k in
        let c = candidate (get_or cs j 0) (get_or ys j nan) in
        let s : K ≡ take j K ++ (c ∷ drop (suc j) K) = split_at K j nowhere (omega arith) ∙ ap (λ z. take j K ++ (z ∷ drop (suc j) K)) (a j h) in
        let front : (P : Candidate → Type 0) → ((i : ℕ) → i < length ys → P (candidate (get_or cs i 0) (get_or ys i nan))) → EachOf P (take j K) =
        λ P f. each_of P nowhere (take j K) (λ i k. let m : i < j = omega (arith, length-take j K) in let w : i < length ys = omega arith in
        subst P (sym (get_or-take j K i nowhere m ∙ a i w)) (f i w)) in
        let back : (P : Candidate → Type 0) → ((i : ℕ) → i < length ys → j < i → P (candidate (get_or cs i 0) (get_or ys i nan))) → EachOf P (drop (suc j) K) =
        λ P f. each_of P nowhere (drop (suc j) K) (λ i k. let w : suc j + i < length ys = omega (arith, length-drop (suc j) K) in subst P (sym (get_or-drop (suc j) K i nowhere ∙ a (suc j + i) w))
        (f (suc j + i) w (omega arith))) in
        let all : EachOf Fits K = each_of Fits nowhere K (λ i k. let w : i < length ys = omega arith in subst Fits (sym (a i w)) (fit i)) in
        ap (last_from first) s
        ∙ last-at first (take j K) c (drop (suc j) K) (subst (EachOf Fits) s all) (fit j) (front (Under no_more c) most) (back (Under no_more c) (λ i w g. most i w)) (back (Below no_more c) last)

-- ---- the last slot from +0 on: all after it are below +0
from-zero-last : (ys : List Float) (n j : ℕ) → from_zero ys n ≡ suc j → (j < n) × (at_most none (get_or ys j nan) ≡ true) × ((s : ℕ) → s < n → j < s → at_most none (get_or ys s nan) ≡ false)
from-zero-last ys zero j e = absurd (let z : ⊥ = omega arith in z)
from-zero-last ys (suc n) j e = go (at_most none (get_or ys n nan)) refl (from-zero-last ys n j) e
  where
    go : (t : Bool) → at_most none (get_or ys n nan) ≡ t → (from_zero ys n ≡ suc j → (j < n) × (at_most none (get_or ys j nan) ≡ true) × ((s : ℕ) → s < n → j < s → at_most none (get_or ys s nan) ≡ false))
        → cond t (suc n) (from_zero ys n) ≡ suc j
        → (j < suc n) × (at_most none (get_or ys j nan) ≡ true) × ((s : ℕ) → s < suc n → j < s → at_most none (get_or ys s nan) ≡ false)
    go true p i q = let k : j ≡ n = omega arith in (omega arith, ap (λ z. at_most none (get_or ys z nan)) k ∙ p, λ s a b. absurd (let z : ⊥ = omega arith in z))
    go false p i q = let r = i q in (omega (arith, r.0), r.1, λ s a b. after s a b r.2 (dec_lt s n))
      where
        after : (s : ℕ) → s < suc n → j < s → ((s : ℕ) → s < n → j < s → at_most none (get_or ys s nan) ≡ false) → Dec (s < n) → at_most none (get_or ys s nan) ≡ false
        after s a b f (yes h) = f s h b
        after s a b f (no h) = ap (λ z. at_most none (get_or ys z nan)) (let z : s ≡ n = omega arith in z) ∙ p

-- ---- the choice, where each slot that is not met has +0
module _ (first : ℕ) (cs : List ℕ) (ys : List Float) (fit : Fitting ys) (short : length ys ≤ length cs) (S : List ℕ) (unmet : (s : ℕ) → s < length ys → among s S ≡ false → get_or ys s nan ≡ none) where
  abbrev found : Best
  found = foldl (better ys) (best 0 none) S

  -- above +0 the best slot met has the last greatest score
  covered : at_most found.score none ≡ false → (s : ℕ) → s < length ys → Covered ys fit found s
  covered h s k = go (among s S) refl
    where
      go : (t : Bool) → among s S ≡ t → Covered ys fit found s
      go true e = covers ys fit S (best 0 none) none-fits s k e
      go false e =
          let z = unmet s k e in (
            ap (λ x. at_most x found.score) z ∙ other_way found.score none (best-fits ys fit S (best 0 none) none-fits) none-fits h,
            λ g. ap (at_most found.score) z ∙ h,
          )

  pub above-picked : at_most found.score none ≡ false → get_or cs found.slot.0 0 ≡ last_no_less first cs ys
  above-picked h =
      let w = best-above ys S h in
      sym (picked first cs ys fit short found.slot.0 w.0
      (λ s k. ap (at_most (get_or ys s nan)) (sym w.1) ∙ (covered h s k).0)
      (λ s k g. ap (λ x. at_most x (get_or ys s nan)) (sym w.1) ∙ (covered h s k).1 g))

  -- else no score is above +0, and the last that is at least +0 is the last greatest
  none_more : at_most found.score none ≡ true → (s : ℕ) → s < length ys → at_most (get_or ys s nan) none ≡ true
  none_more h s k = go (among s S) refl
    where
      go : (t : Bool) → among s S ≡ t → at_most (get_or ys s nan) none ≡ true
      go true e = through (get_or ys s nan) found.score none (fit s) (best-fits ys fit S (best 0 none) none-fits) none-fits (covers ys fit S (best 0 none) none-fits s k e).0 h
      go false e = ap (λ x. at_most x none) (unmet s k e) ∙ same none none-fits

  pub last-picked : at_most found.score none ≡ true → (j : ℕ) → from_zero ys (length ys) ≡ suc j → get_or cs j 0 ≡ last_no_less first cs ys
  last-picked h j e =
      let w = from-zero-last ys (length ys) j e in
      sym (picked first cs ys fit short j w.0
      (λ s k. through (get_or ys s nan) none (get_or ys j nan) (fit s) none-fits (fit j) (none_more h s k) w.1)
      (λ s k g. raised none (get_or ys j nan) (get_or ys s nan) none-fits (fit j) (fit s) w.1 (w.2 s k g)))
