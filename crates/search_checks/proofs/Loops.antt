-- What one turn of a checking loop does to the test of what is left.
use mathlib.Core.Path.{◌≡◌, refl, sym, ap, ◌∙◌}
use mathlib.Core.Bool.{Bool, true, false, ◌&&◌, cond, and-true, and_assoc}
use mathlib.Core.List.{List, [], ◌∷◌}
use Prim.Native.Nat.{ℕ, suc, ◌+◌, ◌-◌, ◌≤◌, ◌<◌}
use native.Mathlib.Omega.{arith}
use native.Mathlib.Numerals.{add-one}
use lib.ListN.{length, get_or, take, drop, length-drop, drop_of_length-le}
use lib.Seq.{drop-cons, drop-drop, take_all}
use lib.Dec.{leb, ltb}
use lib.Ieee.{Float, binary32, of_bits, neg, le}
use mir.Val.{bool_byte}
use borrow.Author.Tests.{ltb-true, ltb-false, le-ltb, le-leb, lt-leb}
use Rattle.float32.specs.Laws.BoundLaws.{in-bound-tests}
use Rattle.quantizing.specs.Quantizing.{step_allowed}
use Rattle.sequences.specs.Lists.{every, strictly_rise}
use Rattle.sequences.specs.Laws.Lists.{part_length}
use Rattle.search_checks.specs.Counting.{fall, falls, seam_at, seams}
use Rattle.search_checks.specs.Laws.Counting.{falls-over, falls-few}

-- ---- each element by itself
module _ {A : Type 0} (p : A → Bool) (xs : List A) (d : A) where
  pub every-step : (ok t : Bool) (i : ℕ) → i < length xs → t ≡ p (get_or xs i d) → ((ok && t) && every p (drop (i + 1) xs)) ≡ (ok && every p (drop i xs))
  every-step ok t i h e = rw (e, add-one i, drop-cons xs i d h) (and_assoc ok _ _)

  pub every-end : (ok : Bool) (i : ℕ) (r : Bool) → length xs ≤ i → (ok && every p (drop i xs)) ≡ r → ok ≡ r
  every-end ok i r h e = sym (and-true ok) ∙ rw (drop_of_length-le xs h) at e

-- ---- each element with the one before it
module _ {A : Type 0} (xs : List A) (i : ℕ) (d : A) (low : 1 ≤ i) where
  pub next-at : i < length xs → drop (i + 1 - 1) xs ≡ get_or xs i d ∷ drop (suc i) xs
  next-at h = let z : i + 1 - 1 ≡ i = omega arith in rw z (drop-cons xs i d h)

  pub pair-at : i < length xs → drop (i - 1) xs ≡ get_or xs (i - 1) d ∷ get_or xs i d ∷ drop (suc i) xs
  pair-at h =
      let g : i - 1 < length xs = omega arith in
      let z : suc (i - 1) ≡ i = omega arith in
      drop-cons xs (i - 1) d g ∙ ap (λ n. get_or xs (i - 1) d ∷ drop n xs) z ∙ ap (λ l. get_or xs (i - 1) d ∷ l) (drop-cons xs i d h)

  pub few-left : length xs ≤ i → length (drop (i - 1) xs) ≤ 1
  few-left h = simp length-drop (omega arith)

rise-short : (os : List ℕ) → length os ≤ 1 → strictly_rise os ≡ true
rise-short [] h = refl
rise-short (a ∷ []) h = refl
rise-short (a ∷ b ∷ os) h = let z : ⊥ = omega arith in absurd z

falls-short : (os : List ℕ) → length os ≤ 1 → falls os ≡ 0
unfolding falls
falls-short [] h = refl
falls-short (a ∷ []) h = refl
falls-short (a ∷ b ∷ os) h = omega arith

seams-short : (ids os : List ℕ) → length os ≤ 1 → seams ids os ≡ 0
unfolding seams
seams-short ids [] h = refl
seams-short ids (a ∷ []) h = refl
seams-short ids (a ∷ b ∷ os) h = omega arith

module _ (ok : Bool) (os : List ℕ) (i : ℕ) (low : 1 ≤ i) where
  pub rise-step : i < length os → ((ok && ltb (get_or os (i - 1) 0) (get_or os i 0)) && strictly_rise (drop (i + 1 - 1) os)) ≡ (ok && strictly_rise (drop (i - 1) os))
  rise-step h = rw (pair-at os i 0 low h, next-at os i 0 low h) (and_assoc ok _ _)

  pub rise-end : (r : Bool) → length os ≤ i → (ok && strictly_rise (drop (i - 1) os)) ≡ r → ok ≡ r
  rise-end r h e = sym (and-true ok) ∙ rw (rise-short (drop (i - 1) os) (few-left os i 0 low h)) at e

-- ---- one test
pub step-test : (x : Float) → ((le (neg (of_bits binary32 1333788672)) x && le x (of_bits binary32 1333788672)) && le (of_bits binary32 0) x) ≡ step_allowed x
unfolding step_allowed of_bits
step-test x = ap (λ b. b && le (of_bits binary32 0) x) (in-bound-tests x)

pub byte-fall : (x y : ℕ) → bool_byte (leb y x) ≡ fall x y
byte-fall x y = go (ltb x y) refl
  where
    go : (b : Bool) → ltb x y ≡ b → bool_byte (leb y x) ≡ cond b 0 1
    go true e = rw (lt-leb y x (ltb-true x y e))
    go false e = rw (le-leb y x (ltb-false x y e))

module _ (ids : List ℕ) (a b : ℕ) where
  pub seam-none : ltb a b ≡ false → 0 ≡ seam_at ids a b
  seam-none h = rw h

  pub seam-end : length ids ≤ b → 0 ≡ seam_at ids a b
  seam-end h = rw (le-ltb b (length ids) h) (none (ltb a b))
    where
      none : (t : Bool) → 0 ≡ cond (t && false) (fall (get_or ids (b - 1) 0) (get_or ids b 0)) 0
      none true = refl
      none false = refl

  pub seam-here : ltb a b ≡ true → ltb b (length ids) ≡ true → bool_byte (leb (get_or ids b 0) (get_or ids (b - 1) 0)) ≡ seam_at ids a b
  seam-here h k = rw (h, k) (byte-fall (get_or ids (b - 1) 0) (get_or ids b 0))

-- ---- counts: what is counted and what is left make the whole
module _ (xs : List ℕ) (n i : ℕ) (low : 1 ≤ i) where
  pub falls-step : (k : ℕ) → i < length xs → k ≡ fall (get_or xs (i - 1) 0) (get_or xs i 0) → (n + k) + falls (drop (i + 1 - 1) xs) ≡ n + falls (drop (i - 1) xs)
  unfolding falls
  falls-step k h e = rw (pair-at xs i 0 low h, next-at xs i 0 low h, e) (omega arith)

  pub falls-end : (r : ℕ) → length xs ≤ i → n + falls (drop (i - 1) xs) ≡ r → n ≡ r
  falls-end r h e = let z = falls-short (drop (i - 1) xs) (few-left xs i 0 low h) in omega arith

  pub seams-step : (ids : List ℕ) (k : ℕ) → i < length xs → k ≡ seam_at ids (get_or xs (i - 1) 0) (get_or xs i 0) → (n + k) + seams ids (drop (i + 1 - 1) xs) ≡ n + seams ids (drop (i - 1) xs)
  unfolding seams
  seams-step ids k h e = rw (pair-at xs i 0 low h, next-at xs i 0 low h, e) (omega arith)

  pub seams-end : (ids : List ℕ) (r : ℕ) → length xs ≤ i → n + seams ids (drop (i - 1) xs) ≡ r → n ≡ r
  seams-end ids r h e = let z = seams-short ids (drop (i - 1) xs) (few-left xs i 0 low h) in omega arith

-- ---- falls counted part by part: the next part starts with the last id of this one
module _ (xs : List ℕ) (i e r : ℕ) (l : i ≤ e) (h : e ≤ length xs) (f : r ≡ falls (take (e - i) (drop i xs))) where
  pub part-few : r ≤ e - i - 1
  part-few = omega (arith, falls-few (take (e - i) (drop i xs)), part_length i (e - i) xs (omega arith))

  pub falls-part : (n : ℕ) → i < e → n + falls (drop i xs) ≡ falls xs → (n + r) + falls (drop (e - 1) xs) ≡ falls xs
  falls-part n m g =
      let s : suc (e - i - 1) ≡ e - i = omega arith in
      let t : i + (e - i - 1) ≡ e - 1 = omega arith in
      let a : falls (drop i xs) ≡ falls (take (e - i) (drop i xs)) + falls (drop (e - i - 1) (drop i xs)) = rw s at (falls-over (e - i - 1) (drop i xs)) in
      let b : falls (drop (e - i - 1) (drop i xs)) ≡ falls (drop (e - 1) xs) = ap falls (drop-drop (e - i - 1) i xs ∙ ap (λ k. drop k xs) t) in
      omega arith

  pub falls-rest : (n : ℕ) → e ≡ length xs → n + falls (drop i xs) ≡ falls xs → n + r ≡ falls xs
  falls-rest n z g =
      let a : falls (take (e - i) (drop i xs)) ≡ falls (drop i xs) = ap falls (take_all (e - i) (drop i xs) (omega (arith, length-drop i xs))) in
      omega arith
