-- Laws of a slice copied to the front of another, entry by entry.
use Prim.Native.Nat.{ℕ, zero, suc, ◌+◌, ◌<◌, min}
use native.Mathlib.Omega.{arith}
use native.Mathlib.Numerals.{add-one}
use mathlib.Core.Path.{◌≡◌, refl, ap, ◌∙◌}
use mathlib.Core.List.{List, [], ◌∷◌, ◌++◌}
use lib.ListN.{length, get_or, set, take, drop}
use lib.Seq.{take-nil}

one_more : {A : Type 0} (xs l : List A) (n : ℕ) (x : A) → n < length xs → n < length l → x ≡ get_or xs n x → set (take n xs ++ drop n l) n x ≡ take (suc n) xs ++ drop (suc n) l
one_more [] l n x h k e = let z : ⊥ = omega arith in absurd z
one_more (y ∷ xs) [] n x h k e = let z : ⊥ = omega arith in absurd z
one_more (y ∷ xs) (z ∷ l) zero x h k e = ap (λ t. t ∷ l) e
one_more (y ∷ xs) (z ∷ l) (suc n) x h k e = ap (λ t. y ∷ t) (one_more xs l n x (omega arith) (omega arith) e)

-- so many are copied, and the rest is as it was: one more
pub copy-step : {A : Type 0} (xs before now : List A) (n : ℕ) (x : A) → n < length xs → n < length before → x ≡ get_or xs n x → now ≡ take n xs ++ drop n before → set now n x ≡ take (n + 1) xs ++ drop (n + 1) before
copy-step xs before now n x h k e w = rw (w, add-one n) (one_more xs before n x h k e)

-- as many as the shorter slice has are all
pub copy-end : {A : Type 0} (xs before : List A) (n : ℕ) → n ≡ min (length xs) (length before) → take n xs ++ drop n before ≡ take (length before) xs ++ drop (length xs) before
copy-end [] before n e = let z : n ≡ 0 = omega (arith, e) in rw (z, take-nil (length before)) refl
copy-end (x ∷ xs) [] n e = let z : n ≡ 0 = omega (arith, e) in rw z refl
copy-end (x ∷ xs) (y ∷ before) zero e = let z : ⊥ = omega (arith, e) in absurd z
copy-end (x ∷ xs) (y ∷ before) (suc n) e = ap (λ t. x ∷ t) (copy-end xs before n (omega (arith, e)))

-- a slice that has just the room holds what was copied
pub copied-whole : {A : Type 0} (xs before : List A) → length before ≡ length xs → take (length before) xs ++ drop (length xs) before ≡ xs
copied-whole [] [] h = refl
copied-whole [] (y ∷ before) h = let z : ⊥ = omega (arith, h) in absurd z
copied-whole (x ∷ xs) [] h = let z : ⊥ = omega (arith, h) in absurd z
copied-whole (x ∷ xs) (y ∷ before) h = ap (λ t. x ∷ t) (copied-whole xs before (omega (arith, h)))
