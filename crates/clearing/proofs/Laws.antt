-- A buffer that is set to one entry from the front on, over whatever the entries are.
use Prim.Native.Nat.{ℕ, zero, suc, ◌+◌, ◌<◌}
use native.Mathlib.Omega.{arith}
use native.Mathlib.Numerals.{add-one}
use mathlib.Core.Path.{◌≡◌, refl, ap, ◌∙◌}
use mathlib.Core.List.{List, [], ◌∷◌, ◌++◌, append-nil}
use lib.ListN.{length, drop, set, replicate}
use lib.Seq.{drop-length}

one_more : {A : Type 0} (x : A) (n : ℕ) (l : List A) → n < length l → set (replicate n x ++ drop n l) n x ≡ replicate (suc n) x ++ drop (suc n) l
one_more x n [] h = let z : ⊥ = omega arith in absurd z
one_more x zero (y ∷ l) h = refl
one_more x (suc n) (y ∷ l) h = ap (λ t. x ∷ t) (one_more x n l (omega arith))

pub fill_step : {A : Type 0} (x : A) (n : ℕ) (l b : List A) → b ≡ replicate n x ++ drop n l → n < length l → set b n x ≡ replicate (n + 1) x ++ drop (n + 1) l
fill_step x n l b e h = rw (e, add-one n) (one_more x n l h)

pub fill_end : {A : Type 0} (x : A) (n : ℕ) (l b : List A) → b ≡ replicate n x ++ drop n l → n ≡ length l → b ≡ replicate (length l) x
fill_end x n l b e h = e ∙ rw (h, drop-length l) (append-nil (replicate (length l) x))
