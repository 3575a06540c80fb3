-- One test of several values.
use Prim.Native.Nat.{ℕ, ◌+◌, ◌≤◌, ◌<◌}
use native.Mathlib.Omega.{arith}
use native.Mathlib.Numerals.{add-one}
use mathlib.Core.Path.{◌≡◌, ap, ◌∙◌}
use mathlib.Core.Bool.{Bool, ◌&&◌, and-true}
use mathlib.Core.List.{List, [], ◌∷◌}
use lib.ListN.{length, get_or, take}
use lib.Seq.{take-suc, take_all}
use lib.Dec.{T}
use lib.Ieee.{Float, nan, binary32, fits}
use Rattle.sequences.specs.Lists.{every}
use Rattle.sequences.specs.Laws.Lists.{every_append}

module _ {A : Type 0} (p : A → Bool) (l : List A) (d : A) where
  pub every_more : (ok : Bool) (i : ℕ) → i < length l → ok ≡ every p (take i l) → (ok && p (get_or l i d)) ≡ every p (take (i + 1) l)
  every_more ok i h e = rw (add-one i, take-suc l i d h, every_append p (take i l) (get_or l i d ∷ []), and-true (p (get_or l i d)), e)

  pub every-all : (ok : Bool) (i : ℕ) → length l ≤ i → ok ≡ every p (take i l) → ok ≡ every p l
  every-all ok i h e = e ∙ ap (every p) (take_all i l h)

-- where there is no value, a NaN is read
pub all_fit : (xs : List Float) → (0 < length xs → (k : ℕ) → T (fits binary32 (get_or xs k nan))) → (k : ℕ) → T (fits binary32 (get_or xs k nan))
unfolding fits
all_fit [] h k = tt
all_fit (x ∷ xs) h k = h (omega arith) k
