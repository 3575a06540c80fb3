-- How the loops begin and end.
use Rattle.std.specs.Prelude.{ℕ, ◌≡◌, refl, length, get_or, drop, Float}
use Rattle.std.proofs.Common.{arith, sym, ap, ◌∙◌}
use mathlib.Core.List.{List, [], ◌∷◌, foldl, zip_with}
use Rattle.std.specs.Float.{nan, binary32}
use Rattle.std.specs.Float.Ieee.{of_bits}
use Rattle.cluster_nearest.specs.declared.Candidate.{Candidate}
use Rattle.cluster_nearest.specs.Nearest.{candidate, centroid_of, if_greater, if_no_less, first_above, last_no_less}

pub first-none : (cs : List ℕ) (xs : List Float) → length cs ≡ 0 → 0 ≡ first_above cs xs
unfolding first_above zip_with
first-none [] xs h = refl
first-none (c ∷ cs) xs h = absurd (let z : ⊥ = omega arith in z)

pub first-end : (cs : List ℕ) (xs : List Float) (best : Candidate) (left : List Candidate) → (length cs ≡ 0 → ⊥) → left ≡ []
    → foldl if_greater best left ≡ foldl if_greater (candidate (get_or cs 0 0) (of_bits binary32 0)) (zip_with candidate cs xs) → centroid_of best ≡ first_above cs xs
unfolding first_above of_bits
first-end [] xs best left n e h = absurd (n refl)
first-end (c ∷ cs) xs best left n e h = ap centroid_of (sym (ap (foldl if_greater best) e) ∙ h)

pub last-none-left : (first : ℕ) (cs : List ℕ) (xs : List Float) → length cs ≡ 0 → first ≡ last_no_less first cs xs
unfolding last_no_less zip_with
last-none-left first [] xs h = refl
last-none-left first (c ∷ cs) xs h = absurd (let z : ⊥ = omega arith in z)

pub last-none-right : (first : ℕ) (cs : List ℕ) (xs : List Float) → length xs ≡ 0 → first ≡ last_no_less first cs xs
unfolding last_no_less zip_with
last-none-right first [] xs h = refl
last-none-right first (c ∷ cs) [] h = refl
last-none-right first (c ∷ cs) (x ∷ xs) h = absurd (let z : ⊥ = omega arith in z)

pub last_end : (first : ℕ) (cs : List ℕ) (xs : List Float) (i : ℕ) (best : Candidate) → (length cs ≡ 0 → ⊥) → (length xs ≡ 0 → ⊥) → zip_with candidate (drop i cs) (drop i xs) ≡ []
    → foldl if_no_less best (zip_with candidate (drop i cs) (drop i xs)) ≡ foldl if_no_less (candidate (get_or cs 0 0) (get_or xs 0 nan)) (zip_with candidate (drop 1 cs) (drop 1 xs)) → centroid_of best
    ≡ last_no_less first cs xs
unfolding last_no_less zip_with
last_end first [] xs i best n m e h = absurd (n refl)
last_end first (c ∷ cs) [] i best n m e h = absurd (m refl)
last_end first (c ∷ cs) (x ∷ xs) i best n m e h = ap centroid_of (sym (ap (foldl if_no_less best) e) ∙ h)
