-- A buffer held against the expected numbers, place by place.
use Prim.Native.Nat.{ℕ, zero, suc, ◌+◌, ◌<◌}
use native.Mathlib.Omega.{arith}
use native.Mathlib.Numerals.{add-one}
use mathlib.Core.Path.{◌≡◌, refl, sym, ap, ◌∙◌}
use mathlib.Core.Bool.{Bool, ◌&&◌, and_assoc}
use mathlib.Core.List.{List, [], ◌∷◌}
use lib.ListN.{length, drop, get_or}
use lib.Dec.{eqb, leb, leb-suc-suc}
use lib.Seq.{drop-nil, drop-length}
use borrow.Author.Tests.{le-leb, lt-leb}
use Rattle.replay_expected.specs.Held.{held}

-- the next place
held_next : (xs es : List ℕ) (rest i : ℕ) → i < length xs → held (drop i xs) (drop i es) rest ≡ eqb (get_or xs i 0) (get_or es i rest) && held (drop (suc i) xs) (drop (suc i) es) rest
unfolding held
held_next [] es rest i h = let z : ⊥ = omega arith in absurd z
held_next (x ∷ xs) [] rest zero h = refl
held_next (x ∷ xs) (e ∷ es) rest zero h = refl
held_next (x ∷ xs) [] rest (suc i) h = ap (λ l. held (drop i xs) l rest) (sym (drop-nil i)) ∙ held_next xs [] rest i (omega arith)
held_next (x ∷ xs) (e ∷ es) rest (suc i) h = held_next xs es rest i (omega arith)

pub held-step : (xs es : List ℕ) (rest i : ℕ) (same : Bool) (x e : ℕ) → i < length xs → x ≡ get_or xs i 0 → e ≡ get_or es i rest
    → same && held (drop i xs) (drop i es) rest ≡ held xs es rest → (same && eqb x e) && held (drop (i + 1) xs) (drop (i + 1) es) rest ≡ held xs es rest
held-step xs es rest i same x e h p q w = rw (p, q, add-one i) (and_assoc same _ _ ∙ ap (λ b. same && b) (sym (held_next xs es rest i h)) ∙ w)

none_left : (es : List ℕ) (rest n : ℕ) → held [] (drop n es) rest ≡ leb (length es) n
unfolding held
none_left [] rest n = rw (drop-nil {A = ℕ} n) (sym (le-leb 0 n (omega arith)))
none_left (e ∷ es) rest zero = sym (lt-leb (suc (length es)) 0 (omega arith))
none_left (e ∷ es) rest (suc n) = none_left es rest n ∙ sym (leb-suc-suc (length es) n)

pub held-end : (xs es : List ℕ) (rest i : ℕ) (same : Bool) → i ≡ length xs → same && held (drop i xs) (drop i es) rest ≡ held xs es rest → same && leb (length es) (length xs) ≡ held xs es rest
held-end xs es rest i same h w = ap (λ b. same && b) (sym (none_left es rest (length xs))) ∙ ap (λ l. same && held l (drop (length xs) es) rest) (sym (drop-length xs)) ∙ (rw (← h) w)
