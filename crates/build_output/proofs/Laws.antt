-- Postings and offsets written one after another, as far as there is room.
use Prim.Native.Nat.{ℕ, zero, suc, ◌+◌, ◌≤◌, ◌<◌, min}
use native.Mathlib.Omega.{arith}
use native.Mathlib.Numerals.{add-one}
use mathlib.Core.Path.{◌≡◌, refl, sym, ap, ◌∙◌}
use mathlib.Core.Logic.{⊎_elim}
use mathlib.Core.List.{List, [], ◌∷◌, ◌++◌, map}
use lib.ListN.{length, get_or, set, take, drop, length-map, drop_of_length-le}
use lib.Seq.{sets, drop-cons}
use Rattle.sequences.specs.Laws.Lists.{le-or-lt}

-- ---- what is left to write, written, is all written
-- nothing is set past the end
set_past : (l : List ℕ) (i x : ℕ) → length l ≤ i → set l i x ≡ l
set_past [] i x h = refl
set_past (y ∷ l) zero x h = let z : ⊥ = omega arith in absurd z
set_past (y ∷ l) (suc i) x h = ap (λ r. y ∷ r) (set_past l i x (omega arith))

sets-past : (l vs : List ℕ) (i : ℕ) → length l ≤ i → sets l i vs ≡ l
sets-past l [] i h = refl
sets-past l (x ∷ vs) i h = ap (λ k. sets k (suc i) vs) (set_past l i x h) ∙ sets-past l vs (suc i) (omega arith)

pub write_step : (out before now : List ℕ) (i x : ℕ) → i < length out → x ≡ get_or out i 0 → sets now i (drop i out) ≡ sets before 0 out → sets (set now i x) (i + 1) (drop (i + 1) out) ≡ sets before 0 out
write_step out before now i x h q e =
    rw (add-one i)
    (ap (λ y. sets (set now i y) (suc i) (drop (suc i) out)) q
    ∙ sym (ap (sets now i) (drop-cons out i 0 h))
    ∙ e)

pub write-end : (out before now : List ℕ) (i : ℕ) → min (length out) (length now) ≤ i → sets now i (drop i out) ≡ sets before 0 out → now ≡ sets before 0 out
write-end out before now i h e = sym (rest out now i h) ∙ e
  where
    rest : (out now : List ℕ) (i : ℕ) → min (length out) (length now) ≤ i → sets now i (drop i out) ≡ now
    rest out now i h = ⊎_elim (λ a. ap (sets now i) (drop_of_length-le out a)) (λ b. sets-past now (drop i out) i (omega arith)) (le-or-lt (length out) i)

-- the front of a list, as far as there is room, in front of the other
sets-behind : (y : ℕ) (l : List ℕ) (i : ℕ) (vs : List ℕ) → sets (y ∷ l) (suc i) vs ≡ y ∷ sets l i vs
sets-behind y l i [] = refl
sets-behind y l i (x ∷ vs) = sets-behind y (set l i x) (suc i) vs

pub in-front : (vs l : List ℕ) (n : ℕ) → n ≡ min (length vs) (length l) → take n vs ++ drop n l ≡ sets l 0 vs
in-front [] l zero e = refl
in-front [] l (suc n) e = let z : ⊥ = omega arith in absurd z
in-front (x ∷ vs) [] zero e = sym (sets-past [] (x ∷ vs) 0 (omega arith))
in-front (x ∷ vs) [] (suc n) e = let z : ⊥ = omega arith in absurd z
in-front (x ∷ vs) (y ∷ l) zero e = let z : ⊥ = omega arith in absurd z
in-front (x ∷ vs) (y ∷ l) (suc n) e = ap (λ r. x ∷ r) (in-front vs l n (omega arith)) ∙ sym (sets-behind x l 0 vs)

-- ---- a posting for each document
get_d-mapped : (f : ℕ → ℕ) (l : List ℕ) (i : ℕ) → i < length l → f (get_or l i 0) ≡ get_or (map f l) i 0
get_d-mapped f [] i h = let z : ⊥ = omega arith in absurd z
get_d-mapped f (x ∷ l) zero h = refl
get_d-mapped f (x ∷ l) (suc i) h = get_d-mapped f l i (omega arith)

pub mapped-step : (f : ℕ → ℕ) (order before now : List ℕ) (i x : ℕ) → i < length order → x ≡ f (get_or order i 0) → sets now i (drop i (map f order)) ≡ sets before 0 (map f order) → sets (set now i x) (i + 1) (drop (i + 1) (map f order)) ≡ sets before 0 (map f order)
mapped-step f order before now i x h q e = let m = length-map order f in write_step (map f order) before now i x (omega arith) (q ∙ get_d-mapped f order i h) e

pub mapped_end : (f : ℕ → ℕ) (order before now : List ℕ) (i : ℕ) → min (length order) (length now) ≤ i → sets now i (drop i (map f order)) ≡ sets before 0 (map f order) → now ≡ sets before 0 (map f order)
mapped_end f order before now i h e = let m = length-map order f in write-end (map f order) before now i (omega arith) e
