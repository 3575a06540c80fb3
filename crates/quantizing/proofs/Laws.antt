-- What the proofs of the loops cite, over lists alone.
use mathlib.Core.Path.{◌≡◌, refl, sym, ap, ◌∙◌}
use mathlib.Core.List.{List, [], ◌∷◌, ◌++◌, map, map-append, append_assoc}
use Prim.Native.Nat.{ℕ, suc, ◌+◌, ◌≤◌, ◌<◌, min, max}
use native.Mathlib.Omega.{arith}
use native.Mathlib.Numerals.{add-one}
use lib.ListN.{length, get_or, take, drop, set, length-map, length-take, drop_of_length-le}
use lib.Seq.{take-suc, drop-cons, set_at}
use lib.Ieee.{Float, nan}
use Rattle.float32.specs.Key.{key_of}
use Rattle.quantizing.specs.Laws.Extremes.{lowest, highest}

-- the first i values are coded, and what was lent stands past them
abbrev pub coded : (Float → ℕ) → List Float → List ℕ → ℕ → List ℕ
coded f values lent i = map f (take i values) ++ drop i lent

pub coded-more : (f : Float → ℕ) (values : List Float) (lent : List ℕ) (i : ℕ) → i < length values → length values ≤ length lent
    → set (coded f values lent i) i (f (get_or values i nan)) ≡ coded f values lent (i + 1)
coded-more f values lent i h k =
    let p = map f (take i values) in
    let v = get_or values i nan in
    let n : length p ≡ i = length-map (take i values) f ∙ length-take i values ∙ omega arith in
    ap (λ (r : List ℕ). set (p ++ r) i (f v)) (drop-cons lent i 0 (omega arith))
    ∙ set_at p (get_or lent i 0) (drop (suc i) lent) (f v) i n
    ∙ sym (append_assoc p (f v ∷ []) (drop (suc i) lent))
    ∙ ap (λ (r : List ℕ). r ++ drop (suc i) lent) (sym (map-append f (take i values) (v ∷ [])))
    ∙ ap (λ (r : List Float). map f r ++ drop (suc i) lent) (sym (take-suc values i nan h))
    ∙ ap (λ (j : ℕ). coded f values lent j) (sym (add-one i))

pub coded-all : (f : Float → ℕ) (values : List Float) (lent : List ℕ) (i : ℕ) → i ≡ length values → coded f values lent i ≡ map f values ++ drop (length values) lent
coded-all f values lent i e = ap (coded f values lent) e ∙ ap (λ (r : List Float). map f r ++ drop (length values) lent) (all values)
  where
    all : (l : List Float) → take (length l) l ≡ l
    all [] = refl
    all (x ∷ l) = ap (λ (r : List Float). x ∷ r) (all l)

-- a pass for the lowest and the highest key: with one more value, and with none left
pub lowest-more : (k : ℕ) (values : List Float) (i : ℕ) → i < length values → lowest k (drop i values) ≡ lowest (min k (key_of (get_or values i nan))) (drop (i + 1) values)
lowest-more k values i h = rw (add-one, drop-cons values i nan)

pub highest-more : (k : ℕ) (values : List Float) (i : ℕ) → i < length values → highest k (drop i values) ≡ highest (max k (key_of (get_or values i nan))) (drop (i + 1) values)
highest-more k values i h = rw (add-one, drop-cons values i nan)

pub lowest-done : (k : ℕ) (values : List Float) (i : ℕ) → length values ≤ i → lowest k (drop i values) ≡ k
lowest-done k values i h = rw drop_of_length-le

pub highest-done : (k : ℕ) (values : List Float) (i : ℕ) → length values ≤ i → highest k (drop i values) ≡ k
highest-done k values i h = rw drop_of_length-le
