-- Laws of Passes: a pass over the documents, one document at a time, and lists cut to the room there is.
use Rattle.std.specs.Prelude.{ℕ, zero, suc, ◌+◌, ◌≤◌, ◌<◌, min, ◌≡◌, refl, length, get_or, set, take, drop}
use Rattle.std.proofs.Common.{arith, add-one, sym, ap, ◌∙◌, length-take, take_all}
use mathlib.Core.List.{List, [], ◌∷◌, ◌++◌, map, zip_with}
use Rattle.std.proofs.Math.Seq.{drop-nil}
use Rattle.cluster_passes.specs.Passes.{over}

-- a pass so far: the first i documents have been looked at
abbrev pub Over : (ℕ → ℕ → ℕ) → List ℕ → List ℕ → ℕ → List ℕ → Type 0
Over f ids ts i now = (now ≡ zip_with f (take i ids) ts ++ drop i ts)

pub over-start : (f : ℕ → ℕ → ℕ) (ids ts : List ℕ) → Over f ids ts 0 ts
unfolding zip_with
over-start f ids ts = refl

pub over-read : (f : ℕ → ℕ → ℕ) (ids ts ns : List ℕ) (i : ℕ) → Over f ids ts i ns → i < length ids → get_or ns i 0 ≡ get_or ts i 0
unfolding zip_with
over-read f ids ts ns i o h = ap (λ l. get_or l i 0) o ∙ go ids ts i h
  where
    go : (ids ts : List ℕ) (i : ℕ) → i < length ids → get_or (zip_with f (take i ids) ts ++ drop i ts) i 0 ≡ get_or ts i 0
    go [] ts i h = absurd (let z : ⊥ = omega arith in z)
    go (x ∷ ids) [] zero h = refl
    go (x ∷ ids) [] (suc i) h = refl
    go (x ∷ ids) (t ∷ ts) zero h = refl
    go (x ∷ ids) (t ∷ ts) (suc i) h = go ids ts i (omega arith)

pub over-step : (f : ℕ → ℕ → ℕ) (ids ts ns : List ℕ) (i : ℕ) → Over f ids ts i ns → i < length ids → i < length ts → Over f ids ts (i + 1) (set ns i (f (get_or ids i 0) (get_or ts i 0)))
unfolding zip_with
over-step f ids ts ns i o h g = rw (add-one i) (ap (λ l. set l i (f (get_or ids i 0) (get_or ts i 0))) o ∙ go ids ts i h g)
  where
    go : (ids ts : List ℕ) (i : ℕ) → i < length ids → i < length ts → set (zip_with f (take i ids) ts ++ drop i ts) i (f (get_or ids i 0) (get_or ts i 0)) ≡ zip_with f (take (suc i) ids) ts
        ++ drop (suc i) ts
    go [] ts i h g = absurd (let z : ⊥ = omega arith in z)
    go (x ∷ ids) [] i h g = absurd (let z : ⊥ = omega arith in z)
    go (x ∷ ids) (t ∷ ts) zero h g = refl
    go (x ∷ ids) (t ∷ ts) (suc i) h g = ap (λ l. f x t ∷ l) (go ids ts i (omega arith) (omega arith))

pub over-end : (f : ℕ → ℕ → ℕ) (ids ts ns : List ℕ) (i : ℕ) → Over f ids ts i ns → i ≡ length ids → ns ≡ over f ids ts
over-end f ids ts ns i o e = o ∙ (λ j. zip_with f ((ap (λ n. take n ids) e ∙ take_all (length ids) ids (omega arith)) j) ts ++ drop (e j) ts)

-- a pass that looks at the document alone
pub over-map : (g : ℕ → ℕ) (ids ts : List ℕ) → length ids ≤ length ts → over (λ i r. g i) ids ts ≡ map g ids ++ drop (length ids) ts
unfolding zip_with
over-map g [] ts h = refl
over-map g (i ∷ ids) [] h = absurd (let z : ⊥ = omega arith in z)
over-map g (i ∷ ids) (t ∷ ts) h = ap (λ l. g i ∷ l) (over-map g ids ts (omega arith))

-- a pass over what such a pass left
pub over-mapped : (f : ℕ → ℕ → ℕ) (g : ℕ → ℕ) (ids rest : List ℕ) → over f ids (map g ids ++ rest) ≡ map (λ i. f i (g i)) ids ++ rest
unfolding zip_with
over-mapped f g [] rest = refl
over-mapped f g (i ∷ ids) rest = ap (λ l. f i (g i) ∷ l) (over-mapped f g ids rest)

-- ---- a list cut to the room that another has
pub cut-take : (ids ts : List ℕ) (n : ℕ) → n ≡ min (length ids) (length ts) → take n ids ≡ take (length ts) ids
cut-take [] [] n e = ap (λ k. take k []) (let z : n ≡ 0 = omega arith in z)
cut-take [] (t ∷ ts) n e = ap (λ k. take k []) (let z : n ≡ 0 = omega arith in z)
cut-take (i ∷ ids) [] n e = ap (λ k. take k (i ∷ ids)) (let z : n ≡ 0 = omega arith in z)
cut-take (i ∷ ids) (t ∷ ts) zero e = absurd (let z : ⊥ = omega arith in z)
cut-take (i ∷ ids) (t ∷ ts) (suc n) e = ap (λ l. i ∷ l) (cut-take ids ts n (omega arith))

pub cut-drop : (ids ts : List ℕ) (n : ℕ) → n ≡ min (length ids) (length ts) → drop n ts ≡ drop (length ids) ts
cut-drop ids [] zero e = sym (drop-nil (length ids))
cut-drop ids [] (suc n) e = absurd (let z : ⊥ = omega arith in z)
cut-drop [] (t ∷ ts) zero e = refl
cut-drop [] (t ∷ ts) (suc n) e = absurd (let z : ⊥ = omega arith in z)
cut-drop (i ∷ ids) (t ∷ ts) zero e = absurd (let z : ⊥ = omega arith in z)
cut-drop (i ∷ ids) (t ∷ ts) (suc n) e = cut-drop ids ts n (omega arith)

pub cut_fits : (ids ts : List ℕ) (n : ℕ) → n ≡ min (length ids) (length ts) → length (take n ids) ≤ length ts
cut_fits ids ts n e = let l = length-take n ids in omega arith
