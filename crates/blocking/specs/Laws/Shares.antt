-- Fixed blocks share out the list: one after another they are the whole of it, unless it is shorter than one block.
use Rattle.std.specs.Prelude.{ℕ, zero, suc, ◌+◌, ◌-◌, ◌*◌, ◌/◌, ◌≤◌, ◌≡◌, List, [], ◌∷◌, ◌++◌, map, length, drop}
use Rattle.std.proofs.Common.{sym, ap, subst, ◌∙◌, div-mul-le_self, arith, take-append-drop, drop-drop}
use Rattle.std.proofs.Math.Seq.{drop-length}
use Rattle.sequences.specs.Lists.{from, last_or, joined, between, part}
use Rattle.sequences.specs.Laws.Groups.{NeverFalls}
use Rattle.sequences.specs.Laws.Lists.{last_end}
use Rattle.blocking.specs.Blocking.{starts, fixed_offsets}

-- ---- offsets from a on that never fall and end at the last entry leave nothing out
module _ {A : Type 0} where
  pub between-all : (a : ℕ) (os : List ℕ) (xs : List A) → NeverFalls a os → last_or a os ≡ length xs → joined (between (a ∷ os) xs) ≡ drop a xs
  between-all a [] xs r l = sym (ap (λ n. drop n xs) l ∙ drop-length xs)
  between-all a (b ∷ os) xs r l =
      ap (λ z. part a (b - a) xs ++ z) (between-all b os xs r.1 l ∙ ap (λ n. drop n xs) (sym (meet a b r.0)) ∙ sym (drop-drop (b - a) a xs))
      ∙ take-append-drop (b - a) (drop a xs)
    where
      meet : (a b : ℕ) → a ≤ b → a + (b - a) ≡ b
      meet a b h = omega arith

-- ---- fixed offsets are such
falls-never : (b n i k : ℕ) → (i + k) * b ≤ n → NeverFalls (i * b) (map (λ j. j * b) (from i k) ++ (n ∷ []))
falls-never b n i zero h = (omega arith, tt)
falls-never b n i (suc k) h = (omega arith, weaker (map (λ j. j * b) (from (suc i) k) ++ (n ∷ [])) (falls-never b n (suc i) k (omega arith)))
  where
    weaker : (l : List ℕ) → NeverFalls (suc i * b) l → NeverFalls (i * b) l
    weaker [] r = tt
    weaker (x ∷ l) r = (omega (arith, r.0), r.1)

no_start : (b : ℕ) → 0 * b ≡ 0
no_start b = omega arith

pub fixed-never-fall : (n b : ℕ) → NeverFalls 0 (fixed_offsets n b)
unfolding fixed_offsets
fixed-never-fall n b = subst (λ z. NeverFalls z (starts b (n / b) ++ (n ∷ []))) (no_start b) (falls-never b n 0 (n / b) (omega (arith, div-mul-le_self n b)))

pub fixed_shares : {A : Type 0} (b k : ℕ) (ids : List A) → length ids / b ≡ suc k → joined (between (fixed_offsets (length ids) b) ids) ≡ ids
unfolding fixed_offsets
fixed_shares b k ids e =
    let os = map (λ i. i * b) (from 1 k) ++ (length ids ∷ []) in
    let same : fixed_offsets (length ids) b ≡ 0 * b ∷ os = ap (λ z. starts b z ++ (length ids ∷ [])) e in
    let r : NeverFalls 0 (0 * b ∷ os) = subst (NeverFalls 0) same (fixed-never-fall (length ids) b) in
    ap (λ z. joined (between z ids)) same ∙ between-all (0 * b) os ids r.1 (last_end (0 * b) (map (λ i. i * b) (from 1 k)) (length ids)) ∙ ap (λ z. drop z ids) (no_start b)
