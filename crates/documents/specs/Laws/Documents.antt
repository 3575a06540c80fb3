-- Laws of Documents: what follows for those who read documents that hold.
use Rattle.std.specs.Prelude.{ℕ, zero, suc, ◌-◌, ◌≤◌, ◌<◌, ◌≡◌, Bool, true, ◌&&◌, get_or, T, leb, ltb, eqb, Float}
use native.Mathlib.Omega.{arith}
use Rattle.std.proofs.Math.Path.{refl}
use Rattle.std.proofs.Common.{sym, ap, ◌∙◌, true≢false}
use Rattle.std.proofs.Math.Bool.{false, and-true, and-false}
use mathlib.Core.List.{List, [], ◌∷◌, map, foldl, zip_with}
use Rattle.std.proofs.Math.ListN.{length}
use Rattle.std.specs.Float.{binary32}
use Rattle.std.specs.Float.Ieee.{fits, add}
use Rattle.std.specs.Float.Ieee.Fits.{add-fits}
use borrow.Author.Tests.{leb-true, ltb-true, eqb-true, eq-eqb, ne_eqb, lt-ltb, le-leb}
use Rattle.float32.specs.Bound.{in_bound}
use Rattle.float32.specs.Laws.Comparisons.{zero_of, zero-fits}
use Rattle.sequences.specs.Lists.{every, first_or, last_or, never_falls, strictly_rise}
use Rattle.sequences.specs.Laws.Lists.{both}
use Rattle.documents.specs.Documents.{Term, paired, documents, products, dot}
use Rattle.documents.specs.Checks.{offsets_hold_free, offsets_hold, terms_hold, terms_hold_below, slices_hold, slices_hold_below}

-- ---- orders, between any two places
pub never-falls-at : (l : List ℕ) → never_falls l ≡ true → (i k : ℕ) → i ≤ k → k < length l → get_or l i 0 ≤ get_or l k 0
never-falls-at [] h i k p q = let z : ⊥ = omega arith in absurd z
never-falls-at (x ∷ []) h zero zero p q = omega arith
never-falls-at (x ∷ []) h i (suc k) p q = let z : ⊥ = omega arith in absurd z
never-falls-at (x ∷ []) h (suc i) zero p q = let z : ⊥ = omega arith in absurd z
never-falls-at (x ∷ y ∷ l) h zero zero p q = omega arith
never-falls-at (x ∷ y ∷ l) h (suc i) zero p q = let z : ⊥ = omega arith in absurd z
never-falls-at (x ∷ y ∷ l) h zero (suc k) p q =
    let b = both (leb x y) (never_falls (y ∷ l)) h in
    let s : x ≤ y = leb-true x y b.0 in
    let t : y ≤ get_or (y ∷ l) k 0 = never-falls-at (y ∷ l) b.1 0 k (omega arith) (omega arith) in
    omega arith
never-falls-at (x ∷ y ∷ l) h (suc i) (suc k) p q =
    never-falls-at (y ∷ l) (both (leb x y) (never_falls (y ∷ l)) h).1 i k (omega arith) (omega arith)

pub strictly-rise-at : (l : List ℕ) → strictly_rise l ≡ true → (i k : ℕ) → i < k → k < length l → get_or l i 0 < get_or l k 0
strictly-rise-at [] h i k p q = let z : ⊥ = omega arith in absurd z
strictly-rise-at (x ∷ []) h i k p q = let z : ⊥ = omega arith in absurd z
strictly-rise-at (x ∷ y ∷ l) h i zero p q = let z : ⊥ = omega arith in absurd z
strictly-rise-at (x ∷ y ∷ l) h zero (suc zero) p q = ltb-true x y (both (ltb x y) (strictly_rise (y ∷ l)) h).0
strictly-rise-at (x ∷ y ∷ l) h zero (suc (suc k)) p q =
    let b = both (ltb x y) (strictly_rise (y ∷ l)) h in
    let s : x < y = ltb-true x y b.0 in
    let t : y < get_or (y ∷ l) (suc k) 0 = strictly-rise-at (y ∷ l) b.1 0 (suc k) (omega arith) (omega arith) in
    omega arith
strictly-rise-at (x ∷ y ∷ l) h (suc i) (suc k) p q =
    strictly-rise-at (y ∷ l) (both (ltb x y) (strictly_rise (y ∷ l)) h).1 i k (omega arith) (omega arith)

pub last-at : (d : ℕ) (l : List ℕ) → 0 < length l → last_or d l ≡ get_or l (length l - 1) 0
last-at d [] h = let z : ⊥ = omega arith in absurd z
last-at d (x ∷ []) h = refl
last-at d (x ∷ y ∷ l) h = last-at x (y ∷ l) (omega arith) ∙ ap (λ (k : ℕ). get_or (x ∷ y ∷ l) k 0) (again (length l))
  where
    again : (n : ℕ) → suc (suc n - 1) ≡ suc (suc n) - 1
    again n = omega arith

pub rise-never : (l : List ℕ) → strictly_rise l ≡ true → never_falls l ≡ true
rise-never [] h = refl
rise-never (x ∷ []) h = refl
rise-never (x ∷ y ∷ l) h =
    let b = both (ltb x y) (strictly_rise (y ∷ l)) h in
    let s : x < y = ltb-true x y b.0 in
    let i = rise-never (y ∷ l) b.1 in
    rw (le-leb x y (omega arith), i)

-- ---- components and values side by side
pub paired-length : (cs : List ℕ) (vs : List Float) → length cs ≡ length vs → length (paired cs vs) ≡ length cs
unfolding paired zip_with
paired-length [] vs e = refl
paired-length (c ∷ cs) [] e = let z : ⊥ = omega arith in absurd z
paired-length (c ∷ cs) (v ∷ vs) e = ap suc (paired-length cs vs (omega arith))

pub paired-components : (cs : List ℕ) (vs : List Float) → length cs ≡ length vs → map (λ t. t.component) (paired cs vs) ≡ cs
unfolding paired zip_with
paired-components [] vs e = refl
paired-components (c ∷ cs) [] e = let z : ⊥ = omega arith in absurd z
paired-components (c ∷ cs) (v ∷ vs) e = ap (λ l. c ∷ l) (paired-components cs vs (omega arith))

pub paired-values : (cs : List ℕ) (vs : List Float) → length cs ≡ length vs → map (λ t. t.value) (paired cs vs) ≡ vs
unfolding paired zip_with
paired-values [] [] e = refl
paired-values [] (v ∷ vs) e = let z : ⊥ = omega arith in absurd z
paired-values (c ∷ cs) [] e = let z : ⊥ = omega arith in absurd z
paired-values (c ∷ cs) (v ∷ vs) e = ap (λ l. v ∷ l) (paired-values cs vs (omega arith))

-- ---- slices that hold, one slice at a time
paired-bound : (cs : List ℕ) (vs : List Float) → length cs ≡ length vs → every (λ t. in_bound t.value) (paired cs vs) ≡ every in_bound vs
unfolding paired zip_with
paired-bound [] [] e = refl
paired-bound [] (v ∷ vs) e = let z : ⊥ = omega arith in absurd z
paired-bound (c ∷ cs) [] e = let z : ⊥ = omega arith in absurd z
paired-bound (c ∷ cs) (v ∷ vs) e = ap (λ b. in_bound v && b) (paired-bound cs vs (omega arith))

paired-below : (n : ℕ) (cs : List ℕ) (vs : List Float) → length cs ≡ length vs → every (λ t. ltb t.component n) (paired cs vs) ≡ every (λ c. ltb c n) cs
unfolding paired zip_with
paired-below n [] vs e = refl
paired-below n (c ∷ cs) [] e = let z : ⊥ = omega arith in absurd z
paired-below n (c ∷ cs) (v ∷ vs) e = ap (λ b. ltb c n && b) (paired-below n cs vs (omega arith))

pub slices-apart : (cs : List ℕ) (vs : List Float) → length cs ≡ length vs → slices_hold cs vs ≡ (strictly_rise cs && every in_bound vs)
unfolding slices_hold terms_hold
slices-apart cs vs e =
    ap (λ b. b && terms_hold (paired cs vs)) (eq-eqb (length cs) (length vs) e)
    ∙ ap (λ l. strictly_rise l && every (λ t. in_bound t.value) (paired cs vs)) (paired-components cs vs e)
    ∙ ap (λ b. strictly_rise cs && b) (paired-bound cs vs e)

pub slices-uneven : (cs : List ℕ) (vs : List Float) → (length cs ≡ length vs → ⊥) → slices_hold cs vs ≡ false
unfolding slices_hold
slices-uneven cs vs h = ap (λ b. b && terms_hold (paired cs vs)) (ne_eqb (length cs) (length vs) h)

-- the components of slices that hold
pub slices-even : (cs : List ℕ) (vs : List Float) → slices_hold cs vs ≡ true → length cs ≡ length vs
unfolding slices_hold
slices-even cs vs h = eqb-true (length cs) (length vs) (both (eqb (length cs) (length vs)) (terms_hold (paired cs vs)) h).0

pub slices-rise : (cs : List ℕ) (vs : List Float) → slices_hold cs vs ≡ true → strictly_rise cs ≡ true
slices-rise cs vs h = (both (strictly_rise cs) (every in_bound vs) (sym (slices-apart cs vs (slices-even cs vs h)) ∙ h)).0

-- where components rise, the last one says whether all lie below a dimension
every-below : (n : ℕ) (cs : List ℕ) → strictly_rise cs ≡ true → 0 < length cs → every (λ c. ltb c n) cs ≡ ltb (get_or cs (length cs - 1) 0) n
every-below n [] r h = let z : ⊥ = omega arith in absurd z
every-below n (c ∷ []) r h = and-true (ltb c n)
every-below n (c ∷ d ∷ cs) r h =
    let b = both (ltb c d) (strictly_rise (d ∷ cs)) r in
    let k : length (c ∷ d ∷ cs) - 1 ≡ suc (length (d ∷ cs) - 1) = omega arith in
    ap (λ b. ltb c n && b) (every-below n (d ∷ cs) b.1 (omega arith)) ∙ at (ltb (get_or (d ∷ cs) (length (d ∷ cs) - 1) 0) n) refl b.0 b.1 ∙ ap (λ k. ltb (get_or (c ∷ d ∷ cs) k 0) n) (sym k)
  where
    at : (b : Bool) → ltb (get_or (d ∷ cs) (length (d ∷ cs) - 1) 0) n ≡ b → ltb c d ≡ true → strictly_rise (d ∷ cs) ≡ true → (ltb c n && b) ≡ ltb (get_or (d ∷ cs) (length (d ∷ cs) - 1) 0) n
    at false e l r = and-false (ltb c n) ∙ sym e
    at true e l r =
        let x : c < d = ltb-true c d l in
        let y : get_or (d ∷ cs) (length (d ∷ cs) - 1) 0 < n = ltb-true (get_or (d ∷ cs) (length (d ∷ cs) - 1) 0) n e in
        let z : d ≤ get_or (d ∷ cs) (length (d ∷ cs) - 1) 0 = never-falls-at (d ∷ cs) (rise-never (d ∷ cs) r) 0 (length (d ∷ cs) - 1) (omega arith) (omega arith) in
        and-true (ltb c n) ∙ lt-ltb c n (omega arith) ∙ sym e

pub slices-below : (n : ℕ) (cs : List ℕ) (vs : List Float) → slices_hold_below n cs vs ≡ (slices_hold cs vs && every (λ c. ltb c n) cs)
unfolding slices_hold_below slices_hold terms_hold_below
slices-below n cs vs = go (eqb (length cs) (length vs)) refl
  where
    go : (b : Bool) → eqb (length cs) (length vs) ≡ b → (b && (terms_hold (paired cs vs) && every (λ t. ltb t.component n) (paired cs vs))) ≡ (b && terms_hold (paired cs vs)
        && every (λ c. ltb c n) cs)
    go true e = ap (λ b. terms_hold (paired cs vs) && b) (paired-below n cs vs (eqb-true (length cs) (length vs) e))
    go false e = refl

pub slices-below-none : (n : ℕ) (cs : List ℕ) (vs : List Float) → slices_hold cs vs ≡ true → length cs ≡ 0 → slices_hold_below n cs vs ≡ true
slices-below-none n [] vs h e = slices-below n [] vs ∙ and-true (slices_hold [] vs) ∙ h
slices-below-none n (c ∷ cs) vs h e = let z : ⊥ = omega arith in absurd z

pub slices-below-last : (n : ℕ) (cs : List ℕ) (vs : List Float) → slices_hold cs vs ≡ true → 0 < length cs → slices_hold_below n cs vs ≡ ltb (get_or cs (length cs - 1) 0) n
slices-below-last n cs vs h p = slices-below n cs vs ∙ ap (λ b. b && every (λ c. ltb c n) cs) h ∙ every-below n cs (slices-rise cs vs h) p

-- ---- offsets that hold
pub free-some : (os : List ℕ) → offsets_hold_free os ≡ true → 0 < length os
unfolding offsets_hold_free
free-some [] h = absurd (true≢false (sym h))
free-some (x ∷ os) h = omega arith

pub free-never-falls : (os : List ℕ) → offsets_hold_free os ≡ true → never_falls os ≡ true
unfolding offsets_hold_free
free-never-falls os h = (both (eqb (first_or 1 os) 0) (never_falls os) h).1

module _ (os cs : List ℕ) (vs : List Float) where
  pub offsets-hold-none : length os ≡ 0 → offsets_hold (documents os cs vs) ≡ false
  unfolding offsets_hold offsets_hold_free
  offsets-hold-none e = go os e
    where
      go : (os : List ℕ) → length os ≡ 0 → offsets_hold (documents os cs vs) ≡ false
      go [] e = refl
      go (x ∷ os) e = let z : ⊥ = omega arith in absurd z

  pub offsets-hold-uneven : (length cs ≡ length vs → ⊥) → offsets_hold (documents os cs vs) ≡ false
  unfolding offsets_hold
  offsets-hold-uneven h = rw (ne_eqb (length cs) (length vs) h, and-false, and-false)

  pub offsets-hold-past : 0 < length os → (get_or os (length os - 1) 0 ≡ length cs → ⊥) → offsets_hold (documents os cs vs) ≡ false
  unfolding offsets_hold
  offsets-hold-past p h = rw (last-at 0 os p, ne_eqb (get_or os (length os - 1) 0) (length cs) h, and-false)

  pub offsets-hold-rest : 0 < length os → length cs ≡ length vs → get_or os (length os - 1) 0 ≡ length cs → offsets_hold (documents os cs vs) ≡ offsets_hold_free os
  unfolding offsets_hold
  offsets-hold-rest p e h = rw (last-at 0 os p, eq-eqb (get_or os (length os - 1) 0) (length cs) h, eq-eqb (length cs) (length vs) e, and-true)

-- ---- a dot product is an f32
pub dot-fits : (query ts : List Term) → T (fits binary32 (dot query ts))
unfolding dot
dot-fits query ts = sum_fits (products query ts) (zero_of false) (zero-fits false)
  where
    sum_fits : (xs : List Float) (x : Float) → T (fits binary32 x) → T (fits binary32 (foldl (add binary32) x xs))
    sum_fits [] x f = f
    sum_fits (y ∷ xs) x f = sum_fits xs (add binary32 x y) (add-fits binary32 x y)
