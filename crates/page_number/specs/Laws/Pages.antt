-- The page number by a place in the offsets.
use Rattle.std.specs.Prelude.{ℕ, zero, suc, ◌+◌, ◌≤◌, ◌<◌, ◌≡◌, refl, Bool, true, false, cond, length, get_or, Ok, Err}
use Rattle.std.proofs.Common.{arith, ap, ◌∙◌}
use Rattle.std.proofs.Math.Decide.{dec_le}
use mathlib.Core.List.{List, [], ◌∷◌}
use Rattle.std.proofs.Math.Dec.{eqb}
use borrow.Author.Tests.{eq-eqb, ne_eqb, eqb-true, eqb-false}
use Rattle.sequences.specs.Lists.{those, from}
use Rattle.refusal.specs.declared.Refusal.TheVariants.{WrongDocuments, NoSuchStart}
use Rattle.documents.specs.Documents.{count, starting_at}
use Rattle.documents.specs.Checks.{offsets_hold_free}
use Rattle.page_number.specs.Answers.{page_number, Found}

-- ---- of the numbers from a on, those that pass a test
module _ (p : ℕ → Bool) where
  those-none : (a n : ℕ) → ((k : ℕ) → a ≤ k → k < a + n → p k ≡ false) → those p (from a n) ≡ []
  those-none a zero h = refl
  those-none a (suc n) h = rw (h a (omega arith) (omega arith)) (those-none (suc a) n (λ k l m. h k (omega arith) (omega arith)))

  -- the first that passes heads them
  those-first : (a n i : ℕ) → a ≤ i → i < a + n → p i ≡ true → ((k : ℕ) → a ≤ k → k < i → p k ≡ false) → (rest : List ℕ) × (those p (from a n) ≡ i ∷ rest)
  those-first a zero i l m t h = let z : ⊥ = omega arith in absurd z
  those-first a (suc n) i l m t h = go (eqb a i) refl (those-first (suc a) n i)
    where
      go : (b : Bool) → eqb a i ≡ b
          → (suc a ≤ i → i < suc a + n → p i ≡ true → ((k : ℕ) → suc a ≤ k → k < i → p k ≡ false) → (rest : List ℕ) × (those p (from (suc a) n) ≡ i ∷ rest))
          → (rest : List ℕ) × (those p (from a (suc n)) ≡ i ∷ rest)
      go true e f =
          let s : a ≡ i = eqb-true a i e in
          (those p (from (suc a) n), ap (λ b. cond b (a ∷ those p (from (suc a) n)) (those p (from (suc a) n))) (ap p s ∙ t) ∙ ap (λ k. k ∷ those p (from (suc a) n)) s)
      go false e f =
          let s : a ≡ i → ⊥ = eqb-false a i e in
          let r = f (omega arith) (omega arith) t (λ k x y. h k (omega arith) y) in
          (r.0, ap (λ b. cond b (a ∷ those p (from (suc a) n)) (those p (from (suc a) n))) (h a (omega arith) (omega arith)) ∙ r.1)

pub other : (a b : ℕ) → a ≤ b → (b ≡ a → ⊥) → a < b
other a b h n = omega arith

module _ (os : List ℕ) (s : ℕ) where
  pub page-refused : offsets_hold_free os ≡ false → Err WrongDocuments ≡ page_number os s
  unfolding page_number
  page-refused h = rw h

  -- the first offset that is the asked start is that of the asked document
  pub page-found : (i : ℕ) → offsets_hold_free os ≡ true → i < count os → get_or os i 0 ≡ s → ((k : ℕ) → k < i → get_or os k 0 ≡ s → ⊥) → Ok (record { 0 = i }) ≡ page_number os s
  unfolding page_number starting_at
  page-found i h l e below =
      let r = those-first (λ k. eqb (get_or os k 0) s) 0 (count os) i (omega arith) (omega arith) (eq-eqb (get_or os i 0) s e) (λ k x y. ne_eqb (get_or os k 0) s (below k y)) in
      go r.0 r.1
    where
      go : (rest : List ℕ) → those (λ k. eqb (get_or os k 0) s) (from 0 (count os)) ≡ i ∷ rest → Ok (record { 0 = i }) ≡ page_number os s
      go rest q = rw (h, q, ne_eqb (suc (length rest)) 0 (λ z. omega arith))

  pub page-none : offsets_hold_free os ≡ true → ((k : ℕ) → k < count os → get_or os k 0 ≡ s → ⊥) → Err NoSuchStart ≡ page_number os s
  unfolding page_number starting_at
  page-none h none =
      let q = those-none (λ k. eqb (get_or os k 0) s) 0 (count os) (λ k x y. ne_eqb (get_or os k 0) s (none k (omega arith))) in
      rw (h, q)

  -- what a search over offsets that never fall found
  pub found_first : (n i : ℕ) → Found os s n i → (k : ℕ) → k < i → get_or os k 0 ≡ s → ⊥
  found_first n i f k l e = omega (arith, f.below k l)

  pub found_none : (n i : ℕ) → Found os s n i → (i < n → s < get_or os i 0) → ((j k : ℕ) → j ≤ k → k < n → get_or os j 0 ≤ get_or os k 0) → (k : ℕ) → k < n → get_or os k 0 ≡ s → ⊥
  found_none n i f past rise k l e = go (dec_le i k)
    where
      go : Dec (i ≤ k) → ⊥
      go (yes h) = omega (arith, past (omega arith), rise i k h l)
      go (no h) = omega (arith, f.below k (omega arith))
