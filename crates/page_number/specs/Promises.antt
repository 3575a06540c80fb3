-- What the page number is, in words and in document 01's numbers: document 01, "Page number".
use Rattle.std.specs.Prelude.{ℕ, zero, suc, ◌<◌, ◌≡◌, refl, Bool, true, false, ◌⊎◌, List, get_or}
use Rattle.std.proofs.Common.{arith, sym, ap, ◌∙◌, true≢false, inl, inr}
use Rattle.std.proofs.Math.Decide.{ℕ_discrete}
use Rattle.documents.specs.Documents.{count}
use Rattle.documents.specs.Checks.{offsets_hold_free}
use Rattle.page_number.specs.Answers.{page_number, in_numbers}
use Rattle.page_number.specs.Laws.Pages.{page-refused, page-found, page-none}

-- i is the smallest of n documents whose start is s
pub record Smallest (offsets : List ℕ) (s n i : ℕ) : Type 0 where
  pub within : i < n
  pub starts : get_or offsets i 0 ≡ s
  pub none_before : (k : ℕ) → k < i → get_or offsets k 0 ≡ s → ⊥

-- one or the other: a smallest document with the start, or none with it
look : (os : List ℕ) (s n : ℕ) → ((i : ℕ) × Smallest os s n i) ⊎ ((k : ℕ) → k < n → get_or os k 0 ≡ s → ⊥)
look os s zero = inr (λ k h. let z : ⊥ = omega arith in absurd z)
look os s (suc n) = go (look os s n) (ℕ_discrete (get_or os n 0) s)
  where
    go : ((i : ℕ) × Smallest os s n i) ⊎ ((k : ℕ) → k < n → get_or os k 0 ≡ s → ⊥) → Dec (get_or os n 0 ≡ s) → ((i : ℕ) × Smallest os s (suc n) i) ⊎ ((k : ℕ) → k < suc n → get_or os k 0 ≡ s → ⊥)
    go (inl p) d = inl (p.0, record { within = omega (arith, p.1.within); starts = p.1.starts; none_before = p.1.none_before })
    go (inr q) (yes e) = inl (n, record { within = omega arith; starts = e; none_before = q })
    go (inr q) (no e) = inr (λ k h f. at k (ℕ_discrete k n) h f)
      where
        at : (k : ℕ) → Dec (k ≡ n) → k < suc n → get_or os k 0 ≡ s → ⊥
        at k (yes g) h f = e (ap (λ j. get_or os j 0) (sym g) ∙ f)
        at k (no g) h f = q k (omega arith) f

-- the answer is the smallest document with the asked start
pub page-smallest : (os : List ℕ) (s i : ℕ) → in_numbers (page_number os s) ≡ inr i → Smallest os s (count os) i
page-smallest os s i h = go (offsets_hold_free os) refl (look os s (count os))
  where
    go : (b : Bool) → offsets_hold_free os ≡ b → ((i : ℕ) × Smallest os s (count os) i) ⊎ ((k : ℕ) → k < count os → get_or os k 0 ≡ s → ⊥) → Smallest os s (count os) i
    go false e q = absurd (let z = ap in_numbers (page-refused os s e) ∙ h in let w : ◌≡◌ {A = Bool} true false = cc in true≢false w)
    go true e (inl p) =
        let z = ap in_numbers (page-found os s p.0 e p.1.within p.1.starts p.1.none_before) ∙ h in
        let w : p.0 ≡ i = cc in
        record { within = rw (← w) p.1.within; starts = rw (← w) p.1.starts; none_before = rw (← w) p.1.none_before }
    go true e (inr q) = absurd (let z = ap in_numbers (page-none os s e q) ∙ h in let w : ◌≡◌ {A = Bool} true false = cc in true≢false w)

-- 6 where the offsets break their rule, the last one free
pub page-six : (os : List ℕ) (s : ℕ) → offsets_hold_free os ≡ false → in_numbers (page_number os s) ≡ inl 6
page-six os s h = ap in_numbers (sym (page-refused os s h))

-- 15 where they hold and no document has the asked start
pub page-fifteen : (os : List ℕ) (s : ℕ) → offsets_hold_free os ≡ true → ((k : ℕ) → k < count os → get_or os k 0 ≡ s → ⊥) → in_numbers (page_number os s) ≡ inl 15
page-fifteen os s h q = ap in_numbers (sym (page-none os s h q))
