-- A summary has each component once, rising.
use Rattle.std.specs.Prelude.{ℕ, zero, suc, ◌≤◌, ◌≡◌, refl, true, false, ◌||◌, take, eqb}
use Rattle.std.proofs.Common.{arith, sym, ap, ◌∙◌, subst, le-leb, leb-true, leb-false, ne_eqb}
use Rattle.std.proofs.Math.Decide.{dec_le}
use mathlib.Core.List.Permᴰ
use mathlib.Core.List.{List, [], ◌∷◌, map, Permᴰ}
use Rattle.std.proofs.lemmas.Bool.{eqb-false}
use Rattle.sequences.specs.Lists.{among, rising, sorted_by}
use Rattle.sequences.specs.Groups.{RisesFrom}
use Rattle.sequences.specs.Laws.Groups.{rising-rises, not-among}
use Rattle.sequences.specs.Laws.Sorted.{InOrder, sort-in-order, sort-permutes, map-permutes}
use Rattle.sequences.specs.Laws.Lists.{or_left, or_right, among-permuted, among-take}
use Rattle.documents.specs.Documents.{Term, term, Documents, greater_first, falling}
use Rattle.configuration.specs.declared.SummarizationStrategy.{SummarizationStrategy}
use Rattle.summary_maximum.specs.Changes.{components, maximum_of}
use Rattle.summary_terms.specs.Summaries.{block_terms, maxima, block_maximum, kept, lower, summary}
use Rattle.summary_terms.specs.Laws.Promises.{kept-first}

abbrev pub NoRepeat : List ℕ → Type 0
NoRepeat [] = Unit {0}
NoRepeat (x ∷ xs) = (among x xs ≡ false) × NoRepeat xs

rises-once : (b : ℕ) (ks : List ℕ) → RisesFrom b ks → NoRepeat ks
rises-once b [] r = tt
rises-once b (k ∷ ks) r = (not-among k (suc k) ks (omega arith) r.1, rises-once (suc k) ks r.1)

pub once-permuted : {l r : List ℕ} → Permᴰ l r → NoRepeat l → NoRepeat r
once-permuted Permᴰ.nil h = h
once-permuted (Permᴰ.cons {b = b} {l₂ = m} e d) h = (subst (λ x. among x m ≡ false) e (sym (among-permuted _ d) ∙ h.0), once-permuted d h.1)
once-permuted (Permᴰ.swap {a = a} {b = b} {a' = a'} {b' = b'} {l = l} e f) h =
    subst (λ z. NoRepeat (z ∷ b' ∷ l)) f (subst (λ z. NoRepeat (b ∷ z ∷ l)) e (other, (or_right (eqb a b) (among a l) h.0, h.1.1)))
  where
    other : (eqb b a || among b l) ≡ false
    other = let n = h.1.0 in rw (ne_eqb b a (λ g. eqb-false a b (or_left (eqb a b) (among a l) h.0) (sym g)), n)
once-permuted (Permᴰ.trans d e) h = once-permuted e (once-permuted d h)

once-take : (n : ℕ) (l : List ℕ) → NoRepeat l → NoRepeat (take n l)
once-take zero l h = tt
once-take (suc n) [] h = tt
once-take (suc n) (x ∷ l) h = (among-take x n l h.0, once-take n l h.1)

components-take : (n : ℕ) (l : List Term) → components (take n l) ≡ take n (components l)
components-take zero l = refl
components-take (suc n) [] = refl
components-take (suc n) (t ∷ l) = ap (λ z. t.component ∷ z) (components-take n l)

pub components-maxima : (ts : List Term) → components (maxima ts) ≡ rising (components ts)
unfolding maxima
components-maxima ts = go (rising (components ts))
  where
    go : (ks : List ℕ) → components (map (λ c. term c (maximum_of ts c)) ks) ≡ ks
    go [] = refl
    go (k ∷ ks) = ap (λ l. k ∷ l) (go ks)

-- what is kept has each component once
pub kept-once : (s : SummarizationStrategy) (ts : List Term) → NoRepeat (components (kept s (maxima ts)))
unfolding falling
kept-once s ts =
    let k = kept-first s (maxima ts) in
    let a : NoRepeat (components (maxima ts)) = subst NoRepeat (sym (components-maxima ts)) (rises-once 0 (rising (components ts)) (rising-rises (components ts))) in
    let b : NoRepeat (components (falling (maxima ts))) = once-permuted (Permᴰ.symm (map-permutes (λ t. t.component) (sort-permutes greater_first (maxima ts)))) a in
    subst (λ l. NoRepeat (components l)) (sym k.1) (subst NoRepeat (sym (components-take k.0 (falling (maxima ts)))) (once-take k.0 (components (falling (maxima ts))) b))

lower-total : (a b : Term) → lower a b ≡ false → lower b a ≡ true
lower-total a b h = le-leb b.component a.component (omega (arith, leb-false a.component b.component h))

abbrev HeadAtLeast : ℕ → List Term → Type 0
HeadAtLeast b [] = Unit {0}
HeadAtLeast b (t ∷ ts) = b ≤ t.component

strictly : (b : ℕ) (ts : List Term) → InOrder lower ts → NoRepeat (components ts) → HeadAtLeast b ts → RisesFrom b (components ts)
strictly b [] o n h = tt
strictly b (t ∷ []) o n h = (h, tt)
strictly b (t ∷ u ∷ ts) o n h = (
  h,
  strictly (suc t.component) (u ∷ ts) o.1 n.1
      (next t.component u.component (leb-true t.component u.component o.0) (eqb-false t.component u.component (or_left (eqb t.component u.component)
      (among t.component (components ts)) n.0))),
)
  where
    next : (a c : ℕ) → a ≤ c → (a ≡ c → ⊥) → suc a ≤ c
    next a c h n = go (dec_le (suc a) c)
      where
        go : Dec (suc a ≤ c) → suc a ≤ c
        go (yes k) = k
        go (no k) = absurd (n (omega arith))

-- a summary's components strictly rise
pub summary-rises : (s : SummarizationStrategy) (d : Documents) (block : List ℕ) → RisesFrom 0 (components (summary s d block))
unfolding summary
summary-rises s d block =
    let ks = kept s (block_maximum d block) in
    let e : NoRepeat (components (sorted_by lower ks)) = once-permuted (Permᴰ.symm (map-permutes (λ t. t.component) (sort-permutes lower ks))) (kept-once s (block_terms d block)) in
    strictly 0 (sorted_by lower ks) (sort-in-order lower lower-total ks) e (least (sorted_by lower ks))
  where
    least : (ts : List Term) → HeadAtLeast 0 ts
    least [] = tt
    least (t ∷ ts) = omega arith
