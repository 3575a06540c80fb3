-- Laws of Promises: what a summary is, in words: document 01, "Block maximum and summaries".
use Prim.Native.Nat.{ℕ, zero, suc, ◌+◌, ◌-◌, ◌≤◌, ◌<◌}
use native.Mathlib.Omega.{arith}
use Rattle.std.proofs.Math.Logic.{inl, inr}
use Rattle.std.specs.Prelude.{◌≡◌, Bool, not, ◌&&◌, ◌||◌, cond, take, leb, eqb}
use Rattle.std.proofs.Math.Path.{refl, sym, subst}
use Rattle.std.proofs.Common.{ap, ◌∙◌}
use Rattle.std.proofs.Math.Bool.{true, false}
use mathlib.Core.List.{List, [], ◌∷◌, ◌++◌, map, append_assoc}
use Rattle.std.proofs.Math.ListN.{length, get_or, length-map}
use Rattle.std.proofs.Math.Dec.{T}
use Rattle.std.specs.Float.Ieee.{Float, binary32, fits, mul, le}
use Rattle.std.specs.Float.{nan}
use borrow.Author.Tests.{le-leb, eq-eqb}
use Rattle.configuration.specs.declared.SummarizationStrategy.{SummarizationStrategy}
use Rattle.configuration.specs.declared.SummarizationStrategy.TheVariants.{FixedSize, EnergyPreserving}
use Rattle.sequences.specs.Lists.{EachOf, before, among, rising}
use Rattle.sequences.specs.Laws.Groups.{among-rising}
use Rattle.sequences.specs.Laws.Sorted.{each-sorted_by}
use Rattle.sequences.specs.Laws.Lists.{map_at as get_d_map, or-second}
use Rattle.sequences.specs.Laws.Each.{each_take, each_at}
use Rattle.float32.specs.Order.{at_most}
use Rattle.float32.specs.Laws.OrderLaws.{at_most-total}
use Rattle.sort.specs.Sorted.{sorted}
use Rattle.sort.specs.Laws.Keys.{sorted-keys}
use Rattle.sort.specs.Promises.{rises}
use Rattle.documents.specs.Documents.{Term, term, Documents, sum, greater_first, falling, largest}
use Rattle.documents.specs.TermKeys.{term_key}
use Rattle.documents.specs.Laws.TermKeys.{Held, term-key-order}
use Rattle.summary_maximum.specs.Changes.{components, maximum_of}
use Rattle.summary_terms.specs.Summaries.{block_terms, maxima, block_maximum, running_sums, enough, preserving, kept, lower, summary}
use Rattle.summary_terms.specs.Promises.{OfBlock}

-- ---- what is kept is the first so many, the greatest first
pub kept-first : (s : SummarizationStrategy) (ts : List Term) → (n : ℕ) × (kept s ts ≡ take n (falling ts))
unfolding largest preserving
kept-first (FixedSize n) ts = (n, refl)
kept-first (EnergyPreserving energy) ts = (enough energy (map (λ t. t.value) (falling ts)), refl)

here : (ks : List ℕ) → EachOf (λ c. among c ks ≡ true) ks
here ks = go [] ks
  where
    skip : (c : ℕ) (a b : List ℕ) → among c (a ++ (c ∷ b)) ≡ true
    skip c [] b = ap (λ t. t || among c b) (eq-eqb c c refl)
    skip c (x ∷ a) b = or-second (eqb c x) (skip c a b)

    go : (a b : List ℕ) → EachOf (λ c. among c (a ++ b) ≡ true) b
    go a [] = tt
    go a (c ∷ b) = (skip c a b, subst (λ l. EachOf (λ c. among c l ≡ true) b) (append_assoc a (c ∷ []) b) (go (a ++ (c ∷ [])) b))

maxima-of-block : (ts : List Term) → EachOf (OfBlock ts) (maxima ts)
unfolding maxima
maxima-of-block ts = all (rising (components ts)) (here (rising (components ts)))
  where
    all : (ks : List ℕ) → EachOf (λ c. among c (rising (components ts)) ≡ true) ks → EachOf (OfBlock ts) (map (λ c. term c (maximum_of ts c)) ks)
    all [] e = tt
    all (c ∷ ks) e = (record { present = sym (among-rising c (components ts)) ∙ e.0; is_maximum = refl }, all ks e.1)

pub kept-of-block : (s : SummarizationStrategy) (ts : List Term) → EachOf (OfBlock ts) (kept s (maxima ts))
unfolding falling
kept-of-block s ts =
    let k = kept-first s (maxima ts) in
    subst (EachOf (OfBlock ts)) (sym k.1) (each_take (OfBlock ts) k.0 (falling (maxima ts)) (each-sorted_by greater_first (OfBlock ts) (maxima ts) (maxima-of-block ts)))

pub summary-of-block : (s : SummarizationStrategy) (d : Documents) (block : List ℕ) → EachOf (OfBlock (block_terms d block)) (summary s d block)
unfolding summary
summary-of-block s d block = each-sorted_by lower (OfBlock (block_terms d block)) (kept s (block_maximum d block)) (kept-of-block s (block_terms d block))

-- ---- none that is kept is smaller than one left out: the values fall by total order
rises-far : (l : List ℕ) → ((k : ℕ) → suc k < length l → get_or l k 0 ≤ get_or l (suc k) 0) → (i m : ℕ) → i + m < length l → get_or l i 0 ≤ get_or l (i + m) 0
rises-far l r i zero h = rw (plus_none i) (omega arith)
  where
    plus_none : (i : ℕ) → i + 0 ≡ i
    plus_none i = omega arith
rises-far l r i (suc m) h =
    let e : i + suc m ≡ suc (i + m) = omega arith in
    let a = rises-far l r i m (omega arith) in
    let b = r (i + m) (omega arith) in
    rw e (omega arith)

module _ (ts : List Term) (E : EachOf Held ts) where
  abbrev nothing : Term
  nothing = term 0 nan

  sorted-are : sorted (map term_key ts) ≡ map term_key (falling ts)
  unfolding falling
  sorted-are = sorted-keys greater_first Held term_key term-key-order ts E

  pub greater-first : (i j : ℕ) → i ≤ j → j < length (falling ts) → greater_first (get_or (falling ts) i nothing) (get_or (falling ts) j nothing) ≡ true
  unfolding falling
  greater-first i j h l =
      let H = each-sorted_by greater_first Held ts E in
      let r : (k : ℕ) → suc k < length (map term_key (falling ts)) → get_or (map term_key (falling ts)) k 0 ≤ get_or (map term_key (falling ts)) (suc k) 0 = subst (λ l. (k : ℕ) → suc k < length l
      → get_or l k 0 ≤ get_or l (suc k) 0) sorted-are (rises (map term_key ts)) in
      let n : length (map term_key (falling ts)) ≡ length (falling ts) = length-map (falling ts) term_key in
      let e : i + (j - i) ≡ j = omega arith in
      let w = rises-far (map term_key (falling ts)) r i (j - i) (omega arith) in
      let v : get_or (map term_key (falling ts)) i 0 ≤ get_or (map term_key (falling ts)) j 0 = subst (λ k. get_or (map term_key (falling ts)) i 0 ≤ get_or (map term_key (falling ts)) k 0) e w in
      sym (term-key-order (get_or (falling ts) i nothing) (get_or (falling ts) j nothing) (each_at Held (falling ts) i nothing (omega arith) H) (each_at Held (falling ts) j nothing l H))
      ∙ le-leb (term_key (get_or (falling ts) i nothing)) (term_key (get_or (falling ts) j nothing)) (subst (λ a. a ≤ term_key (get_or (falling ts) j nothing)) (get_d_map term_key (falling ts) i nothing 0
      (omega arith)) (subst (λ b. get_or (map term_key (falling ts)) i 0 ≤ b) (get_d_map term_key (falling ts) j nothing 0 l) v))

  -- so each value is at least any that stands after it: none of a kept summary is smaller than one left out
  pub values-fall : (i j : ℕ) → i ≤ j → j < length (falling ts) → at_most (get_or (falling ts) j nothing).value (get_or (falling ts) i nothing).value ≡ true
  unfolding greater_first falling
  values-fall i j h l =
      let H = each-sorted_by greater_first Held ts E in
      let a = each_at Held (falling ts) i nothing (omega arith) H in
      let b = each_at Held (falling ts) j nothing l H in
      go (get_or (falling ts) i nothing).value (get_or (falling ts) j nothing).value (leb (get_or (falling ts) i nothing).component (get_or (falling ts) j nothing).component) a.fit b.fit
      (greater-first i j h l)
    where
      go : (x y : Float) (t : Bool) → T (fits binary32 x) → T (fits binary32 y) → (not (at_most x y) || (at_most y x && t)) ≡ true → at_most y x ≡ true
      go x y t f g e = at (at_most x y) refl (at_most y x) refl e
        where
          at : (p : Bool) → at_most x y ≡ p → (q : Bool) → at_most y x ≡ q → (not p || (q && t)) ≡ true → q ≡ true
          at p u true v e = refl
          at true u false v e = e
          at false u false v e = absurd (elim (at_most-total x y f g) [ inl w ↦ subst T u w | inr w ↦ subst T v w ])

-- ---- fixed size: the first n of the falling ones; energy: up to the first running sum at least total x energy
module _ (energy : Float) (ts : List Term) where
  abbrev pub falling_values : List Float
  falling_values = map (λ t. t.value) (falling ts)

  abbrev pub goal : Float
  goal = mul binary32 (sum falling_values) energy

  -- no running sum before the last one taken reaches the goal
  pub none-earlier : (k : ℕ) → suc k < enough energy falling_values → k < length (running_sums falling_values) → le goal (get_or (running_sums falling_values) k nan) ≡ false
  unfolding enough
  none-earlier k h l = go (λ s. le goal s) (running_sums falling_values) k (omega arith)
    where
      go : (p : Float → Bool) (l : List Float) (k : ℕ) → k < length (before p l) → p (get_or l k nan) ≡ false
      go p [] k h = let z : ⊥ = omega arith in absurd z
      go p (x ∷ l) k h = at (p x) refl k h (go p l)
        where
          at : (b : Bool) → p x ≡ b → (k : ℕ) → k < length (cond b [] (x ∷ before p l)) → ((k : ℕ) → k < length (before p l) → p (get_or l k nan) ≡ false) → p (get_or (x ∷ l) k nan) ≡ false
          at true e k h i = let z : ⊥ = omega arith in absurd z
          at false e zero h i = e
          at false e (suc k) h i = i k (omega arith)

  -- where one does, the last one taken does
  pub last-reaches : (k : ℕ) → suc k ≡ enough energy falling_values → k < length (running_sums falling_values) → le goal (get_or (running_sums falling_values) k nan) ≡ true
  unfolding enough
  last-reaches k h l = subst (λ n. le goal (get_or (running_sums falling_values) n nan) ≡ true) (same (length (before (λ s. le goal s) (running_sums falling_values))) k h)
      (go (λ s. le goal s) (running_sums falling_values) (subst (λ n. n < length (running_sums falling_values)) (sym (same (length (before (λ s. le goal s) (running_sums falling_values))) k h)) l))
    where
      same : (n k : ℕ) → suc k ≡ suc n → n ≡ k
      same n k e = omega arith

      go : (p : Float → Bool) (l : List Float) → length (before p l) < length l → p (get_or l (length (before p l)) nan) ≡ true
      go p [] h = let z : ⊥ = omega arith in absurd z
      go p (x ∷ l) h = at (p x) refl h (go p l)
        where
          at : (b : Bool) → p x ≡ b → length (cond b [] (x ∷ before p l)) < length (x ∷ l) → (length (before p l) < length l → p (get_or l (length (before p l)) nan) ≡ true)
              → p (get_or (x ∷ l) (length (cond b [] (x ∷ before p l))) nan) ≡ true
          at true e h i = e
          at false e h i = i (omega arith)
