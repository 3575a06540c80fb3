-- Laws of Counts: different numbers below n are at most n, and 1 written at bytes that were 0 counts up by as many.
use Rattle.std.specs.Prelude.{ℕ, zero, suc, ◌+◌, ◌-◌, ◌≤◌, ◌<◌, ◌≡◌, refl, Bool, true, false, not, cond, List, [], ◌∷◌, length, get_or, set, eqb}
use Rattle.std.proofs.Common.{arith, sym, ap, ◌∙◌, true≢false, length-set, get_or-set_other, eqb-true, eq-eqb}
use Rattle.std.proofs.lemmas.Bool.{eqb-false, not-true}
use Rattle.sequences.specs.Lists.{EachOf, among, from, those}
use Rattle.sequences.specs.Laws.Lists.{both, neither, eqb_swap, or-second}
use Rattle.search.specs.Trace.{distinct, marked}
use Rattle.search_promises.specs.Counts.{visited_in}

pub from-below : (a m n : ℕ) → m ≤ n - a → EachOf (λ i. i < n) (from a m)
from-below a zero n h = tt
from-below a (suc m) n h = (omega arith, from-below (suc a) m n (omega arith))

-- ---- different numbers
abbrev without : ℕ → List ℕ → List ℕ
without n ns = those (λ x. not (eqb x n)) ns

without_all : (n : ℕ) (ns : List ℕ) → among n ns ≡ false → without n ns ≡ ns
without_all n [] h = refl
without_all n (x ∷ xs) h =
    let s = neither (eqb n x) (among n xs) h in
    let i = without_all n xs s.1 in
    let e : eqb x n ≡ false = eqb_swap x n ∙ s.0 in
    rw (e, i)

one_less : (n : ℕ) (ns : List ℕ) → distinct ns ≡ true → length ns ≤ suc (length (without n ns))
one_less n [] d = omega arith
one_less n (x ∷ xs) d = go (one_less n xs parts.1) (eqb x n) refl
  where
    parts : (not (among x xs) ≡ true) × (distinct xs ≡ true)
    parts = both (not (among x xs)) (distinct xs) d

    go : length xs ≤ suc (length (without n xs)) → (a : Bool) → eqb x n ≡ a → suc (length xs) ≤ suc (length (cond (not a) (x ∷ without n xs) (without n xs)))
    go i true e =
        let h : among n xs ≡ false = ap (λ m. among m xs) (sym (eqb-true x n e)) ∙ not-true (among x xs) parts.0 in
        let g = ap length (without_all n xs h) in omega arith
    go i false e = omega arith

among-without : (x n : ℕ) (ns : List ℕ) → among x ns ≡ false → among x (without n ns) ≡ false
among-without x n [] h = refl
among-without x n (y ∷ ys) h = let s = neither (eqb x y) (among x ys) h in go s.0 (among-without x n ys s.1) (eqb y n)
  where
    go : eqb x y ≡ false → among x (without n ys) ≡ false → (a : Bool) → among x (cond (not a) (y ∷ without n ys) (without n ys)) ≡ false
    go e i true = i
    go e i false = rw e i

distinct_without : (n : ℕ) (ns : List ℕ) → distinct ns ≡ true → distinct (without n ns) ≡ true
distinct_without n [] d = refl
distinct_without n (x ∷ xs) d =
    let s = both (not (among x xs)) (distinct xs) d in
    go (among-without x n xs (not-true (among x xs) s.0)) (distinct_without n xs s.1) (eqb x n)
  where
    go : among x (without n xs) ≡ false → distinct (without n xs) ≡ true → (a : Bool) → distinct (cond (not a) (x ∷ without n xs) (without n xs)) ≡ true
    go e i true = i
    go e i false = rw e i

below-without : (n : ℕ) (ns : List ℕ) → EachOf (λ i. i < suc n) ns → EachOf (λ i. i < n) (without n ns)
below-without n [] h = tt
below-without n (x ∷ xs) h = go (below-without n xs h.1) (eqb x n) refl
  where
    less : (x ≡ n → ⊥) → x < suc n → x < n
    less k l = omega arith

    go : EachOf (λ i. i < n) (without n xs) → (a : Bool) → eqb x n ≡ a → EachOf (λ i. i < n) (cond (not a) (x ∷ without n xs) (without n xs))
    go f true e = f
    go f false e = (less (eqb-false x n e) h.0, f)

pub distinct-few : (n : ℕ) (ns : List ℕ) → distinct ns ≡ true → EachOf (λ i. i < n) ns → length ns ≤ n
distinct-few zero [] d h = omega arith
distinct-few zero (x ∷ xs) d h = let z = h.0 in absurd (omega arith)
distinct-few (suc n) ns d h =
    let a = one_less n ns d in
    let b = distinct-few n (without n ns) (distinct_without n ns d) (below-without n ns h) in
    omega arith

set-count : (v : List ℕ) (n : ℕ) → n < length v → get_or v n 0 ≡ 0 → visited_in (set v n 1) ≡ suc (visited_in v)
set-count [] n h z = absurd (omega arith)
set-count (x ∷ v) zero h z = let e : ◌≡◌ {A = ℕ} (cond (eqb x 0) 0 1) 0 = ap (λ b. cond b 0 1) (eq-eqb x 0 z) in omega arith
set-count (x ∷ v) (suc n) h z = let i = set-count v n (omega arith) z in omega arith

pub marked-count : (v ns : List ℕ) → distinct ns ≡ true → ((n : ℕ) → among n ns ≡ true → (n < length v) × (get_or v n 0 ≡ 0)) → visited_in (marked v ns) ≡ visited_in v + length ns
marked-count v [] d h = omega arith
marked-count v (n ∷ ns) d h =
    let s = both (not (among n ns)) (distinct ns) d in
    let e = not-true (among n ns) s.0 in
    let i = marked-count (set v n 1) ns s.1 (λ m a. rest m a (h m (or-second (eqb m n) a)) (λ q. true≢false (sym a ∙ ap (λ x. among x ns) q ∙ e))) in
    let c = set-count v n here.0 here.1 in
    omega arith
  where
    here : (n < length v) × (get_or v n 0 ≡ 0)
    here = h n (let e : eqb n n ≡ true = eq-eqb n n refl in rw e)

    rest : (m : ℕ) → among m ns ≡ true → (m < length v) × (get_or v m 0 ≡ 0) → (m ≡ n → ⊥) → (m < length (set v n 1)) × (get_or (set v n 1) m 0 ≡ 0)
    rest m a w q = (rw (length-set v n 1) w.0, get_or-set_other v n m 1 0 q ∙ w.1)
