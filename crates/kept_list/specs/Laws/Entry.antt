-- Laws of Entry: the order of kept entries in the document's words; it is a strict weak order, and entries of which neither is better are
-- the same.
use Rattle.std.specs.Prelude.{ℕ, ◌≤◌, ◌<◌, ◌≡◌, ◌⊎◌, Bool, true, false, not, ◌&&◌, ◌||◌, T, leb, ltb, eqb}
use Rattle.std.proofs.Common.{arith, sym, ap, ◌∙◌, inl, inr, ltb-true, ltb-false, eqb-true, lt-ltb, le-ltb, eq-eqb, ne_eqb, leb-true, leb-false}
use Rattle.std.proofs.lemmas.Bool.{eqb-false, not-true}
use Rattle.std.specs.Float.{binary32}
use Rattle.std.specs.Float.Ieee.{fits, lt, eq}
use Rattle.sequences.specs.Laws.Lists.{both, decide}
use Rattle.float32.specs.Order.{at_most}
use Rattle.float32.specs.Key.{key_of}
use Rattle.float32.specs.Laws.KeyLaws.{key-order, key-inj}
use Rattle.float32.specs.Laws.Tests.{yes}
use Rattle.float32.specs.Laws.Comparisons.{lt-by-order, lt-numbers}
use Rattle.kept_list.specs.declared.Scored.{Scored}
use Rattle.kept_list.specs.Order.{Order}
use Rattle.kept_list.specs.Keep.{level}
use Rattle.kept_list.specs.Entry.{scored, precedes, better, same_score}

pub better-is : (e f : Scored) → T (fits binary32 e.score) → T (fits binary32 f.score)
    → better e f ≡ (not (at_most e.score f.score) || (same_score e.score f.score && ltb e.packed f.packed))
unfolding better
better-is e f p q =
    go (key_of e.score) (key_of f.score) (at_most e.score f.score) (at_most f.score e.score) (key-order e.score f.score p q) (key-order f.score e.score q p)
  where
    go : (a b : ℕ) (s t : Bool) → leb a b ≡ s → leb b a ≡ t → (ltb b a || (eqb a b && ltb e.packed f.packed)) ≡ (not s || ((s && t) && ltb e.packed f.packed))
    go a b true true h k = let x : ltb b a ≡ false = le-ltb b a (leb-true a b h) in let y : eqb a b ≡ true = eq-eqb a b (omega (arith, leb-true a b h, leb-true b a k)) in rw (x, y)
    go a b true false h k = let x : ltb b a ≡ false = le-ltb b a (leb-true a b h) in let y : eqb a b ≡ false = ne_eqb a b (λ e. omega (arith, leb-false b a k)) in rw (x, y)
    go a b false t h k = let x : ltb b a ≡ true = lt-ltb b a (leb-false a b h) in rw x

-- a greater score is better
pub better-of-lt : (e w : Scored) → T (fits binary32 e.score) → T (fits binary32 w.score) → lt w.score e.score ≡ true → better e w ≡ true
better-of-lt e w f g h =
    let n = lt-numbers w.score e.score (yes (lt w.score e.score) h) in
    let p = both (not (at_most e.score w.score)) (not (eq w.score e.score)) (sym (lt-by-order w.score e.score g f n.0 n.1) ∙ h) in
    better-is e w f g ∙ rw (not-true (at_most e.score w.score) p.0)

-- ---- it is a strict weak order
yes-is : (a p b q : ℕ) → precedes a p b q ≡ true → (b < a) ⊎ ((a ≡ b) × (p < q))
yes-is a p b q h = elim (decide (ltb b a)) [
  | inl y ↦ inl (ltb-true b a y)
  | inr n ↦ let s = both (eqb a b) (ltb p q) (rw n at h) in inr (eqb-true a b s.0, ltb-true p q s.1)
]

no-is : (a p b q : ℕ) → precedes a p b q ≡ false → (a < b) ⊎ ((a ≡ b) × (q ≤ p))
no-is a p b q h = elim (decide (ltb b a)) [
  | inl y ↦ absurd (let z : true ≡ false = cc in no z)
  | inr n ↦ elim (decide (eqb a b)) [
    | inl e ↦ inr (eqb-true a b e, ltb-false p q (rw (n, e) at h))
    | inr e ↦ inl (less (ltb-false b a n) (eqb-false a b e))
  ]
]
  where
    no : true ≡ false → ⊥
    no z = let w : ◌≡◌ {A = ℕ} 0 1 = cc in omega arith

    less : a ≤ b → (a ≡ b → ⊥) → a < b
    less h k = omega arith

no-by : (a p b q : ℕ) → ((a < b) ⊎ ((a ≡ b) × (q ≤ p))) → precedes a p b q ≡ false
no-by a p b q (inl h) = let x : ltb b a ≡ false = le-ltb b a (omega arith) in let y : eqb a b ≡ false = ne_eqb a b (λ e. omega arith) in rw (x, y)
no-by a p b q (inr h) = let x : ltb b a ≡ false = le-ltb b a (omega arith) in let y : eqb a b ≡ true = eq-eqb a b h.0 in let z : ltb p q ≡ false = le-ltb p q h.1 in rw (x, y, z)

asym-at : (a p b q : ℕ) → precedes a p b q ≡ true → precedes b q a p ≡ false
asym-at a p b q h = no-by b q a p (go (yes-is a p b q h))
  where
    go : ((b < a) ⊎ ((a ≡ b) × (p < q))) → (b < a) ⊎ ((b ≡ a) × (p ≤ q))
    go (inl h) = inl h
    go (inr h) = inr (omega arith)

between-at : (a p b q c r : ℕ) → precedes a p b q ≡ false → precedes b q c r ≡ false → precedes a p c r ≡ false
between-at a p b q c r h k = no-by a p c r (go (no-is a p b q h) (no-is b q c r k))
  where
    go : ((a < b) ⊎ ((a ≡ b) × (q ≤ p))) → ((b < c) ⊎ ((b ≡ c) × (r ≤ q))) → (a < c) ⊎ ((a ≡ c) × (r ≤ p))
    go (inl h) (inl k) = inl (omega arith)
    go (inl h) (inr k) = inl (omega arith)
    go (inr h) (inl k) = inl (omega arith)
    go (inr h) (inr k) = inr (omega arith)

pub better-order : Order better
unfolding better
better-order = record {
  asym = λ e f h. asym-at (key_of e.score) e.packed (key_of f.score) f.packed h;
  between = λ e f g h k. between-at (key_of e.score) e.packed (key_of f.score) f.packed (key_of g.score) g.packed h k;
}

-- ---- entries of which neither is better are the same
level-at : (a p b q : ℕ) → precedes a p b q ≡ false → precedes b q a p ≡ false → (a ≡ b) × (p ≡ q)
level-at a p b q h k = go (no-is a p b q h) (no-is b q a p k)
  where
    go : ((a < b) ⊎ ((a ≡ b) × (q ≤ p))) → ((b < a) ⊎ ((b ≡ a) × (p ≤ q))) → (a ≡ b) × (p ≡ q)
    go (inl h) (inl k) = omega arith
    go (inl h) (inr k) = omega arith
    go (inr h) (inl k) = omega arith
    go (inr h) (inr k) = omega arith

pub level-same : (e f : Scored) → T (fits binary32 e.score) → T (fits binary32 f.score) → level better e f ≡ true → e ≡ f
unfolding better
level-same e f p q h =
    let s = both (not (better e f)) (not (better f e)) h in
    let r = level-at (key_of e.score) e.packed (key_of f.score) f.packed (not-true (better e f) s.0) (not-true (better f e) s.1) in
    ap (λ n. scored n e.score) r.1 ∙ ap (scored f.packed) (key-inj e.score f.score p q r.0)
