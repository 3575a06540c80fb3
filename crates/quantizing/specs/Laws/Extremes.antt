-- Least and greatest as a pass over the values finds them, by their keys. Each is one of the values, and none is beyond it.
use Rattle.std.specs.Prelude.{◌≡◌, refl, Bool, true, false, cond, ℕ, zero, suc, ◌≤◌, ◌<◌, min, max, length, get_or, T, leb, Float}
use Rattle.std.proofs.Common.{sym, ap, ◌∙◌, subst, inl, inr, le_refl, le_trans, le_of_suc-le-suc, not-suc-le-zero, arith, leb→le, le→leb}
use mathlib.Core.List.{List, [], ◌∷◌, foldl}
use Rattle.std.proofs.Math.Dec.{nleb→lt}
use Rattle.std.specs.Float.{nan}
use Rattle.std.specs.Float.Ieee.{of_bits}
use Rattle.sequences.specs.Lists.{EachOf}
use Rattle.sequences.specs.Laws.Greatest.{first-fold}
use Rattle.float32.specs.Key.{key_of, value_of}
use Rattle.float32.specs.Laws.KeyLaws.{key_below, key-order, value-key}
use Rattle.float32.specs.Order.{at_most}
use Rattle.float32.specs.Laws.OrderLaws.{at_most-refl, at_most-trans, at_most-total}
use Rattle.float32.specs.Laws.Tests.{is_true, yes}
use Rattle.quantizing.specs.Demand3.{F32s}
use Rattle.quantizing.specs.Quantizing.{least, greatest}
use Rattle.quantizing.specs.Extremes.{F32}

-- the lowest of a key and the keys of values, and the highest
abbrev pub lowest : ℕ → List Float → ℕ
lowest k [] = k
lowest k (v ∷ values) = lowest (min k (key_of v)) values

abbrev pub highest : ℕ → List Float → ℕ
highest k [] = k
highest k (v ∷ values) = highest (max k (key_of v)) values

pub each_of : (P : Float → Type 0) (values : List Float) → ((k : ℕ) → k < length values → P (get_or values k nan)) → EachOf P values
each_of P [] h = tt
each_of P (v ∷ values) h = (h 0 (omega arith), each_of P values (λ k l. h (suc k) (omega arith)))

pub each-f32 : (values : List Float) → F32s values → EachOf F32 values
each-f32 values h = each_of F32 values (λ k l. h k)

-- ---- the total order on f32, as equations
same_true : (x : Float) → F32 x → at_most x x ≡ true
same_true x f = is_true (at_most x x) (at_most-refl x f)

other_way : (x y : Float) → F32 x → F32 y → at_most x y ≡ false → at_most y x ≡ true
other_way x y f g h = elim (at_most-total x y f g) [ inl a ↦ absurd (subst T h a) | inr b ↦ is_true (at_most y x) b ]

through : (x y z : Float) → F32 x → F32 y → F32 z → at_most x y ≡ true → at_most y z ≡ true → at_most x z ≡ true
through x y z f g h p q = is_true (at_most x z) (at_most-trans x y z f g h (yes (at_most x y) p) (yes (at_most y z) q))

-- ---- the fold of the values that the definitions come to
abbrev lower : Float → Float → Float
lower m x = cond (at_most m x) m x

abbrev higher : Float → Float → Float
higher m x = cond (at_most x m) m x

least-fold : (v : Float) (values : List Float) → F32 v → EachOf F32 values → least (v ∷ values) ≡ foldl lower v values
unfolding least
least-fold v values f fs = first-fold (λ x y. at_most y x) F32 same_true (λ x y p q h. other_way y x q p h) (λ x y z p q r h k. through z y x r q p k h) nan v values f fs

greatest-fold : (v : Float) (values : List Float) → F32 v → EachOf F32 values → greatest (v ∷ values) ≡ foldl higher v values
unfolding greatest
greatest-fold v values f fs = first-fold at_most F32 same_true other_way through nan v values f fs

-- what holds of each value holds of the least and of the greatest
module _ (P : Float → Type 0) where
  pick : {x y : Float} (b : Bool) → P x → P y → P (cond b x y)
  pick true p q = p
  pick false p q = q

  lower-has : (v : Float) (values : List Float) → P v → EachOf P values → P (foldl lower v values)
  lower-has v [] p ps = p
  lower-has v (x ∷ values) p ps = lower-has (lower v x) values (pick (at_most v x) p ps.0) ps.1

  higher-has : (v : Float) (values : List Float) → P v → EachOf P values → P (foldl higher v values)
  higher-has v [] p ps = p
  higher-has v (x ∷ values) p ps = higher-has (higher v x) values (pick (at_most x v) p ps.0) ps.1

  pub least-has : (values : List Float) → 0 < length values → EachOf F32 values → EachOf P values → P (least values)
  least-has [] l fs ps = absurd (not-suc-le-zero l)
  least-has (v ∷ values) l fs ps = subst P (sym (least-fold v values fs.0 fs.1)) (lower-has v values ps.0 ps.1)

  pub greatest-has : (values : List Float) → 0 < length values → EachOf F32 values → EachOf P values → P (greatest values)
  greatest-has [] l fs ps = absurd (not-suc-le-zero l)
  greatest-has (v ∷ values) l fs ps = subst P (sym (greatest-fold v values fs.0 fs.1)) (higher-has v values ps.0 ps.1)

-- ---- the same by keys
key-lower : (m x : Float) → F32 m → F32 x → key_of (lower m x) ≡ min (key_of m) (key_of x)
key-lower m x f g = go (at_most m x) (key-order m x f g)
  where
    go : (b : Bool) → leb (key_of m) (key_of x) ≡ b → key_of (cond b m x) ≡ min (key_of m) (key_of x)
    go true e = let h = leb→le (key_of m) (key_of x) (yes (leb (key_of m) (key_of x)) e) in omega arith
    go false e = let h = nleb→lt (key_of m) (key_of x) (rw e tt) in omega arith

key-higher : (m x : Float) → F32 m → F32 x → key_of (higher m x) ≡ max (key_of m) (key_of x)
key-higher m x f g = go (at_most x m) (key-order x m g f)
  where
    go : (b : Bool) → leb (key_of x) (key_of m) ≡ b → key_of (cond b m x) ≡ max (key_of m) (key_of x)
    go true e = let h = leb→le (key_of x) (key_of m) (yes (leb (key_of x) (key_of m)) e) in omega arith
    go false e = let h = nleb→lt (key_of x) (key_of m) (rw e tt) in omega arith

key-least : (v : Float) (values : List Float) → F32 v → EachOf F32 values → key_of (foldl lower v values) ≡ lowest (key_of v) values
key-least v [] f fs = refl
key-least v (x ∷ values) f fs = key-least (lower v x) values (pick F32 (at_most v x) f fs.0) fs.1 ∙ ap (λ k. lowest k values) (key-lower v x f fs.0)

key-greatest : (v : Float) (values : List Float) → F32 v → EachOf F32 values → key_of (foldl higher v values) ≡ highest (key_of v) values
key-greatest v [] f fs = refl
key-greatest v (x ∷ values) f fs = key-greatest (higher v x) values (pick F32 (at_most x v) f fs.0) fs.1 ∙ ap (λ k. highest k values) (key-higher v x f fs.0)

no_key : (value_of 4294967295 ≡ nan) × (value_of 0 ≡ nan)
unfolding value_of of_bits
no_key = (refl, refl)

-- the pass starts at the two ends of the keys, which are no number's
pub least-is : (values : List Float) → EachOf F32 values → value_of (lowest 4294967295 values) ≡ least values
unfolding least
least-is [] fs = no_key.0
least-is (v ∷ values) fs =
    let k : min 4294967295 (key_of v) ≡ key_of v = let w = key_below v fs.0 in omega arith in
    let f = lower-has F32 v values fs.0 fs.1 in
    ap (λ z. value_of (lowest z values)) k ∙ ap value_of (sym (key-least v values fs.0 fs.1)) ∙ value-key (foldl lower v values) f ∙ sym (least-fold v values fs.0 fs.1)

pub greatest-is : (values : List Float) → EachOf F32 values → value_of (highest 0 values) ≡ greatest values
unfolding greatest
greatest-is [] fs = no_key.1
greatest-is (v ∷ values) fs =
    let k : max 0 (key_of v) ≡ key_of v = omega arith in
    let f = higher-has F32 v values fs.0 fs.1 in
    ap (λ z. value_of (highest z values)) k ∙ ap value_of (sym (key-greatest v values fs.0 fs.1)) ∙ value-key (foldl higher v values) f ∙ sym (greatest-fold v values fs.0 fs.1)

-- ---- no value is beyond them
lowest_start : (k : ℕ) (values : List Float) → lowest k values ≤ k
lowest_start k [] = le_refl k
lowest_start k (v ∷ values) = let w = lowest_start (min k (key_of v)) values in omega arith

lowest-each : (k : ℕ) (values : List Float) (i : ℕ) → i < length values → lowest k values ≤ key_of (get_or values i nan)
lowest-each k [] i h = absurd (not-suc-le-zero h)
lowest-each k (v ∷ values) zero h = let w = lowest_start (min k (key_of v)) values in omega arith
lowest-each k (v ∷ values) (suc i) h = lowest-each (min k (key_of v)) values i (le_of_suc-le-suc h)

highest-start : (k : ℕ) (values : List Float) → k ≤ highest k values
highest-start k [] = le_refl k
highest-start k (v ∷ values) = let w = highest-start (max k (key_of v)) values in omega arith

highest-each : (k : ℕ) (values : List Float) (i : ℕ) → i < length values → key_of (get_or values i nan) ≤ highest k values
highest-each k [] i h = absurd (not-suc-le-zero h)
highest-each k (v ∷ values) zero h = let w = highest-start (max k (key_of v)) values in omega arith
highest-each k (v ∷ values) (suc i) h = highest-each (max k (key_of v)) values i (le_of_suc-le-suc h)

pub least-low : (values : List Float) → F32s values → (i : ℕ) → i < length values → T (at_most (least values) (get_or values i nan))
least-low [] fs i h = absurd (not-suc-le-zero h)
least-low (v ∷ values) fs i h =
    let es = each-f32 (v ∷ values) fs in
    let m = foldl lower v values in
    let f = lower-has F32 v values es.0 es.1 in
    let l : key_of m ≤ key_of (get_or (v ∷ values) i nan) = le_trans (subst (λ z. key_of m ≤ z) (key-least v values es.0 es.1) (le_refl (key_of m))) (at i h) in
    subst (λ z. T (at_most z (get_or (v ∷ values) i nan))) (sym (least-fold v values es.0 es.1)) (subst T (key-order m (get_or (v ∷ values) i nan) f (fs i))
    (le→leb (key_of m) (key_of (get_or (v ∷ values) i nan)) l))
  where
    at : (i : ℕ) → i < length (v ∷ values) → lowest (key_of v) values ≤ key_of (get_or (v ∷ values) i nan)
    at zero h = lowest_start (key_of v) values
    at (suc i) h = lowest-each (key_of v) values i (le_of_suc-le-suc h)

pub greatest-high : (values : List Float) → F32s values → (i : ℕ) → i < length values → T (at_most (get_or values i nan) (greatest values))
greatest-high [] fs i h = absurd (not-suc-le-zero h)
greatest-high (v ∷ values) fs i h =
    let es = each-f32 (v ∷ values) fs in
    let m = foldl higher v values in
    let f = higher-has F32 v values es.0 es.1 in
    let l : key_of (get_or (v ∷ values) i nan) ≤ key_of m = le_trans (at i h) (subst (λ z. z ≤ key_of m) (key-greatest v values es.0 es.1) (le_refl (key_of m))) in
    subst (λ z. T (at_most (get_or (v ∷ values) i nan) z)) (sym (greatest-fold v values es.0 es.1)) (subst T (key-order (get_or (v ∷ values) i nan) m (fs i) f)
    (le→leb (key_of (get_or (v ∷ values) i nan)) (key_of m) l))
  where
    at : (i : ℕ) → i < length (v ∷ values) → key_of (get_or (v ∷ values) i nan) ≤ highest (key_of v) values
    at zero h = highest-start (key_of v) values
    at (suc i) h = highest-each (key_of v) values i (le_of_suc-le-suc h)
