-- The step between two values in bound, the first at most the second: at most 2 ^ 27 and not below zero, so a list may store it.
use Rattle.std.specs.Prelude.{◌≡◌, ℕ, ◌+◌, ◌-◌, ◌*◌, ◌^◌, ◌≤◌, Bool, true, false, ◌&&◌, ◌||◌, pos, T, ltb, eqb, Float}
use Rattle.std.proofs.Common.{sym, ap, ◌∙◌, subst, le_refl, le_trans, le_of_eq, eq-zero-or-pos, mul-one, zero-mul, arith, inl, inr, lt→ltb, lit<, lit≤}
use Rattle.std.proofs.Math.Nat.{eq_of_mul-eq-mul_right}
use Rattle.std.specs.Float.{nan, inf, fin, binary32}
use Rattle.std.specs.Float.Ieee.{up, down, sub, of_int, unlike, le}
use Rattle.std.specs.Float.Ieee.Exact.{HasValue}
use Rattle.std.specs.Float.Ieee.Fits.{div-fits, eq→eqb}
use Rattle.std.specs.Float.Ieee.Scale.{finite}
use Rattle.float32.specs.Bound.{Bounded}
use Rattle.float32.specs.Laws.BoundLaws.{bounded-in-bound}
use Rattle.float32.specs.Laws.Operations.{div-by, int-value}
use Rattle.float32.specs.Laws.Quotients.{quot, quot_le, quot-zero, pow_room}
use Rattle.float32.specs.Laws.RoundedUnits.{round-value}
use Rattle.float32.specs.Laws.Tests.{is_true, or_left, or_right, and_both}
use Rattle.float32.specs.Laws.UnitSums.{Diff, sub-units}
use Rattle.float32.specs.Units.{one, negative, mag, over, under, above, below, Ordered}
use Rattle.float32.specs.Laws.Units.{one-pos, mag_of}
use Rattle.quantizing.specs.Laws.Chain.{diff-size, sub-le}
use Rattle.quantizing.specs.Quantizing.{step_of, step_allowed}

over-le : (s : Bool) (n : ℕ) → over s n ≤ n
over-le true n = omega arith
over-le false n = le_refl n

under-le : (s : Bool) (n : ℕ) → under s n ≤ n
under-le true n = le_refl n
under-le false n = omega arith

-- y - x, in units
abbrev pub gap : Float → Float → ℕ
gap x y = (above y + below x) - (above x + below y)

to-power : (x : ℕ) → x ≤ one * 2 ^ 34 → x * 1 ≤ 2 ^ 176 * 255
unfolding one
to-power x h = le_trans (le_of_eq (mul-one x)) (le_trans h (lit≤ tt))

bound_32 : 2 ^ 176 ≤ one * 2 ^ 32
unfolding one
bound_32 = lit≤ tt

-- a sign that is set only at zero
pub sign-back : (b : Bool) → T (unlike b false) → T b
sign-back true t = tt
sign-back false t = t

-- the difference d, rounded, and the step, in units: the rounded quotient of d by 255
pub record Step (l g : Float) : Type 0 where
  pub difference : Diff (gap l g) (sub binary32 g l)
  pub narrow : difference.size ≤ one * 2 ^ 34
  pub value : HasValue (step_of l g) (unlike difference.sign false) (quot difference.size 1 255) one

pub step-of-bounded : (l g : Float) → Bounded l → Bounded g → Ordered l g → Step l g
step-of-bounded l g L G o =
    let d = sub-units g l G L o in
    let n : d.size ≤ one * 2 ^ 34 =
    diff-size d.size (gap l g) (above g) (below l) one d.near (sub-le (above g + below l) (above l + below g)) (le_trans (over-le (negative g) (mag g)) G.small)
    (le_trans (under-le (negative l) (mag l)) L.small) in
    record {
      difference = d;
      narrow = n;
      value =
          subst (λ (z : Float). HasValue z (unlike d.sign false) (quot d.size 1 255) one)
          (sym (div-by binary32 (sub binary32 g l) (of_int binary32 (pos 255)) d.sign false d.size one 255 1 one-pos (lit< tt) (lit< tt) d.value (int-value 255 (lit≤ tt))))
          (round-value (unlike d.sign false) (d.size * 1) (255 * one) (pow_room (quot d.size 1 255) 176 (quot_le d.size 1 255 176 (lit< tt) (to-power d.size n)) (lit< tt)));
    }

pub finite-of : (x : Float) (s : Bool) (a : ℕ) → HasValue x s a one → T (finite x)
finite-of nan s a h = absurd h
finite-of (inf t) s a h = absurd h
finite-of (fin t m e) s a h = tt

pub step-bounded : (l g : Float) → Step l g → Bounded (step_of l g)
step-bounded l g s =
    let d = s.difference.size in
    record {
      fit = div-fits binary32 (sub binary32 g l) (of_int binary32 (pos 255));
      fin = finite-of (step_of l g) (unlike s.difference.sign false) (quot d 1 255) s.value;
      small = le_trans (le_of_eq (mag_of (step_of l g) (unlike s.difference.sign false) (quot d 1 255) s.value)) (le_trans (quot_le d 1 255 176 (lit< tt) (to-power d s.narrow)) bound_32);
    }

-- ---- +0 ≤ x, for an x that is negative only at zero
pub not-below : (x : Float) (s : Bool) (a : ℕ) → HasValue x s a one → (T s → a ≡ 0) → T (le (fin false 0 (pos 0)) x)
unfolding le
not-below nan s a h z = absurd h
not-below (inf t) s a h z = absurd h
not-below (fin false m e) s a h z = go (0 * 2 ^ 0 * down e) (m * up e * 1) (zero-mul (down e))
  where
    go : (x y : ℕ) → x ≡ 0 → T (ltb x y || (eqb x y && true))
    go x y e = elim (eq-zero-or-pos y) [
      | inl z ↦ or_right (ltb x y) (eqb x y && true) (and_both (eqb x y) true (eq→eqb (e ∙ sym z)) tt)
      | inr p ↦ or_left (ltb x y) (eqb x y && true) (lt→ltb x y (omega arith))
    ]
not-below (fin true m e) s a h z = go (0 * 2 ^ 0 * down e) (m * up e * 1) (zero-mul (down e)) (mul-one (m * up e) ∙ nothing)
  where
    nothing : m * up e ≡ 0
    nothing = eq_of_mul-eq-mul_right one one-pos (m * up e) 0 (h.1 ∙ ap (λ (n : ℕ). n * down e) (z (subst T h.0 tt)) ∙ zero-mul (down e) ∙ sym (zero-mul one))

    go : (x y : ℕ) → x ≡ 0 → y ≡ 0 → T (eqb x y && eqb x 0)
    go x y p q = and_both (eqb x y) (eqb x 0) (eq→eqb (p ∙ sym q)) (eq→eqb p)

pub step-stored : (l g : Float) → Step l g → step_allowed (step_of l g) ≡ true
unfolding step_allowed
step-stored l g s =
    let d = s.difference in
    let b = bounded-in-bound (step_of l g) (step-bounded l g s) in
    let n = not-below (step_of l g) (unlike d.sign false) (quot d.size 1 255) s.value (λ t. quot-zero d.size 1 255 (lit< tt) (d.zero_if (sign-back d.sign t))) in
    rw b (is_true (le (fin false 0 (pos 0)) (step_of l g)) n)
