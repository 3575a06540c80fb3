-- The bound by two comparisons, as a program makes them, and in units of 2 ^ -149.
use Rattle.std.specs.Prelude.{◌≡◌, ℕ, zero, suc, ◌+◌, ◌*◌, ◌^◌, ◌<◌, ◌≤◌, true, false, ◌&&◌, ◌||◌, T, leb, ◌==◌, nat_le, nat_lt, refl, Float}
use Rattle.std.proofs.Common.{sym, ap, ◌∙◌, mul-one, mul-le-mul_right, le_of_mul-le-mul_right, arith, leb→le, le→leb, lt→ltb}
use Rattle.std.proofs.Math.Bool.{and-true}
use Rattle.std.specs.Float.{nan, inf, fin, binary32}
use Rattle.std.specs.Float.Ieee.{up, down, le, neg, of_bits, fits}
use Rattle.std.specs.Float.Ieee.Fits.{down_pos, and_l, and_r}
use Rattle.std.specs.Float.Ieee.Scale.{finite}
use Rattle.sequences.specs.Laws.Lists.{eqb_swap}
use Rattle.float32.specs.Laws.Tests.{is_true, yes, same_test, or_left, and_both, le_test}
use Rattle.float32.specs.Units.{one, mag}
use Rattle.float32.specs.Laws.Units.{one-pos, value_of}
use Rattle.float32.specs.Bound.{in_bound, Bounded}

-- a negative number is at most one that is not
neg-pos : (a b : ℕ) → T (nat_lt 0 (a + b) || (a == b && a == 0))
neg-pos zero zero = tt
neg-pos zero (suc b) = or_left (nat_lt 0 (0 + suc b)) (0 == suc b && 0 == 0) (lt→ltb 0 (0 + suc b) (omega arith))
neg-pos (suc a) b = or_left (nat_lt 0 (suc a + b)) (suc a == b && suc a == 0) (lt→ltb 0 (suc a + b) (omega arith))

below-zero : (a b : ℕ) → ((nat_lt a b || (b == a && true)) && (nat_lt 0 (a + b) || (a == b && a == 0))) ≡ nat_le a b
below-zero a b =
    ap (λ z. (nat_lt a b || (z && true)) && (nat_lt 0 (a + b) || (a == b && a == 0))) (eqb_swap b a)
    ∙ ap (λ z. z && (nat_lt 0 (a + b) || (a == b && a == 0))) (le_test a b)
    ∙ ap (λ z. nat_le a b && z) (is_true (nat_lt 0 (a + b) || (a == b && a == 0)) (neg-pos a b))
    ∙ and-true (nat_le a b)

above_zero : (a b : ℕ) → ((nat_lt 0 (b + a) || (b == a && b == 0)) && (nat_lt a b || (a == b && true))) ≡ nat_le a b
above_zero a b = ap (λ z. z && (nat_lt a b || (a == b && true))) (is_true (nat_lt 0 (b + a) || (b == a && b == 0)) (neg-pos b a)) ∙ le_test a b

-- -2 ^ 32 ≤ x and x ≤ 2 ^ 32 by IEEE comparison is the bound, for whatever x is
pub in-bound-tests : (x : Float) → (le (neg (of_bits binary32 0x4f800000)) x && le x (of_bits binary32 0x4f800000)) ≡ in_bound x
unfolding in_bound le neg of_bits
in-bound-tests nan = refl
in-bound-tests (inf true) = refl
in-bound-tests (inf false) = refl
in-bound-tests (fin true m e) = below-zero (m * up e * 1) (2 ^ 32 * down e) ∙ ap (λ z. leb z (2 ^ 32 * down e)) (mul-one (m * up e))
in-bound-tests (fin false m e) = above_zero (m * up e * 1) (2 ^ 32 * down e) ∙ ap (λ z. leb z (2 ^ 32 * down e)) (mul-one (m * up e))

-- ---- in units
same-bound : (a d o x p : ℕ) → 0 < d → 0 < o → a * o ≡ x * d → nat_le a (p * d) ≡ nat_le x (o * p)
same-bound a d o x p D O e =
    same_test (nat_le a (p * d)) (nat_le x (o * p))
    (λ t. le→leb x (o * p) (le_of_mul-le-mul_right {k = d} (let w : a * o ≤ p * d * o = mul-le-mul_right o (leb→le a (p * d) t) in omega arith) D))
    (λ t. le→leb a (p * d) (le_of_mul-le-mul_right {k = o} (let w : x * d ≤ o * p * d = mul-le-mul_right d (leb→le x (o * p) t) in omega arith) O))

-- finite, and at most 2 ^ 32 in units
pub in-bound-units : (x : Float) → T (fits binary32 x) → in_bound x ≡ (finite x && nat_le (mag x) (one * 2 ^ 32))
unfolding in_bound
in-bound-units nan f = refl
in-bound-units (inf s) f = refl
in-bound-units (fin s m e) f = same-bound (m * up e) (down e) one (mag (fin s m e)) (2 ^ 32) (down_pos e) one-pos (value_of (fin s m e) f tt).1

pub in-bound-bounded : (x : Float) → T (fits binary32 x) → in_bound x ≡ true → Bounded x
in-bound-bounded x f e =
    let t : T (finite x && nat_le (mag x) (one * 2 ^ 32)) = yes (finite x && nat_le (mag x) (one * 2 ^ 32)) (sym (in-bound-units x f) ∙ e) in
    record { fit = f; fin = and_l (finite x) (nat_le (mag x) (one * 2 ^ 32)) t; small = leb→le (mag x) (one * 2 ^ 32) (and_r (finite x) (nat_le (mag x) (one * 2 ^ 32)) t) }

pub bounded-in-bound : (x : Float) → Bounded x → in_bound x ≡ true
bounded-in-bound x b =
    in-bound-units x b.fit
    ∙ is_true (finite x && nat_le (mag x) (one * 2 ^ 32)) (and_both (finite x) (nat_le (mag x) (one * 2 ^ 32)) b.fin (le→leb (mag x) (one * 2 ^ 32) b.small))
