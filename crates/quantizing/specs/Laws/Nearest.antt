-- A quotient in units of 2 ^ -149: when it is large, and the byte that it rounds to.
use Rattle.std.specs.Prelude.{◌≡◌, refl, ℕ, ◌+◌, ◌*◌, ◌/◌, ◌%◌, ◌^◌, ◌≤◌, ◌<◌, min, Bool, true, false, ℤ, T, eqb, Float}
use Rattle.std.proofs.Common.{sym, ap, ◌∙◌, subst, le_of_mul-le-mul_right, mul-pos, div-add-mod', mod-lt, div-lt_iff_lt-mul, zero-mul, arith, true≢false, lit<, pow_pos}
use Rattle.std.specs.Float.{nan, inf, fin, binary32}
use Rattle.std.specs.Float.Ieee.{up, down, le, eq, fits}
use Rattle.std.specs.Float.Ieee.Fits.{down_pos, eq→eqb}
use Rattle.std.specs.Float.Ieee.Exact.{HasValue}
use Rattle.std.specs.Float.Ieee.Nearest.{div_same}
use Rattle.std.specs.Float.Ieee.Positive.{above_of_le, values_of_le}
use Rattle.float32.specs.Laws.Tests.{and_both}
use Rattle.float32.specs.Units.{one}
use Rattle.float32.specs.Laws.Units.{one-pos}
use Rattle.float32.specs.Rounding.{byte_of, round_away, nearest_whole}
use Rattle.float32.specs.Laws.RoundingLaws.{nearest_byte, byte-is, round-away-exact}
use Rattle.quantizing.specs.Demand3.{least_step}

-- 2 ^ -126 is 8388608 units: what is at least that is above zero
pub large : (x : Float) (s : Bool) (a : ℕ) → HasValue x s a one → T (le least_step x) → (s ≡ false) × (8388608 ≤ a)
unfolding one
large nan s a h t = absurd h
large (inf v) s a h t = absurd h
large (fin true m e) s a h t = absurd (above_of_le least_step (fin true m e) tt t)
large (fin false m e) s a h t = (
  sym h.0,
  le_of_mul-le-mul_right {k = 2 ^ 126} (values_of_le least_step (fin false m e) 1 (2 ^ 126) a (2 ^ 149) tt (above_of_le least_step (fin false m e) tt t) (refl, refl) (refl, h.1) t)
      (pow_pos 126),
)

-- ---- the nearest whole number c to q units, a tie going up
abbrev pub Half : ℕ → ℕ → Type 0
Half q c = (2 * (c * one) ≤ 2 * q + one) × (2 * q ≤ 2 * (c * one) + one)

abbrev pub nearest_to : ℕ → ℕ
nearest_to q = (2 * q + one) / (2 * one)

pub half_of : (q : ℕ) → Half q (nearest_to q)
half_of q = go one (nearest_to q) ((2 * q + one) % (2 * one)) (div-add-mod' (2 * q + one) (2 * one)) (mod-lt (2 * q + one) (mul-pos (lit< tt) one-pos))
  where
    go : (o c r : ℕ) → c * (2 * o) + r ≡ 2 * q + o → r < 2 * o → (2 * (c * o) ≤ 2 * q + o) × (2 * q ≤ 2 * (c * o) + o)
    go o c r e l = omega arith

-- a number's nearest whole number does not turn on how it is written
pub whole_of : (m : ℕ) (e : ℤ) (q : ℕ) → m * up e * one ≡ q * down e → nearest_whole m e ≡ nearest_to q
whole_of m e q h = div_same (2 * (m * up e) + down e) (2 * down e) (2 * q + one) (2 * one) (mul-pos (lit< tt) (down_pos e)) (mul-pos (lit< tt) one-pos) (cross (m * up e) (down e) one h)
  where
    cross : (M d o : ℕ) → M * o ≡ q * d → (2 * M + d) * (2 * o) ≡ (2 * q + o) * (2 * d)
    cross M d o h = omega arith

-- the byte of a quotient of q units that is not below zero
pub byte-of : (x : Float) (s : Bool) (q : ℕ) → T (fits binary32 x) → HasValue x s q one → (T s → q ≡ 0) → byte_of x ≡ min (nearest_to q) 255
unfolding nearest_byte
byte-of nan s q f h z = absurd h
byte-of (inf v) s q f h z = absurd h
byte-of (fin true m e) s q f h z = byte-is (fin true m e) f ∙ sym (ap (λ (k : ℕ). min (nearest_to k) 255) (z (subst T h.0 tt)) ∙ half one one-pos)
  where
    half : (o : ℕ) → 0 < o → min ((2 * 0 + o) / (2 * o)) 255 ≡ 0
    half o p = let w : (2 * 0 + o) / (2 * o) < 1 = (div-lt_iff_lt-mul (mul-pos (lit< tt) p)).1 (omega arith) in omega arith
byte-of (fin false m e) s q f h z = byte-is (fin false m e) f ∙ ap (λ (k : ℕ). min k 255) (whole_of m e q h.1)

-- before the cut it is the whole number nearest to q units
pub whole-value : (x : Float) (s : Bool) (q : ℕ) → T (fits binary32 x) → HasValue x s q one → HasValue (round_away x) s (nearest_to q) 1
whole-value nan s q f h = absurd h
whole-value (inf v) s q f h = absurd h
whole-value (fin v m e) s q f h =
    subst (λ (b : Bool). HasValue (round_away (fin v m e)) b (nearest_to q) 1) h.0
    (subst (λ (n : ℕ). HasValue (round_away (fin v m e)) v n 1) (whole_of m e q h.1) (round-away-exact v m e f))

-- two ways to write one number, of which the first may be -0, are numerically equal
pub equal-values : (x y : Float) (s : Bool) (n : ℕ) → HasValue x s n 1 → HasValue y false n 1 → (T s → n ≡ 0) → T (eq x y)
unfolding eq
equal-values nan y s n p q z = absurd p
equal-values (inf v) y s n p q z = absurd p
equal-values (fin v m e) nan s n p q z = absurd q
equal-values (fin v m e) (inf w) s n p q z = absurd q
equal-values (fin v m e) (fin true k d) s n p q z = absurd (true≢false q.0)
equal-values (fin false m e) (fin false k d) s n p q z = and_both (eqb (m * up e * down d) (k * up d * down e)) true (eq→eqb (cross (m * up e) (k * up d) (down e) (down d) p.1 q.1)) tt
  where
    cross : (M K de dd : ℕ) → M * 1 ≡ n * de → K * 1 ≡ n * dd → M * dd ≡ K * de
    cross M K de dd a b =
        let u : M * 1 * dd ≡ n * de * dd = ap (λ (x : ℕ). x * dd) a in
        let w : K * 1 * de ≡ n * dd * de = ap (λ (x : ℕ). x * de) b in
        omega arith
equal-values (fin true m e) (fin false k d) s n p q z =
    let n0 = z (subst T p.0 tt) in
    let a = none (m * up e) (down e) (down d) n0 p.1 in
    let b = none (k * up d) (down d) (down e) n0 q.1 in
    and_both (eqb (m * up e * down d) (k * up d * down e)) (eqb (m * up e * down d) 0) (eq→eqb (a ∙ sym b)) (eq→eqb a)
  where
    none : (M de dd : ℕ) → n ≡ 0 → M * 1 ≡ n * de → M * dd ≡ 0
    none M de dd h a =
        let u : n * de ≡ 0 * de = ap (λ (x : ℕ). x * de) h in
        let w : M ≡ 0 = omega arith in
        ap (λ (x : ℕ). x * dd) w ∙ zero-mul dd
