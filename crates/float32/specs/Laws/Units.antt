-- Laws of Units: every finite f32 is a whole number of units, and this number and its sign are known from the value.
use Rattle.std.specs.Prelude.{◌≡◌, ℕ, zero, suc, ◌-◌, ◌*◌, ◌/◌, ◌%◌, ◌^◌, ◌<◌, ◌≤◌, Bool, ◌&&◌, T, ltb, ℤ, pos, negsuc, ◌≢◌, nat_eq, nat_le, nat_lt, refl, Float}
use Rattle.std.proofs.Common.{sym, ap, ◌∙◌, lt_of_lt_of_le, lt_of_not-le, not-le_of_lt, le_of_suc-le-suc, mul_assoc, mul-one, mul-div_cancel, arith, eqb→eq, leb→le, lit<, lit≤, pow_pos, pow_mono, pow-add}
use Rattle.std.proofs.Math.Pow.{pow-lt}
use Rattle.std.specs.Float.{nan, inf, fin, binary32}
use Rattle.std.specs.Float.Ieee.{up, down, fits}
use Rattle.std.specs.Float.Ieee.Digits.{back}
use Rattle.std.specs.Float.Ieee.Fits.{down_pos, and_l, and_r}
use Rattle.std.specs.Float.Ieee.Exact.{HasValue}
use Rattle.std.specs.Float.Ieee.Scale.{finite}
use Rattle.float32.specs.Units.{one, negative, mag}

pub one-pos : 0 < one
unfolding one
one-pos = pow_pos 149

pub one-large : 8388608 ≤ one
unfolding one
one-large = lit≤ tt

-- ---- the units of a value
pub mag_of : (x : Float) (s : Bool) (a : ℕ) → HasValue x s a one → mag x ≡ a
unfolding mag
mag_of nan s a h = absurd h
mag_of (inf t) s a h = absurd h
mag_of (fin t m e) s a h = ap (λ (z : ℕ). z / down e) h.1 ∙ mul-div_cancel a (down_pos e)

pub sign_of : (x : Float) (s : Bool) (a : ℕ) → HasValue x s a one → negative x ≡ s
sign_of nan s a h = absurd h
sign_of (inf t) s a h = absurd h
sign_of (fin t m e) s a h = h.0

-- every finite f32 is a whole number of units
divides : (e : ℤ) → down e ≤ one → (q : ℕ) × (q * down e ≡ one)
unfolding one
divides (pos k) h = (2 ^ 149, mul-one (2 ^ 149))
divides (negsuc k) h =
    let k-le : suc k ≤ 149 = le_of_suc-le-suc (lt_of_not-le (λ (g : 150 ≤ suc k). not-le_of_lt (lt_of_lt_of_le (pow-lt {i = 149} {j = 150} (lit< tt)) (pow_mono g)) h)) in
    (2 ^ (149 - suc k), sym (pow-add 2 (149 - suc k) (suc k)) ∙ ap (λ (z : ℕ). 2 ^ z) (back 149 (suc k) k-le))

down_le : (s : Bool) (m : ℕ) (e : ℤ) → T (fits binary32 (fin s m e)) → down e ≤ one
unfolding fits one
down_le s zero (pos k) h = pow_mono {i = 0} {j = 149} (lit≤ tt)
down_le s zero (negsuc k) h = absurd (no (2 ^ suc k) (pow_mono {i = 1} {j = suc k} (omega arith)) (eqb→eq (1 * 2 ^ suc k) 1 h))
  where
    no : (x : ℕ) → 2 ≤ x → 1 * x ≢ 1
    no x h e = omega arith
down_le s (suc m) e h =
    let a = nat_eq (suc m % 2) 1 in
    let b = ltb (suc m) (2 ^ 24) in
    let c = nat_le (down e) (2 ^ 149) in
    leb→le (down e) (2 ^ 149) (and_r (a && b) c (and_l (a && b && c) (nat_lt (suc m * up e) (2 ^ 128 * down e)) h))

pub value_of : (x : Float) → T (fits binary32 x) → T (finite x) → HasValue x (negative x) (mag x) one
unfolding mag
value_of nan h t = absurd t
value_of (inf s) h t = absurd t
value_of (fin s m e) h t =
    let d = divides e (down_le s m e h) in
    let w : m * up e * one ≡ m * up e * d.0 * down e = ap (λ (z : ℕ). m * up e * z) (sym d.1) ∙ sym (mul_assoc (m * up e) d.0 (down e)) in
    (refl, w ∙ ap (λ (z : ℕ). z * down e) (sym (ap (λ (z : ℕ). z / down e) w ∙ mul-div_cancel (m * up e * d.0) (down_pos e))))
