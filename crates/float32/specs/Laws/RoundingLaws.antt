-- The two steps to a byte: rounding is exact on every value of `f32`, the cut is Rust's `as u8`, and both together as one formula.
use Rattle.std.specs.Prelude.{◌≡◌, ℕ, zero, suc, ◌+◌, ◌*◌, ◌/◌, ◌%◌, ◌^◌, ◌<◌, ◌≤◌, min, Bool, cond, ◌&&◌, T, ltb, leb, ℤ, pos, negsuc, ◌==◌, nat_eq, nat_le, nat_lt, refl, Float}
use Rattle.std.proofs.Common.{sym, ap, ◌∙◌, subst, le_trans, le_of_lt, lt_of_lt_of_le, le_antisymm, le_of_suc-le-suc, mul_assoc, mul-one, zero-mul, mul-le-mul_left, mul-pos, mul-div_cancel, mul-lt-mul_of_pos_right, le-div_iff_mul-le, div-lt_iff_lt-mul, arith, ltb→lt, lit<, lit≤, pow_pos, pow_mono, pow-add}
use Rattle.std.specs.Float.{nan, inf, fin, binary32}
use Rattle.std.specs.Float.Ieee.{up, down, round, fits, to_unsigned}
use Rattle.std.specs.Float.Ieee.Fits.{down_pos, and_l, and_r}
use Rattle.std.specs.Float.Ieee.Exact.{HasValue, round_exact}
use Rattle.std.specs.Float.Ieee.Back.{round_whole}
use Rattle.float32.specs.Rounding.{nearest_whole, round_away, cut_to_byte, byte_of}

-- ---- what `fits` says of m * 2 ^ e
pub few-digits : (s : Bool) (m : ℕ) (e : ℤ) → T (fits binary32 (fin s m e)) → m < 2 ^ 24
unfolding fits
few-digits s zero e f = lit< tt
few-digits s (suc m) e f =
    let a = nat_eq (suc m % 2) 1 in
    let b = ltb (suc m) (2 ^ 24) in
    let c = leb (down e) (2 ^ 149) in
    ltb→lt (suc m) (2 ^ 24) (and_r a b (and_l (a && b) c (and_l (a && b && c) (nat_lt (suc m * up e) (2 ^ 128 * down e)) f)))

pub under-infinity : (s : Bool) (m : ℕ) (e : ℤ) → T (fits binary32 (fin s m e)) → m * up e < 2 ^ 128 * down e
unfolding fits
under-infinity s zero e f = subst (λ (z : ℕ). z < 2 ^ 128 * down e) (sym (zero-mul (up e))) (mul-pos (lit< tt) (down_pos e))
under-infinity s (suc m) e f = ltb→lt (suc m * up e) (2 ^ 128 * down e) (and_r (suc m % 2 == 1 && nat_lt (suc m) (2 ^ 24) && nat_le (down e) (2 ^ 149)) (nat_lt (suc m * up e) (2 ^ 128 * down e)) f)

-- ---- the nearest whole number is a value of `f32`
pub div_is : (a b q : ℕ) → 0 < b → q * b ≤ a → a < suc q * b → a / b ≡ q
div_is a b q B lo hi = le_antisymm (le_of_suc-le-suc ((div-lt_iff_lt-mul B).1 hi)) ((le-div_iff_mul-le B).1 lo)

whole-already : (n : ℕ) → (2 * n + 1) / (2 * 1) ≡ n
whole-already n = div_is (2 * n + 1) (2 * 1) n (lit< tt) (omega arith) (omega arith)

no-larger : (m d : ℕ) → 1 < d → (2 * (m * 1) + d) / (2 * d) ≤ m
no-larger m d D = le_of_suc-le-suc ((div-lt_iff_lt-mul (omega arith)).1 (let w : m * 1 ≤ m * d = mul-le-mul_left m (le_of_lt D) in omega arith))

pub round-away-exact : (s : Bool) (m : ℕ) (e : ℤ) → T (fits binary32 (fin s m e)) → HasValue (round_away (fin s m e)) s (nearest_whole m e) 1
unfolding round_away
round-away-exact s m (pos k) f =
    subst (λ (n : ℕ). HasValue (round binary32 s n 1) s n 1) (sym (whole-already (m * 2 ^ k)))
    (round_exact binary32 s (m * 2 ^ k) 1 m (k + 149) (lit< tt) (few-digits s m (pos k) f) room (sym (mul-one (m * 2 ^ (k + 149)) ∙ tail)))
  where
    tail : m * 2 ^ (k + 149) ≡ m * 2 ^ k * 2 ^ 149
    tail = ap (λ (z : ℕ). m * z) (pow-add 2 k 149) ∙ sym (mul_assoc m (2 ^ k) (2 ^ 149))

    room : m * 2 ^ (k + 149) < 2 ^ 277
    room = subst (λ (z : ℕ). z < 2 ^ 277) (sym tail) (lt_of_lt_of_le (mul-lt-mul_of_pos_right (under-infinity s m (pos k) f) (pow_pos 149)) (lit≤ tt))
round-away-exact s m (negsuc k) f = round_whole binary32 s (nearest_whole m (negsuc k)) (le_trans (no-larger m (2 ^ suc k) (two k)) (le_of_lt (few-digits s m (negsuc k) f)))
  where
    two : (k : ℕ) → 1 < 2 ^ suc k
    two k = pow_mono {i = 1} {j = suc k} (omega arith)

-- ---- the cut of a value that is a whole number
pub cut_of : (x : Float) (s : Bool) (n : ℕ) → HasValue x s n 1 → cut_to_byte x ≡ cond s 0 (min n 255)
unfolding cut_to_byte
cut_of nan s n h = absurd h
cut_of (inf t) s n h = absurd h
cut_of (fin t m e) s n h =
    ap (λ (z : Bool). cond z 0 (min (m * up e / down e) 255)) h.0
    ∙ ap (λ (z : ℕ). cond s 0 (min z 255)) (ap (λ (z : ℕ). z / down e) (sym (mul-one (m * up e)) ∙ h.1) ∙ mul-div_cancel n (down_pos e))

pub cut-is-as : (x : Float) → cut_to_byte x ≡ to_unsigned 8 x
unfolding cut_to_byte to_unsigned
cut-is-as nan = refl
cut-is-as (inf s) = refl
cut-is-as (fin s m e) = refl

-- ---- both steps
unfoldable pub nearest_byte : Float → ℕ
nearest_byte nan = 0
nearest_byte (inf s) = cond s 0 255
nearest_byte (fin s m e) = cond s 0 (min (nearest_whole m e) 255)

pub byte-is : (q : Float) → T (fits binary32 q) → byte_of q ≡ nearest_byte q
unfolding byte_of nearest_byte
byte-is nan f = refl
byte-is (inf s) f = refl
byte-is (fin s m e) f = cut_of (round_away (fin s m e)) s (nearest_whole m e) (round-away-exact s m e f)
