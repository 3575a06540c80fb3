-- `round` in units of 2 ^ -149: never past a representable bound, and off by a part in 2 ^ 24 of the result at most.
use Rattle.std.specs.Prelude.{◌≡◌, ℕ, ◌+◌, ◌-◌, ◌*◌, ◌/◌, ◌^◌, ◌<◌, ◌≤◌, max, Bool, refl, Float}
use Rattle.std.proofs.Common.{sym, ap, ◌∙◌, subst, inl, inr, zero-le, le_trans, le_of_eq, le_of_lt, lt_of_le_of_lt, eq-or-lt_of_le, mul-le-mul_right, mul-le-mul_left, le_of_mul-le-mul_right, mul_assoc, mul-pos, div-mul-le_self, arith, lit<, lit≤, pow_pos, pow_mono, pow-add, shl_lt}
use Rattle.std.specs.Float.{binary32}
use Rattle.std.specs.Float.Ieee.{round, size}
use Rattle.std.specs.Float.Ieee.Digits.{size-lt, size-le, back}
use Rattle.std.specs.Float.Ieee.Fits.{round_is}
use Rattle.std.specs.Float.Ieee.Exact.{HasValue, units_val}
use Rattle.std.specs.Float.Ieee.Nearest.{closest, closest_mono, div_mono}
use Rattle.std.specs.Float.Ieee.Order.{drop, kept}
use Rattle.sequences.specs.Laws.Lists.{le-or-lt}
use Rattle.float32.specs.Laws.Rounded.{Near, rounded, closest-near, kept-ge, kept-le, half-ulp, relative, relative-whole}
use Rattle.float32.specs.Units.{one, mag}
use Rattle.float32.specs.Laws.Units.{one-pos, mag_of}

pub round-value : (s : Bool) (a c : ℕ) → rounded (a * one) c < one * 2 ^ 128 → HasValue (round binary32 s a c) s (rounded (a * one) c) one
unfolding one
round-value s a c h = subst (λ (z : Float). HasValue z s (rounded (a * 2 ^ 149) c) (2 ^ 149)) (sym (round_is binary32 s a c)) (units_val binary32 s (kept 24 (a * 2 ^ 149) c) (drop 24 (a * 2 ^ 149) c)
    h)

closest-one : (r : ℕ) → closest r 1 ≡ r
closest-one r = near (closest r 1) (closest-near r 1 (lit< tt))
  where
    near : (x : ℕ) → Near (2 * (x * 1)) (2 * r) 1 → x ≡ r
    near x h = omega arith

-- a fraction that is at most q * 2 ^ j, q of no more than 24 digits, rounds to at most that
spare : (z p l : ℕ) → z ≤ p + l → z - p ≤ l
spare z p l h = omega arith

pub rounded-le : (n c q j : ℕ) → 0 < c → q < 2 ^ 24 → n ≤ q * 2 ^ j * c → rounded n c ≤ q * 2 ^ j
rounded-le n c q j C Q h =
    let k = drop 24 n c in
    let w : n / c ≤ q * 2 ^ j = le_of_mul-le-mul_right (le_trans (div-mul-le_self n c) h) C in
    let k-le : k ≤ j = spare (size (n / c)) 24 j (size-le (n / c) (24 + j) (lt_of_le_of_lt w (shl_lt 24 j Q))) in
    let r = q * 2 ^ (j - k) in
    let e : r * 2 ^ k ≡ q * 2 ^ j = mul_assoc q (2 ^ (j - k)) (2 ^ k) ∙ ap (λ (x : ℕ). q * x) (sym (pow-add 2 (j - k) k) ∙ ap (λ (x : ℕ). 2 ^ x) (back j k k-le)) in
    let le : closest n (c * 2 ^ k) ≤ closest r 1 = closest_mono n (c * 2 ^ k) r 1 (mul-pos C (pow_pos k)) (lit< tt) (bound n c q r (2 ^ k) (2 ^ j) e h) in
    le_trans (mul-le-mul_right (2 ^ k) (le_trans le (le_of_eq (closest-one r)))) (le_of_eq e)
  where
    bound : (n c q r x y : ℕ) → r * x ≡ q * y → n ≤ q * y * c → n * 1 ≤ r * (c * x)
    bound n c q r x y e h = let w : r * x * c ≡ q * y * c = ap (λ (z : ℕ). z * c) e in omega arith

-- what drops more than j digits is at least 2 ^ (24 + j)
longer : (n c j : ℕ) → j < drop 24 n c → 2 ^ 24 * 2 ^ j ≤ rounded n c
longer n c j l =
    let k = drop 24 n c in
    le_trans (le_of_eq (sym (pow-add 2 24 j))) (le_trans (pow_mono (room j k l)) (le_trans (le_of_eq (pow-add 2 23 k)) (mul-le-mul_right (2 ^ k) (kept-ge 24 n c (lit< tt)
    (lt_of_le_of_lt zero-le l)))))
  where
    room : (j k : ℕ) → j < k → 24 + j ≤ 23 + k
    room j k h = omega arith

-- and one that is at least that rounds to at least that: it either keeps all of its digits, or is larger by what the 24 digits say
pub rounded-ge : (n c q j : ℕ) → 0 < c → q < 2 ^ 24 → q * 2 ^ j * c ≤ n → q * 2 ^ j ≤ rounded n c
rounded-ge n c q j C Q h = elim (le-or-lt (drop 24 n c) j) [ inl l ↦ fine l | inr l ↦ coarse l ]
  where
    bound : (r x y : ℕ) → r * x ≡ q * y → q * y * c ≤ n → r * (c * x) ≤ n * 1
    bound r x y e h = let w : r * x * c ≡ q * y * c = ap (λ (z : ℕ). z * c) e in omega arith

    fine : drop 24 n c ≤ j → q * 2 ^ j ≤ rounded n c
    fine l =
        let k = drop 24 n c in
        let r = q * 2 ^ (j - k) in
        let e : r * 2 ^ k ≡ q * 2 ^ j = mul_assoc q (2 ^ (j - k)) (2 ^ k) ∙ ap (λ (x : ℕ). q * x) (sym (pow-add 2 (j - k) k) ∙ ap (λ (x : ℕ). 2 ^ x) (back j k l)) in
        let w : closest r 1 ≤ kept 24 n c = closest_mono r 1 n (c * 2 ^ k) (lit< tt) (mul-pos C (pow_pos k)) (bound r (2 ^ k) (2 ^ j) e h) in
        le_trans (le_of_eq (sym e)) (mul-le-mul_right (2 ^ k) (le_trans (le_of_eq (sym (closest-one r))) w))

    coarse : j < drop 24 n c → q * 2 ^ j ≤ rounded n c
    coarse l = le_trans (mul-le-mul_right (2 ^ j) (le_of_lt Q)) (longer n c j l)

-- rounding keeps the order
pub rounded-mono : (a b c d : ℕ) → 0 < b → 0 < d → a * d ≤ c * b → rounded a b ≤ rounded c d
rounded-mono a b c d B D h =
    let j = drop 24 a b in
    let k = drop 24 c d in
    elim (eq-or-lt_of_le (fewer (size (a / b)) (size (c / d)) (size-le (a / b) (size (c / d)) (lt_of_le_of_lt (div_mono a b c d B D h) (size-lt (c / d)))))) [
      | inl e ↦
          subst (λ (x : ℕ). closest a (b * 2 ^ x) * 2 ^ x ≤ rounded c d) (sym e)
          (mul-le-mul_right (2 ^ k) (closest_mono a (b * 2 ^ k) c (d * 2 ^ k) (mul-pos B (pow_pos k)) (mul-pos D (pow_pos k)) (scaled (2 ^ k))))
      | inr l ↦
          le_trans (mul-le-mul_right (2 ^ j) (kept-le a b)) (longer c d j l)
    ]
  where
    fewer : (x y : ℕ) → x ≤ y → x - 24 ≤ y - 24
    fewer x y h = omega arith

    scaled : (u : ℕ) → a * (d * u) ≤ c * (b * u)
    scaled u = let w : a * d * u ≤ c * b * u = mul-le-mul_right u h in omega arith

pub twice : (r w : ℕ) → Near (16777216 * r) (16777216 * w) r → r ≤ 2 * w
twice r w h = omega arith

room : (r w : ℕ) → r ≤ 2 * w → w ≤ one * 2 ^ 101 → r < one * 2 ^ 128
room r w h k = le_trans (step one r w one-pos h k) (mul-le-mul_left one (pow_mono {i = 103} {j = 128} (lit≤ tt)))
  where
    step : (o r w : ℕ) → 0 < o → r ≤ 2 * w → w ≤ o * 2 ^ 101 → r < o * 2 ^ 103
    step o r w p h k = omega arith

-- a whole number of units w, rounded
pub record Whole (w : ℕ) (s : Bool) (x : Float) : Type 0 where
  pub size : ℕ
  pub value : HasValue x s size one
  pub near : Near (16777216 * size) (16777216 * w) size

pub round-units : (s : Bool) (w : ℕ) → w ≤ one * 2 ^ 101 → Whole w s (round binary32 s w one)
round-units s w h =
    let r = rounded (w * one) one in
    let n : Near (16777216 * r) (16777216 * w) r = relative-whole (w * one) one w one-pos refl in
    record { size = r; value = round-value s w one (room r w (twice r w n) h); near = n }

-- ---- the error of one rounding: a / c, rounded, is off by half a unit in the last place at most, and by a part in 2 ^ 24 of the result or
-- of 2 ^ -126
pub round-half-unit : (s : Bool) (a c : ℕ) → 0 < c → rounded (a * one) c < one * 2 ^ 128 → Near (2 * (mag (round binary32 s a c) * c)) (2 * (a * one)) (c * 2 ^ drop 24 (a * one) c)
round-half-unit s a c C h = subst (λ (r : ℕ). Near (2 * (r * c)) (2 * (a * one)) (c * 2 ^ drop 24 (a * one) c)) (sym (mag_of (round binary32 s a c) s (rounded (a * one) c) (round-value s a c h)))
    (half-ulp (a * one) c C)

pub round-relative : (s : Bool) (a c : ℕ) → 0 < c → rounded (a * one) c < one * 2 ^ 128 → Near (16777216 * (mag (round binary32 s a c) * c)) (16777216 * (a * one))
    (c * max (mag (round binary32 s a c)) 8388608)
round-relative s a c C h =
    subst (λ (r : ℕ). Near (16777216 * (r * c)) (16777216 * (a * one)) (c * max r 8388608)) (sym (mag_of (round binary32 s a c) s (rounded (a * one) c) (round-value s a c h)))
    (relative (a * one) c (max (rounded (a * one) c) 8388608) C (left (rounded (a * one) c)) (right (rounded (a * one) c)))
  where
    left : (r : ℕ) → r ≤ max r 8388608
    left r = omega arith

    right : (r : ℕ) → 8388608 ≤ max r 8388608
    right r = omega arith
