-- Quotients of numbers of units, rounded once: never past a power of two that bounds them, and off by a part in 2 ^ 24 at most.
use Rattle.std.specs.Prelude.{◌≡◌, ℕ, ◌+◌, ◌*◌, ◌^◌, ◌<◌, ◌≤◌}
use Rattle.std.proofs.Common.{ap, ◌∙◌, le_trans, le_of_eq, lt_of_le_of_lt, mul-le-mul_right, le_of_mul-le-mul_right, one-mul, mul-pos, arith, lit<}
use Rattle.std.proofs.Math.Pow.{pow-lt}
use Rattle.float32.specs.Laws.Rounded.{Near, rounded, relative}
use Rattle.float32.specs.Units.{one}
use Rattle.float32.specs.Laws.Units.{one-pos}
use Rattle.float32.specs.Laws.RoundedUnits.{rounded-le}

-- ---- a quotient of a units by b / k, in units
abbrev pub quot : ℕ → ℕ → ℕ → ℕ
quot a k b = rounded (a * k * one) (b * one)

pub quot-near : (a k b m : ℕ) → 0 < b → quot a k b ≤ m → 8388608 ≤ m → Near (16777216 * (quot a k b * b)) (16777216 * (a * k)) (b * m)
quot-near a k b m B r M = go (quot a k b) one one-pos (relative (a * k * one) (b * one) m (mul-pos B one-pos) r M)
  where
    go : (q o : ℕ) → 0 < o → Near (16777216 * (q * (b * o))) (16777216 * (a * k * o)) (b * o * m) → Near (16777216 * (q * b)) (16777216 * (a * k)) (b * m)
    go q o O h =
        record { up = le_of_mul-le-mul_right {k = o} (up q o h) O; dn = le_of_mul-le-mul_right {k = o} (dn q o h) O }
      where
        up : (q o : ℕ) → Near (16777216 * (q * (b * o))) (16777216 * (a * k * o)) (b * o * m) → 16777216 * (q * b) * o ≤ (16777216 * (a * k) + b * m) * o
        up q o h = omega arith

        dn : (q o : ℕ) → Near (16777216 * (q * (b * o))) (16777216 * (a * k * o)) (b * o * m) → 16777216 * (a * k) * o ≤ (16777216 * (q * b) + b * m) * o
        dn q o h = omega arith

pub quot_le : (a k b j : ℕ) → 0 < b → a * k ≤ 2 ^ j * b → quot a k b ≤ 2 ^ j
quot_le a k b j B h = le_trans (rounded-le (a * k * one) (b * one) 1 j (mul-pos B one-pos) (lit< tt) (go (2 ^ j) one h)) (le_of_eq (one-mul (2 ^ j)))
  where
    go : (p o : ℕ) → a * k ≤ p * b → a * k * o ≤ 1 * p * (b * o)
    go p o h = let w : a * k * o ≤ p * b * o = mul-le-mul_right o h in omega arith

-- such a quotient does not overflow
pub pow_room : (q j : ℕ) → q ≤ 2 ^ j → j < 277 → q < one * 2 ^ 128
unfolding one
pow_room q j h k = lt_of_le_of_lt h (pow-lt k)

pub quot-zero : (a k b : ℕ) → 0 < b → a ≡ 0 → quot a k b ≡ 0
quot-zero a k b B e = go (quot a k b) (rounded-le (a * k * one) (b * one) 0 0 (mul-pos B one-pos) (lit< tt) (le_of_eq (ap (λ (z : ℕ). z * k * one) e ∙ nil k one (b * one))))
  where
    nil : (k o c : ℕ) → 0 * k * o ≡ 0 * 2 ^ 0 * c
    nil k o c = omega arith

    go : (q : ℕ) → q ≤ 0 * 2 ^ 0 → q ≡ 0
    go q h = omega arith
