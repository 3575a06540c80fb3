-- The whole part of a value as a u64, by the two ends of its range.
use Rattle.std.specs.Prelude.{◌≡◌, ℕ, suc, ◌+◌, ◌-◌, ◌*◌, ◌/◌, ◌^◌, ◌<◌, ◌≤◌, min, true, false, T, pos, refl, Float}
use Rattle.std.proofs.Common.{lt_of_not-le, le_of_suc-le-suc, le-div_iff_mul-le, arith, lt→ltb}
use Rattle.std.specs.Float.{nan, inf, fin}
use Rattle.std.specs.Float.Ieee.{up, down, lt, to_unsigned}
use Rattle.std.specs.Float.Ieee.Fits.{down_pos}

-- from 2 ^ 64 on
pub whole-over : (q : Float) → T (lt (fin true 1 (pos 0)) q) → (T (lt q (fin false 1 (pos 64))) → ⊥) → 18446744073709551615 ≡ to_unsigned 64 q
unfolding lt to_unsigned
whole-over nan h k = absurd h
whole-over (inf true) h k = absurd h
whole-over (inf false) h k = refl
whole-over (fin true m e) h k = absurd (k (lt→ltb 0 (m * up e * 1 + 1 * 2 ^ 64 * down e) (go (m * up e * 1) (down e) (down_pos e))))
  where
    go : (a d : ℕ) → 0 < d → 0 < a + 1 * 2 ^ 64 * d
    go a d D = omega arith
whole-over (fin false m e) h k = go (m * up e) (down e) (down_pos e) (le_of_suc-le-suc (lt_of_not-le (λ (g : suc (m * up e * 1) ≤ 1 * 2 ^ 64 * down e). k (lt→ltb (m * up e * 1) (1 * 2 ^ 64 * down e)
    g))))
  where
    go : (M d : ℕ) → 0 < d → 1 * 2 ^ 64 * d ≤ M * 1 → 18446744073709551615 ≡ min (M / d) (2 ^ 64 - 1)
    go M d D h = let b : 2 ^ 64 ≤ M / d = (le-div_iff_mul-le D).1 (omega arith) in omega arith

-- -1 and below, and a NaN
pub whole-none : (q : Float) → (T (lt (fin true 1 (pos 0)) q) → ⊥) → 0 ≡ to_unsigned 64 q
unfolding lt to_unsigned
whole-none nan k = refl
whole-none (inf true) k = refl
whole-none (inf false) k = absurd (k tt)
whole-none (fin true m e) k = refl
whole-none (fin false m e) k = absurd (k (lt→ltb 0 (1 * 1 * down e + m * up e * 1) (go (down e) (m * up e * 1) (down_pos e))))
  where
    go : (d a : ℕ) → 0 < d → 0 < 1 * 1 * d + a
    go d a D = omega arith
