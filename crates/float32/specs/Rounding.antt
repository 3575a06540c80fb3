-- A value's byte in two steps, each as document 01 has it: to the nearest whole number, then the cut.
use Rattle.std.specs.Prelude.{ℕ, ◌+◌, ◌*◌, ◌/◌, min, cond, ℤ, Float}
use Rattle.std.specs.Float.{nan, inf, fin, binary32}
use Rattle.std.specs.Float.Ieee.{up, down, round}

-- the whole number nearest to m * 2 ^ e, which is m * up e / down e; of two that are equally near, the larger
abbrev pub nearest_whole : ℕ → ℤ → ℕ
nearest_whole m e = (2 * (m * up e) + down e) / (2 * down e)

-- IEEE 754-2019, 5.9, round_to_integral_ties_to_away. The magnitude is rounded, so a tie goes away from zero on both sides
unfoldable pub round_away : Float → Float
unfolding round
round_away nan = nan
round_away (inf s) = inf s
round_away (fin s m e) = round binary32 s (nearest_whole m e) 1

-- below 0 to 0, above 255 to 255, NaN to 0
unfoldable pub cut_to_byte : Float → ℕ
cut_to_byte nan = 0
cut_to_byte (inf s) = cond s 0 255
cut_to_byte (fin s m e) = cond s 0 (min (m * up e / down e) 255)

unfoldable pub byte_of : Float → ℕ
unfolding round_away cut_to_byte
byte_of q = cut_to_byte (round_away q)
