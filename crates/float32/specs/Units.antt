-- A finite `f32` as a whole number of units of 2 ^ -149, with its sign.
use Rattle.std.specs.Prelude.{ℕ, ◌+◌, ◌*◌, ◌/◌, ◌^◌, ◌≤◌, Bool, false, cond, Float}
use Rattle.std.specs.Float.{nan, inf, fin}
use Rattle.std.specs.Float.Ieee.{up, down}

-- the number 1, in units. Shut, so that no tactic meets its 45 digits
unfoldable pub one : ℕ
one = 2 ^ 149

-- ---- sign and size
abbrev pub negative : Float → Bool
negative nan = false
negative (inf s) = s
negative (fin s m e) = s

unfoldable pub mag : Float → ℕ
mag nan = 0
mag (inf s) = 0
mag (fin s m e) = m * up e * one / down e

-- of a number that is s, n units: how far it is above zero, and how far below
abbrev pub over : Bool → ℕ → ℕ
over s n = cond s 0 n

abbrev pub under : Bool → ℕ → ℕ
under s n = cond s n 0

abbrev pub above : Float → ℕ
above x = over (negative x) (mag x)

abbrev pub below : Float → ℕ
below x = under (negative x) (mag x)

-- x ≤ y as numbers
abbrev pub Ordered : Float → Float → Type 0
Ordered x y = above x + below y ≤ above y + below x
