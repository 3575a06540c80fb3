-- IEEE 754-2019, 5.10, total_order, on the values of `f32`: x < y, or x = y and it is not that x is +0 and y is -0. The one `nan` stands
-- above all.
use Rattle.std.specs.Prelude.{Bool, not, ◌&&◌, ◌||◌, Float}
use Rattle.std.specs.Float.Ieee.{lt, eq, is_nan}
use Rattle.float32.specs.Units.{negative}

unfoldable pub at_most : Float → Float → Bool
unfolding lt eq is_nan
at_most x y = is_nan y || (not (is_nan x) && (lt x y || (eq x y && (negative x || not (negative y)))))
