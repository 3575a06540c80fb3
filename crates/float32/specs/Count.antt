-- `fraction x length`, cut to a whole number: one product of two f32, the length rounded to an f32 first, and then Rust's `as u64`, which
-- gives 0 for a NaN or a negative number, and the last u64 for all above it.
use Rattle.std.specs.Prelude.{ℕ, pos, Float}
use Rattle.std.specs.Float.{binary32}
use Rattle.std.specs.Float.Ieee.{of_int, mul, to_unsigned}

unfoldable pub scaled_length : Float → ℕ → ℕ
unfolding of_int mul to_unsigned
scaled_length fraction length = to_unsigned 64 (mul binary32 fraction (of_int binary32 (pos length)))
