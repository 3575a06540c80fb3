-- A number for each value, a u32, whose rising order is the total order; and the value back from its number.
use Rattle.std.specs.Prelude.{ℕ, ◌+◌, ◌-◌, cond, nat_le, Float}
use Rattle.std.specs.Float.{binary32}
use Rattle.std.specs.Float.Ieee.{is_nan, to_bits, of_bits}

-- of a bit pattern: with the sign bit set it is turned over, else it goes above all of those
abbrev pub turned : ℕ → ℕ
turned b = cond (nat_le 2147483648 b) (4294967295 - b) (b + 2147483648)

-- the one `nan` has the last number of all
unfoldable pub key_of : Float → ℕ
unfolding is_nan to_bits
key_of x = cond (is_nan x) 4294967295 (turned (to_bits binary32 x))

-- a number that is no value's key gives `nan`
unfoldable pub value_of : ℕ → Float
unfolding of_bits
value_of k = of_bits binary32 (cond (nat_le 2147483648 k) (k - 2147483648) (4294967295 - k))
