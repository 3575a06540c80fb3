-- Worked values, each by its bit pattern, under one claim.
use Rattle.std.specs.Prelude.{◌≡◌, ℕ, true, false, refl, Float}
use Rattle.std.specs.Float.{nan, binary32}
use Rattle.std.specs.Float.Ieee.{of_bits, to_bits, is_nan, lt, eq, round, of_int, mul, to_unsigned}
use Rattle.float32.specs.Order.{at_most}
use Rattle.float32.specs.Key.{key_of, value_of}
use Rattle.float32.specs.Bound.{in_bound}
use Rattle.float32.specs.Rounding.{round_away, cut_to_byte, byte_of}
use Rattle.float32.specs.Count.{scaled_length}

abbrev bits : ℕ → Float
bits n = of_bits binary32 n

pub record Worked : Type 0 where
  -- the byte: 0.5 goes up, the f32 just under it goes down, a tie goes away from zero
  pub half : byte_of (bits 0x3f000000) ≡ 1
  pub under_half : byte_of (bits 0x3effffff) ≡ 0
  pub two_and_a_half : byte_of (bits 0x40200000) ≡ 3
  pub minus_two_and_a_half : to_bits binary32 (round_away (bits 0xc0200000)) ≡ 0xc0400000
  pub under_zero : byte_of (bits 0xbf800000) ≡ 0
  pub last_tie : byte_of (bits 0x437e8000) ≡ 255
  pub over : byte_of (bits 0x43960000) ≡ 255
  pub infinite_byte : byte_of (bits 0x7f800000) ≡ 255
  pub nan_byte : byte_of nan ≡ 0
  -- the total order: -0 stands below +0, NaN above all
  pub zeros : at_most (bits 0x80000000) (bits 0) ≡ true
  pub zeros_back : at_most (bits 0) (bits 0x80000000) ≡ false
  pub nan_last : at_most (bits 0x7f800000) nan ≡ true
  pub nan_back : at_most nan (bits 0x7f800000) ≡ false
  -- keys
  pub key_minus_infinity : key_of (bits 0xff800000) ≡ 0x007fffff
  pub key_minus_zero : key_of (bits 0x80000000) ≡ 0x7fffffff
  pub key_zero : key_of (bits 0) ≡ 0x80000000
  pub key_infinity : key_of (bits 0x7f800000) ≡ 0xff800000
  pub key_nan : key_of nan ≡ 0xffffffff
  pub back_zero : value_of 0x7fffffff ≡ bits 0x80000000
  pub back_none : value_of 0 ≡ nan
  pub back_nan : value_of 0xffffffff ≡ nan
  -- the bound: 2 ^ 32 is in, the next value is out
  pub last_in : in_bound (bits 0x4f800000) ≡ true
  pub last_in_below : in_bound (bits 0xcf800000) ≡ true
  pub first_out : in_bound (bits 0x4f800001) ≡ false
  pub infinite_out : in_bound (bits 0xff800000) ≡ false
  pub nan_out : in_bound nan ≡ false
  -- fraction x length: 0.7 x 10, a NaN, a negative fraction, too much, and a length that f32 does not hold
  pub seven_tenths : scaled_length (bits 0x3f333333) 10 ≡ 7
  pub nan_fraction : scaled_length nan 10 ≡ 0
  pub negative_fraction : scaled_length (bits 0xbf000000) 10 ≡ 0
  pub infinite_fraction : scaled_length (bits 0x7f800000) 1 ≡ 18446744073709551615
  pub infinite_of_nothing : scaled_length (bits 0x7f800000) 0 ≡ 0
  pub rounded_length : scaled_length (bits 0x3f800000) 16777217 ≡ 16777216

pub worked : Worked
unfolding of_bits to_bits is_nan lt eq round of_int mul to_unsigned at_most key_of value_of in_bound round_away cut_to_byte byte_of scaled_length
worked = record {
  half = refl;
  under_half = refl;
  two_and_a_half = refl;
  minus_two_and_a_half = refl;
  under_zero = refl;
  last_tie = refl;
  over = refl;
  infinite_byte = refl;
  nan_byte = refl;
  zeros = refl;
  zeros_back = refl;
  nan_last = refl;
  nan_back = refl;
  key_minus_infinity = refl;
  key_minus_zero = refl;
  key_zero = refl;
  key_infinity = refl;
  key_nan = refl;
  back_zero = refl;
  back_none = refl;
  back_nan = refl;
  last_in = refl;
  last_in_below = refl;
  first_out = refl;
  infinite_out = refl;
  nan_out = refl;
  seven_tenths = refl;
  nan_fraction = refl;
  negative_fraction = refl;
  infinite_fraction = refl;
  infinite_of_nothing = refl;
  rounded_length = refl;
}
