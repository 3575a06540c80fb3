-- A list of values that can be quantized.
use Rattle.std.specs.Prelude.{◌≡◌, true, List, ◌<◌, length, Float}
use Rattle.sequences.specs.Lists.{every}
use Rattle.float32.specs.Bound.{in_bound}

-- a list of one value at least, each in bound
pub record Quantizable (values : List Float) : Type 0 where
  pub some : 0 < length values
  pub in-bound : every in_bound values ≡ true
