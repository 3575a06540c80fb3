-- A value that stays within a bound.
use Rattle.std.specs.Prelude.{ℕ, ◌≤◌, Bool, Float}
use Rattle.std.specs.Float.Ieee.Exact.{HasValue}
use Rattle.float32.specs.Units.{one}

-- x is finite, and at most b units of 2 ^ -149 in size
pub record Within (b : ℕ) (x : Float) : Type 0 where
  pub sign : Bool
  pub size : ℕ
  pub value : HasValue x sign size one
  pub small : size ≤ b
