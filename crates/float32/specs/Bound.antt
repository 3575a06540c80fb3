-- The bound of document 01 on a document's, a query's or a quantized value: finite, of magnitude at most 2 ^ 32.
use Rattle.std.specs.Prelude.{◌*◌, ◌^◌, ◌≤◌, Bool, false, T, nat_le, Float}
use Rattle.std.specs.Float.{nan, inf, fin, binary32}
use Rattle.std.specs.Float.Ieee.{up, down, fits}
use Rattle.std.specs.Float.Ieee.Scale.{finite}
use Rattle.float32.specs.Units.{one, mag}

-- the number m * 2 ^ e is m * up e / down e
unfoldable pub in_bound : Float → Bool
in_bound nan = false
in_bound (inf s) = false
in_bound (fin s m e) = nat_le (m * up e) (2 ^ 32 * down e)

-- the same of an f32, with its magnitude in units of 2 ^ -149
pub record Bounded (x : Float) : Type 0 where
  pub fit : T (fits binary32 x)
  pub fin : T (finite x)
  pub small : mag x ≤ one * 2 ^ 32
