-- A value that an f32 holds.
use Rattle.std.specs.Prelude.{T, Float}
use Rattle.std.specs.Float.{binary32}
use Rattle.std.specs.Float.Ieee.{fits}

abbrev pub F32 : Float → Type 0
F32 x = T (fits binary32 x)
