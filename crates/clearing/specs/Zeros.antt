-- What clearing leaves in a buffer: as many zeros as it has places.
use Rattle.std.specs.Prelude.{ℕ, false, List, pos, Float, length, replicate}
use Rattle.std.specs.Float.{fin}

abbrev pub zeros : List ℕ → List ℕ
zeros l = replicate (length l) 0

-- of floats it is +0
abbrev pub float_zeros : List Float → List Float
float_zeros l = replicate (length l) (fin false 0 (pos 0))
