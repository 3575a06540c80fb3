-- Scores compared by their place in the total order.
use Rattle.std.specs.Prelude.{Bool, leb, Float}
use Rattle.float32.specs.Key.{key_of}

-- ---- scores in the total order: a score's key is its place in it
abbrev pub no_higher : Float → Float → Bool
no_higher x y = leb (key_of x) (key_of y)
