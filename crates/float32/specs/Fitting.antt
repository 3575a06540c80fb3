-- Values that an f32 holds.
use Rattle.std.specs.Prelude.{ℕ, List, get_or, T, Float}
use Rattle.std.specs.Float.{nan, binary32}
use Rattle.std.specs.Float.Ieee.{fits}

-- scores that an f32 holds
abbrev pub Fitting : Float → List Float → Type 0
Fitting x xs = T (fits binary32 x) × ((k : ℕ) → T (fits binary32 (get_or xs k nan)))
