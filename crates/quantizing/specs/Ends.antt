-- What holds of the values of an accepted list, and of its least and greatest.
use Rattle.std.specs.Prelude.{List, ℕ, ◌<◌, length, get_or, T, Float}
use Rattle.std.specs.Float.{nan}
use Rattle.float32.specs.Bound.{Bounded}
use Rattle.float32.specs.Order.{at_most}
use Rattle.quantizing.specs.Quantizing.{least, greatest}

-- ---- what an accepted list has
pub record Ends (values : List Float) : Type 0 where
  pub lowest : Bounded (least values)
  pub highest : Bounded (greatest values)
  pub each : (k : ℕ) → k < length values → Bounded (get_or values k nan)
  pub above : (k : ℕ) → k < length values → T (at_most (least values) (get_or values k nan))
  pub under : (k : ℕ) → k < length values → T (at_most (get_or values k nan) (greatest values))
