-- `explain::turn_fate`: by whether the turn was taken.
use mathlib.Core.Path.{sym, ap}
use Rattle.explain.specs.Reasons.{turn_fate}
use Rattle.explain.proofs.turn_fate.Goals as goal

pub returns-in-Some : goal.returns-in-Some
returns-in-Some c = ap turn_fate (sym c.in-Some.is)
