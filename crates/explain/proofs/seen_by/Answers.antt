-- `explain::seen_by`: by what probing answered.
use mathlib.Core.Path.{sym, ap}
use Rattle.explain.specs.Turns.{seen_by}
use Rattle.explain.proofs.seen_by.Goals as goal

pub returns-in-Found : goal.returns-in-Found
returns-in-Found c = let a = c.args in ap (λ x. seen_by x a.turn) (sym c.in-Found.is)
