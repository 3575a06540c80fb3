-- `is_visited`: the test of the byte that was read.
use mathlib.Core.Path.{ap}
use mathlib.Core.Bool.{not}
use lib.Dec.{eqb}
use Rattle.search_steps.proofs.is_visited.Goals as goal

pub returns : goal.returns
returns c = ap (λ b. not (eqb b 0)) c.at.ensures
