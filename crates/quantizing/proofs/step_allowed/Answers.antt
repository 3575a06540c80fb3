-- `quantizing::step_allowed` meets its contract: the literal 0.0 is +0.
use mathlib.Core.Path.{ap}
use mathlib.Core.Bool.{false, ◌&&◌}
use lib.IntN.{pos}
use lib.Ieee.{fin, le, of_bits}
use Rattle.quantizing.specs.Quantizing.{step_allowed}
use Rattle.quantizing.proofs.step_allowed.Goals as goal

pub returns : goal.returns
unfolding step_allowed of_bits
returns c = ap (λ b. b && le (fin false 0 (pos 0)) c.args.step) c.in_bound.ensures
