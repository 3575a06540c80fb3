-- `quantizing::step_of` meets its contract: the literal 255.0 is the whole number 255.
use mathlib.Core.Path.{refl}
use lib.Ieee.{of_bits, of_int}
use Rattle.quantizing.proofs.step_of.Goals as goal

pub returns : goal.returns
unfolding of_bits of_int
returns c = refl
