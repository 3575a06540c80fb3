-- `dot_at`: where there is no score, what was given is a NaN.
use lib.Ieee.{div, of_bits}
use Rattle.search_held.proofs.dot_at.Goals as goal

pub returns : goal.returns
unfolding div of_bits
returns c = c.at.ensures
