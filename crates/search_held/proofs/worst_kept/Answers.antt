-- `search_held::worst_kept`: with nothing kept it is a NaN, else the last score.
use lib.Ieee.{div, of_bits}
use Rattle.search_held.proofs.Laws.{worst-none, worst-some}
use Rattle.search_held.proofs.worst_kept.Goals as goal

pub returns-then-length-eq0 : goal.returns-then-length-eq0
unfolding div of_bits
returns-then-length-eq0 c = let a = c.args in worst-none a.length a.scores.now c.if-length-eq0.true

pub returns : goal.returns
unfolding div of_bits
returns c = let a = c.args in worst-some a.length a.scores.now c.at.result c.if-length-eq0.false c.at.ensures
