-- `Scored::better` meets its contract: the keys are those of the definition.
use Rattle.kept_list.specs.Entry.{better}
use Rattle.kept_list.proofs.Scored.better.Goals as goal

pub returns : goal.returns
unfolding better
returns c = rw (c.key-y.ensures, c.key-x.ensures)
