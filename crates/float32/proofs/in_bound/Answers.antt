-- Its two comparisons are the bound.
use Rattle.float32.specs.Laws.BoundLaws.{in-bound-tests}
use Rattle.float32.proofs.in_bound.Goals as goal

pub returns : goal.returns
returns c = in-bound-tests c.args.x
