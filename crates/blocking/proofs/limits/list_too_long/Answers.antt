-- Its constant is the limit.
use Rattle.std.proofs.Common.{rules}
use Rattle.blocking.specs.Limits.{list_limit}
use Rattle.blocking.proofs.limits.list_too_long.Goals as goal

pub returns : goal.returns
unfolding list_limit
returns c = search rules
