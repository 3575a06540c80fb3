-- Its constant is the limit.
use Rattle.std.proofs.Common.{rules}
use Rattle.blocking.specs.Limits.{block_limit}
use Rattle.blocking.proofs.limits.too_many_blocks.Goals as goal

pub returns : goal.returns
unfolding block_limit
returns c = search rules
