use Rattle.std.proofs.Common.{ne_eqb}
use Rattle.blocking.specs.Limits.{dimension_limit}
use Rattle.blocking.proofs.limits.dimension_outside.Goals as goal

pub returns-else-dimension-eq0 : goal.returns-else-dimension-eq0
unfolding dimension_limit
returns-else-dimension-eq0 c = rw (ne_eqb _ _ c.if-dimension-eq0.false)
