-- `cluster_nearest::if_greater` meets its contract.
use Rattle.cluster_nearest.proofs.if_greater.Goals as goal

pub returns-then-best-other : goal.returns-then-best-other
returns-then-best-other c = simp c.if-best-other.true

pub returns-else-best-other : goal.returns-else-best-other
returns-else-best-other c = simp c.if-best-other.false
