-- `kept_list::pass` meets its contract: what went down so far is worse.
use Rattle.kept_list.proofs.Placing.{Going}
use Rattle.kept_list.proofs.pass.Given as goal

abbrev pub invariant-loop-i : goal.invariant-loop-i
invariant-loop-i g l = Going l.at l.initial.packed l.initial.scores l.e l.packed l.scores l.i

abbrev pub decreases-loop-i : goal.decreases-loop-i
decreases-loop-i g l = l.i
