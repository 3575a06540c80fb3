-- `kept_list::pass_worse` meets its contract: what went down so far is worse, and it stops below the first that is not.
use Rattle.kept_list.proofs.Placing.{Going}
use Rattle.kept_list.proofs.pass_worse.Given as goal

abbrev pub invariant-loop-j : goal.invariant-loop-j
invariant-loop-j l = Going l.at l.initial.packed l.initial.scores l.e l.packed l.scores l.j
