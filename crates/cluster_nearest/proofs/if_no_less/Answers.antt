-- `cluster_nearest::if_no_less` meets its contract.
use mathlib.Core.Path.{sym, ap, ◌∙◌}
use mathlib.Core.Bool.{cond}
use Rattle.cluster_nearest.specs.Laws.Passed.{below-is-less}
use Rattle.cluster_nearest.proofs.if_no_less.Goals as goal

pub returns-then-other-best : goal.returns-then-other-best
returns-then-other-best c =
    let a = c.args in
    ap (λ t. cond t a.other a.best) (sym (below-is-less a.best.score a.other.score c.struct_known-2-1.given.1.0 c.struct_known-1.given.1.0 c.if-other-best.true))

pub returns-then-at_most : goal.returns-then-at_most
returns-then-at_most c =
    let e = c.at_most.ensures in let h = c.if-at_most.true in let z = sym e ∙ h in rw z

pub returns-else-at_most : goal.returns-else-at_most
returns-else-at_most c =
    let e = c.at_most.ensures in let h = c.if-at_most.false in let z = sym e ∙ h in rw z
