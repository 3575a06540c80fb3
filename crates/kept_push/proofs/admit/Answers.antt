-- `kept_push::admit` meets its contract, by the cases of `Verdicts`.
use Rattle.kept_list.specs.Lent.{lent}
use Rattle.kept_push.proofs.Verdicts.{keeps-nothing, wrong-list, too_short, admitted}
use Rattle.kept_push.proofs.admit.Goals as goal

pub returns-then-k-eq0 : goal.returns-then-k-eq0
returns-then-k-eq0 c =
    let a = c.args in
    keeps-nothing a.k a.e (lent a.length a.packed.now a.scores.now) c.if-k-eq0.true

pub returns-then-not-is_well_kept-x : goal.returns-then-not-is_well_kept-x
returns-then-not-is_well_kept-x c =
    let a = c.args in
    wrong-list a.k a.e (lent a.length a.packed.now a.scores.now) c.if-k-eq0.false _ c.is_well_kept.ensures c.if-not-is_well_kept-x.true

pub returns-then-not-need-packed : goal.returns-then-not-need-packed
returns-then-not-need-packed c =
    let a = c.args in
    too_short a.k a.e (lent a.length a.packed.now a.scores.now) c.if-k-eq0.false _ c.is_well_kept.ensures c.if-not-is_well_kept-x.false _ c.after_push-need.ensures c.if-not-need-packed.true

pub returns : goal.returns
returns c =
    let a = c.args in
    admitted a.k a.e (lent a.length a.packed.now a.scores.now) c.if-k-eq0.false _ c.is_well_kept.ensures c.if-not-is_well_kept-x.false _ c.after_push-need.ensures c.if-not-need-packed.false
