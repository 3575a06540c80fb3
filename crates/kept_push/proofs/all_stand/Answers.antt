-- `kept_push::all_stand` meets its contract: what was found so far and what is left make the whole.
use mathlib.Core.Path.{refl, ◌∙◌}
use Rattle.kept_push.specs.Standing.{stands}
use Rattle.kept_push.proofs.Soundness.{each_next, each-end, stands_by}
use Rattle.kept_push.proofs.all_stand.Goals as goal

pub loop-i-init : goal.loop-i-init
loop-i-init c =
    refl

pub loop-i-preserved : goal.loop-i-preserved
loop-i-preserved c =
    let l = c.loop-i in
    let a = c.args in
    each_next (stands a.packed.now a.scores.now) a.to l.ok _ l.i c.loop-i-test.true (stands_by a.packed.now a.scores.now l.i _ _ _ c.entry-above.ensures c.entry.ensures c.better.ensures) ∙ l.invariant

pub returns : goal.returns
returns c =
    let l = c.loop-i in
    let a = c.args in
    each-end (stands a.packed.now a.scores.now) a.to l.ok l.i _ c.loop-i-test.false l.invariant
