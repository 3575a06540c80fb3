-- `kept_push::all_fall` meets its contract: what was found so far and what is left make the whole.
use native.Mathlib.Omega.{arith}
use mathlib.Core.Path.{refl, ◌∙◌}
use Rattle.kept_push.specs.Standing.{falls}
use Rattle.kept_push.proofs.Soundness.{each_next, each-end}
use Rattle.kept_push.proofs.all_fall.Goals as goal

pub loop-i-init : goal.loop-i-init
loop-i-init c =
    (refl, λ z. absurd (omega arith))

pub loop-i-preserved : goal.loop-i-preserved
loop-i-preserved c =
    let l = c.loop-i in
    let a = c.args in
    (each_next (falls a.scores.now) a.to l.ok _ l.i c.loop-i-test.true refl ∙ l.invariant.0, λ z. c.type_inv.scores)

pub returns : goal.returns
returns c =
    let l = c.loop-i in
    let a = c.args in
    record { answer = each-end (falls a.scores.now) a.to l.ok l.i _ c.loop-i-test.false l.invariant.0; fit = λ z. l.invariant.1 (omega (arith, z, c.loop-i-test.false)) }
