-- `copy` lays one slice in front of another.
use Rattle.std.proofs.Common.{refl, ◌∙◌, arith}
use Rattle.cells.specs.Laws.Copied.{copy-step, copy-end}
use Rattle.cells.proofs.copy.Goals as goal

pub loop-i-init : goal.loop-i-init
loop-i-init g c = refl

pub loop-i-preserved : goal.loop-i-preserved
loop-i-preserved g c =
    let n = c.min-i-end.ensures in
    copy-step c.args.from.now c.args.to.now c.loop-i.to c.loop-i.i c.index-from-i.result (omega (arith, n, c.loop-i-test.true)) (omega (arith, n, c.loop-i-test.true)) c.index-from-i.is c.loop-i.invariant

pub returns : goal.returns
returns g c =
    let n = c.min-i-end.ensures in
    c.loop-i.invariant ∙ copy-end c.args.from.now c.args.to.now c.loop-i.i (omega (arith, n, c.loop-i.auto.i-end, c.loop-i-test.false))
