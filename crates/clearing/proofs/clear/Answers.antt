use Rattle.std.proofs.Common.{◌∙◌, ap, arith, set}
use Rattle.clearing.proofs.Laws.{fill_step, fill_end}
use Rattle.clearing.proofs.clear.Goals as goal

pub loop-number-preserved : goal.loop-number-preserved
loop-number-preserved g c = (
  omega arith,
  ap (λ z. set c.loop-number.number-items c.loop-number.number-index z) c.ZERO.ensures
      ∙ fill_step g.T.Zero.ZERO c.loop-number.number-index c.args.numbers.now c.loop-number.number-items c.loop-number.invariant.1 c.loop-number-test.true,
)

pub returns : goal.returns
returns g c = fill_end g.T.Zero.ZERO c.loop-number.number-index c.args.numbers.now c.loop-number.number-items c.loop-number.invariant.1 (omega arith)
