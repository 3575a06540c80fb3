-- `quantizing::encode` meets its contract. The invariant: the first i values are coded, and past them stands what was lent.
use mathlib.Core.Path.{ap, ◌∙◌}
use native.Mathlib.Omega.{arith}
use lib.ListN.{set}
use Rattle.quantizing.specs.Quantizing.{code_of}
use Rattle.quantizing.proofs.Laws.{coded, coded-more, coded-all}
use Rattle.quantizing.proofs.encode.Goals as goal

pub loop-i-preserved : goal.loop-i-preserved
loop-i-preserved c =
    let values = c.args.values.now in
    let lent = c.args.codes.now in
    let i = c.loop-i.i in
    let v = c.code_of.result in
    ap (λ l. set l i v) c.loop-i.invariant ∙ ap (set (coded (code_of c.args.least c.args.step) values lent i) i) c.code_of.ensures
    ∙ coded-more (code_of c.args.least c.args.step) values lent i c.loop-i-test.true c.requires

pub returns : goal.returns
returns c =
    c.loop-i.invariant ∙ coded-all (code_of c.args.least c.args.step) c.args.values.now c.args.codes.now c.loop-i.i (omega (arith, c.loop-i-test.false, c.loop-i.auto.i-end))
