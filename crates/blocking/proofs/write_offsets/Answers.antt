use Rattle.std.proofs.Common.{◌≡◌, ◌∙◌, arith}
use Rattle.blocking.proofs.Writing.{next_fits, one_more, ended}
use Rattle.blocking.proofs.write_offsets.Goals as goal

pub overflow_mul-block_offsets : goal.overflow_mul-block_offsets
overflow_mul-block_offsets c =
    omega (arith, next_fits c.args.ids c.args.block_size c.args.blocks c.loop-i.i c.loop-i-test.true c.requires.2, c.ranges.ids.fits)

pub loop-i-preserved : goal.loop-i-preserved
loop-i-preserved c =
    let l = c.loop-i in
    rw l.invariant (one_more _ l.i c.args.block_offsets.now (omega (arith, c.loop-i-test.true, c.requires.1)))

pub returns : goal.returns
returns c =
    let l = c.loop-i in
    let p = c.requires in
    let all : l.i ≡ c.args.blocks = omega (arith, l.auto.i-end, c.loop-i-test.false) in
    rw (l.invariant, ← all) (ended _ l.i c.args.block_offsets.now (omega (arith, all, p.1)) _ (all ∙ p.0))
