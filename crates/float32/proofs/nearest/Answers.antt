-- Both halves are exact, so only the sum rounds.
use Rattle.std.proofs.Common.{arith}
use Rattle.std.specs.Float.Ieee.{of_bits}
use Rattle.float32.specs.Laws.Lengths.{kept_small, short-nearest, long-nearest}
use Rattle.float32.proofs.nearest.Goals as goal

pub returns-then-n-lt281474976710656 : goal.returns-then-n-lt281474976710656
unfolding of_bits
returns-then-n-lt281474976710656 c = short-nearest c.args.n c.if-n-lt281474976710656.true

pub returns : goal.returns
unfolding of_bits
returns c =
    let n = c.args.n in
    let kept = c.without_end-kept.result in
    let e = c.without_end-kept.ensures in
    long-nearest n kept c.if-n-lt281474976710656.false e (kept_small n kept (omega arith) e)
