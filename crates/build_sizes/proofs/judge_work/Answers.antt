-- Each way out by the law for its test.
use Rattle.build_sizes.proofs.Laws.{work-outside, work-many, work-short, work-accepted}
use Rattle.build_sizes.proofs.judge_work.Goals as goal

pub returns-then-dimension_outside : goal.returns-then-dimension_outside
returns-then-dimension_outside c =
    let a = c.args in let o = c.dimension_outside in
    work-outside a.dimension a.offsets a.keys a.places a.maxima a.entry_counts o.result o.result o.ensures c.if-dimension_outside.true

pub returns-then-too_many_blocks : goal.returns-then-too_many_blocks
returns-then-too_many_blocks c =
    let a = c.args in let o = c.dimension_outside in let b = c.saturating_sub in let m = c.too_many_blocks in
    work-many a.dimension a.offsets a.keys a.places a.maxima a.entry_counts o.result m.result o.ensures c.if-dimension_outside.false b.result b.ensures m.ensures c.if-too_many_blocks.true

pub returns-then-keys-needed : goal.returns-then-keys-needed
returns-then-keys-needed c =
    let a = c.args in let o = c.dimension_outside in let b = c.saturating_sub in let m = c.too_many_blocks in
    work-short a.dimension a.offsets a.keys a.places a.maxima a.entry_counts o.result m.result o.ensures c.if-dimension_outside.false b.result b.ensures m.ensures c.if-too_many_blocks.false c.if-keys-needed.true

pub returns : goal.returns
returns c =
    let a = c.args in let o = c.dimension_outside in let b = c.saturating_sub in let m = c.too_many_blocks in
    work-accepted a.dimension a.offsets a.keys a.places a.maxima a.entry_counts o.result m.result o.ensures c.if-dimension_outside.false b.result b.ensures m.ensures c.if-too_many_blocks.false c.if-keys-needed.false
