-- Each answer is the one of the tests that led to it.
use Rattle.std.proofs.Common.{sym, ◌∙◌}
use Rattle.blocking.specs.Laws.Blocking.{length-refused, size-refused, blocks-refused, buffer-refused, offsets-written}
use Rattle.blocking.proofs.fixed_size_blocking.Goals as goal

pub returns-then-list_too_long : goal.returns-then-list_too_long
returns-then-list_too_long c =
    let done = length-refused c.args.ids c.args.block_size c.args.block_offsets.now (sym c.list_too_long.ensures ∙ c.if-list_too_long.true) in
    record { answer = done.0; block_offsets = done.1 }

pub returns-then-block_size-eq0 : goal.returns-then-block_size-eq0
returns-then-block_size-eq0 c =
    let done = size-refused c.args.ids c.args.block_size c.args.block_offsets.now (sym c.list_too_long.ensures ∙ c.if-list_too_long.false) c.if-block_size-eq0.true in
    record { answer = done.0; block_offsets = done.1 }

pub returns-then-too_many_blocks : goal.returns-then-too_many_blocks
returns-then-too_many_blocks c =
    let done =
    blocks-refused c.args.ids c.args.block_size c.args.block_offsets.now (sym c.list_too_long.ensures ∙ c.if-list_too_long.false) c.if-block_size-eq0.false
    (sym c.too_many_blocks.ensures ∙ c.if-too_many_blocks.true) in
    record { answer = done.0; block_offsets = done.1 }

pub returns-then-block_offsets-blocks : goal.returns-then-block_offsets-blocks
returns-then-block_offsets-blocks c =
    let done =
    buffer-refused c.args.ids c.args.block_size c.args.block_offsets.now (sym c.list_too_long.ensures ∙ c.if-list_too_long.false) c.if-block_size-eq0.false
    (sym c.too_many_blocks.ensures ∙ c.if-too_many_blocks.false) c.if-block_offsets-blocks.true in
    record { answer = done.0; block_offsets = done.1 }

pub returns : goal.returns
returns c =
    let done =
    offsets-written c.args.ids c.args.block_size c.args.block_offsets.now (sym c.list_too_long.ensures ∙ c.if-list_too_long.false) c.if-block_size-eq0.false
    (sym c.too_many_blocks.ensures ∙ c.if-too_many_blocks.false) c.if-block_offsets-blocks.false in
    record { answer = done.0; block_offsets = c.write_offsets.ensures ∙ done.1 }
