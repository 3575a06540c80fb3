-- Each answer is the one of the tests that led to it.
use Rattle.std.proofs.Common.{sym}
use Rattle.packing.specs.Packing.{start_limit, length_limit, pack_of}
use Rattle.packing.specs.Laws.Packing.{start-refused, length-refused, range-packed}
use Rattle.packing.proofs.PackedPosting.pack.Goals as goal

pub returns-then-at-ge-START_LIMIT : goal.returns-then-at-ge-START_LIMIT
unfolding start_limit
returns-then-at-ge-START_LIMIT c = sym (start-refused _ _ c.if-at-ge-START_LIMIT.true)

pub returns-then-length-gt-LENGTH_LIMIT : goal.returns-then-length-gt-LENGTH_LIMIT
unfolding start_limit length_limit
returns-then-length-gt-LENGTH_LIMIT c =
    sym (length-refused _ _ c.if-at-ge-START_LIMIT.false (rw c.range_length-length.ensures at c.if-length-gt-LENGTH_LIMIT.true))

pub returns : goal.returns
unfolding start_limit length_limit pack_of
returns c =
    rw c.range_length-length.ensures (sym (range-packed _ _ c.if-at-ge-START_LIMIT.false (rw c.range_length-length.ensures at c.if-length-gt-LENGTH_LIMIT.false)))
