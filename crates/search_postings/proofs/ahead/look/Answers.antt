-- `search_postings::ahead::look`: a range that does not reach past the terms is one of theirs.
use native.Mathlib.Omega.{arith}
use Rattle.search_postings.proofs.Steps.{end_by}
use Rattle.search_postings.proofs.ahead.look.Goals as goal

pub offset_bounds-terms-from : goal.offset_bounds-terms-from
offset_bounds-terms-from c =
    omega (arith, end_by c.args.posting.0 c.unpack-range.result c.unpack-range.ensures)

pub slice_bounds-touch-count : goal.slice_bounds-touch-count
slice_bounds-touch-count c =
    omega (arith, end_by c.args.posting.0 c.unpack-range.result c.unpack-range.ensures)

pub slice_bounds-touch-start : goal.slice_bounds-touch-start
slice_bounds-touch-start c =
    omega (arith, end_by c.args.posting.0 c.unpack-range.result c.unpack-range.ensures)

pub offset_bounds-terms-from-2 : goal.offset_bounds-terms-from-2
offset_bounds-terms-from-2 c =
    omega (arith, end_by c.args.posting.0 c.unpack-range.result c.unpack-range.ensures)

pub slice_bounds-touch-count-2 : goal.slice_bounds-touch-count-2
slice_bounds-touch-count-2 c =
    omega (arith, end_by c.args.posting.0 c.unpack-range.result c.unpack-range.ensures)

pub slice_bounds-touch-start-2 : goal.slice_bounds-touch-start-2
slice_bounds-touch-start-2 c =
    omega (arith, end_by c.args.posting.0 c.unpack-range.result c.unpack-range.ensures)
