-- The first so many, and what stands past them.
use mathlib.Core.Path.{refl, sym, ◌∙◌}
use native.Mathlib.Omega.{arith}
use lib.Seq.{length-take-le}
use Rattle.summary_terms.proofs.finish_first.Goals as goal

pub slice_bounds-finish-end-2 : goal.slice_bounds-finish-end-2
slice_bounds-finish-end-2 c = let a = c.args in sym (length-take-le a.count a.keys.now (omega arith))

pub slice_bounds-finish-end-4 : goal.slice_bounds-finish-end-4
slice_bounds-finish-end-4 c = let a = c.args in sym (length-take-le a.count a.maxima.now (omega arith))

pub finish-requires : goal.finish-requires
finish-requires c =
    let a = c.args in
    length-take-le a.count a.keys.now (omega arith) ∙ sym (length-take-le a.count a.maxima.now (omega arith))

pub returns : goal.returns
returns c =
    record { front = _; zeros = _; finished = c.finish.ensures; keys_are = refl; maxima_are = refl }
