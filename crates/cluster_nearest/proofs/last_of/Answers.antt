-- `cluster_nearest::last_of` meets its contract.
use mathlib.Core.Path.{sym, ap, ◌∙◌}
use mathlib.Core.List.{foldl, zip_with}
use Rattle.std.specs.Iterator.Adapters.{zip_first, zip_second}
use Rattle.std.specs.Slice.Iter.{iter_rest}
use Rattle.cluster_index.specs.Laws.Walks.{zip-next, zip-end}
use Rattle.cluster_nearest.specs.Nearest.{candidate, if_no_less}
use Rattle.cluster_nearest.proofs.last_of.Goals as goal

pub loop-centroid-preserved : goal.loop-centroid-preserved
loop-centroid-preserved c =
    let l = c.loop-centroid in
    let n = c.next.new.self in
    ap (λ b. foldl if_no_less b (zip_with candidate (iter_rest (zip_first n)) (iter_rest (zip_second n)))) c.if_no_less-best.ensures
    ∙ sym (ap (foldl if_no_less l.best) (zip-next candidate c.in-Some.ensures.steps))
    ∙ l.invariant

pub returns : goal.returns
returns c =
    let l = c.loop-centroid in
    let i = l.centroid-iterator in
    sym (ap (foldl if_no_less l.best) (zip-end candidate (iter_rest (zip_first i)) (iter_rest (zip_second i)) c.in-None.ensures.steps)) ∙ l.invariant
