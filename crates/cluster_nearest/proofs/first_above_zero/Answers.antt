-- `cluster_nearest::first_above_zero` meets its contract.
use mathlib.Core.Path.{sym, ap, ◌∙◌}
use mathlib.Core.List.{foldl, zip_with}
use Rattle.std.specs.Iterator.Adapters.{zip_first, zip_second}
use Rattle.std.specs.Slice.Iter.{iter_rest}
use Rattle.cluster_index.specs.Laws.Walks.{zip-next, zip-end}
use Rattle.cluster_nearest.specs.Laws.Ends.{first-none, first-end}
use Rattle.cluster_nearest.specs.Nearest.{candidate, if_greater}
use Rattle.cluster_nearest.proofs.first_above_zero.Goals as goal

pub returns-then-centroids-eq0 : goal.returns-then-centroids-eq0
returns-then-centroids-eq0 c = first-none _ _ c.if-centroids-eq0.true

pub loop-centroid-preserved : goal.loop-centroid-preserved
loop-centroid-preserved c =
    let l = c.loop-centroid in
    let n = c.next.new.self in
    ap (λ b. foldl if_greater b (zip_with candidate (iter_rest (zip_first n)) (iter_rest (zip_second n)))) c.if_greater-best.ensures
    ∙ sym (ap (foldl if_greater l.best) (zip-next candidate c.in-Some.ensures.steps))
    ∙ l.invariant

pub returns : goal.returns
returns c =
    let l = c.loop-centroid in
    let a = c.args in
    let i = l.centroid-iterator in
    first-end a.centroids.now a.sums.now l.best _ c.if-centroids-eq0.false
    (zip-end candidate (iter_rest (zip_first i)) (iter_rest (zip_second i)) c.in-None.ensures.steps) l.invariant
