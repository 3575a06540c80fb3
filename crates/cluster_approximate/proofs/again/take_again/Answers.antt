-- `cluster_approximate::again::take_again` meets its contract.
use native.Mathlib.Omega.{arith}
use mathlib.Core.Path.{sym}
use lib.ListN.{length, take}
use lib.Seq.{length-take-le}
use Rattle.documents.specs.Lent.{lent}
use Rattle.cluster_approximate.specs.Laws.Approximate.{assigned-again}
use Rattle.cluster_approximate.proofs.again.take_again.Goals as goal

pub slice_bounds-fill-end-2 : goal.slice_bounds-fill-end-2
slice_bounds-fill-end-2 c = sym (length-take-le c.gather-m.result c.gather-m.new.competing (omega (arith, c.gather-m.ensures.room, c.gather-m.auto.competing)))

pub slice_bounds-second_pass-end-2 : goal.slice_bounds-second_pass-end-2
slice_bounds-second_pass-end-2 c =
    sym (length-take-le c.gather-m.result c.gather-m.new.competing (omega (arith, c.gather-m.ensures.room, c.gather-m.auto.competing)))

pub returns : goal.returns
returns c =
    let a = c.args in
    let f = c.fill in
    let g = c.gather-m in
    let p = c.second_pass in
    assigned-again (lent a.documents) a.cut a.minimum a.centroids.now a.known.now (length a.starts.now)
    (length a.slots.now) (length a.weights.now) (length a.sums.now) (length a.keys.now) a.ids.now a.counts.now a.taken.now
    (take g.result g.new.competing)
    f.new.starts f.new.slots f.new.weights c.first_of-first.result.0
    p.new.taken g.ensures.gathered f.ensures c.first_of-first.ensures p.ensures.taken
