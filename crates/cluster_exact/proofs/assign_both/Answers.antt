-- `cluster_exact::assign_both` meets its contract.
use lib.Seq.{length-take-le}
use Rattle.documents.specs.Lent.{lent}
use Rattle.cluster_exact.specs.Laws.Exact.{assigned-exactly}
use mathlib.Core.Path.{sym}
use native.Mathlib.Omega.{arith}
use lib.ListN.{length}
use Rattle.cluster_exact.proofs.assign_both.Goals as goal

pub slice_bounds-count-end : goal.slice_bounds-count-end
slice_bounds-count-end c =
    let a = c.args in omega (arith, c.requires, c.first_pass.auto.taken)

pub slice_bounds-count-end-2 : goal.slice_bounds-count-end-2
slice_bounds-count-end-2 c =
    let a = c.args in sym (length-take-le (length a.ids.now) c.first_pass.new.taken (omega (arith, c.requires, c.first_pass.auto.taken)))

pub second_pass-requires : goal.second_pass-requires
second_pass-requires c =
    omega (arith, c.requires, c.first_pass.auto.taken)

pub shape_of-starts : goal.shape_of-starts
shape_of-starts c =
    c.fill.auto.starts

pub shape_of-slots : goal.shape_of-slots
shape_of-slots c =
    c.fill.auto.slots

pub shape_of-weights : goal.shape_of-weights
shape_of-weights c =
    c.fill.auto.weights

pub returns : goal.returns
returns c =
    let a = c.args in
    assigned-exactly (lent a.documents) a.minimum a.centroids.now a.known.now (length a.starts.now)
    (length a.slots.now) (length a.weights.now) (length a.sums.now) (length a.counts.now) a.ids.now a.taken.now
    c.fill.new.starts c.fill.new.slots c.fill.new.weights _
    c.first_pass.new.taken c.clear.new.numbers c.count.new.counts _
    c.first_pass.auto.sums c.fill.ensures c.requires c.first_pass.ensures c.clear.ensures
    c.count.ensures c.second_pass.ensures
