-- `cluster_by_mode::assign` meets its contract.
use lib.Seq.{length-take-le}
use Rattle.documents.specs.Lent.{lent}
use Rattle.cluster_by_mode.specs.Laws.Modes.{taken-by}
use mathlib.Core.Path.{sym, ap, ◌∙◌}
use native.Mathlib.Omega.{arith}
use lib.ListN.{length, take, drop, replicate}
use Rattle.cluster_by_mode.proofs.assign.Goals as goal

pub slice_bounds-sort_into-end : goal.slice_bounds-sort_into-end
slice_bounds-sort_into-end c =
    sym (length-take-le c.min-m.result c.args.centroids.now (omega (arith, c.min-m.ensures)))

pub slice_bounds-take_by-end : goal.slice_bounds-take_by-end
slice_bounds-take_by-end c =
    sym (length-take-le c.min-m.result c.args.centroids.now (omega (arith, c.min-m.ensures)))

pub slice_bounds-take_by-end-2 : goal.slice_bounds-take_by-end-2
slice_bounds-take_by-end-2 c =
    omega (arith, c.min-room.ensures, c.min-m.ensures, c.sort_into.auto.out)

pub slice_bounds-take_by-end-3 : goal.slice_bounds-take_by-end-3
slice_bounds-take_by-end-3 c =
    sym (length-take-le c.min-m.result c.sort_into.new.out (omega (arith, c.min-room.ensures, c.min-m.ensures, c.sort_into.auto.out)))

pub shape_of-known : goal.shape_of-known
shape_of-known c = c.clear.auto.numbers ∙ c.sort_into.auto.out

pub shape_of-competing : goal.shape_of-competing
shape_of-competing c = c.take_by.auto.competing

pub shape_of-counts : goal.shape_of-counts
shape_of-counts c = c.take_by.auto.counts

pub shape_of-starts : goal.shape_of-starts
shape_of-starts c = c.take_by.auto.starts

pub shape_of-slots : goal.shape_of-slots
shape_of-slots c = c.take_by.auto.slots

pub shape_of-weights : goal.shape_of-weights
shape_of-weights c = c.take_by.auto.weights

pub shape_of-sums : goal.shape_of-sums
shape_of-sums c = c.take_by.auto.sums

pub shape_of-keys : goal.shape_of-keys
shape_of-keys c = c.take_by.auto.keys

pub shape_of-taken : goal.shape_of-taken
shape_of-taken c = c.take_by.auto.taken

pub returns : goal.returns
returns c =
    let a = c.args in let f = c.take_by in let k = c.sort_into in
    let taken = taken-by a.algorithm (lent a.documents) a.minimum a.centroids.now a.known.now k.new.out
    (length a.competing.now) (length a.starts.now) (length a.slots.now) (length a.weights.now) (length a.sums.now) (length a.counts.now)
    (length a.keys.now) (take (length a.taken.now) a.ids.now) (drop (length a.ids.now) a.taken.now) f.new.taken
    c.min-room.result c.min-m.result c.min-room.ensures c.min-m.ensures k.ensures f.ensures.taken in
    let known = c.clear.ensures ∙ ap (λ n. replicate n 0) k.auto.out in
    record {
      taken = taken;
      known = known;
      competing = f.ensures.competing;
      counts = f.ensures.counts;
      starts = f.ensures.starts;
      slots = f.ensures.slots;
      weights = f.ensures.weights;
      sums = f.ensures.sums;
      keys = f.ensures.keys;
    }
