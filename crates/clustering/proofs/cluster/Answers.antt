-- `clustering::cluster` meets its contract: its steps one after another, on what finds a place.
use lib.Seq.{length-take-le}
use Rattle.documents.specs.Lent.{lent}
use Rattle.counting_sort.specs.Counting.{Grouped}
use Rattle.scratch.specs.Scratches.{scratches}
use Rattle.clustering.specs.Clustered.{clustered_in}
use Rattle.clustering.specs.Laws.Clustered.{steps-are}
use mathlib.Core.Path.{sym, ap, ◌∙◌}
use native.Mathlib.Omega.{arith}
use lib.ListN.{replicate}
use Rattle.clustering.proofs.cluster.Goals as goal

pub slice_bounds-sort_into-end : goal.slice_bounds-sort_into-end
slice_bounds-sort_into-end c =
    sym (length-take-le c.min-n.result c.args.ids.now (omega (arith, c.min-n.ensures)))

pub slice_bounds-assign-end : goal.slice_bounds-assign-end
slice_bounds-assign-end c =
    omega (arith, c.min-places.ensures, c.min-n.ensures, c.sort_into.auto.out)

pub slice_bounds-assign-end-2 : goal.slice_bounds-assign-end-2
slice_bounds-assign-end-2 c =
    sym (length-take-le c.min-n.result c.sort_into.new.out (omega (arith, c.min-places.ensures, c.min-n.ensures, c.sort_into.auto.out)))

pub group_and_clear-requires : goal.group_and_clear-requires
group_and_clear-requires c = (
  omega (arith, c.min-places.ensures, c.min-n.ensures, c.sort_into.auto.out),
  omega (arith, c.min-places.ensures, c.min-n.ensures, c.assign.auto.taken),
)

pub shape_of-order : goal.shape_of-order
shape_of-order c = c.group_and_clear.auto.order ∙ c.assign.auto.competing

pub shape_of-blocks : goal.shape_of-blocks
shape_of-blocks c = c.group_and_clear.auto.blocks

pub shape_of-sorted : goal.shape_of-sorted
shape_of-sorted c = c.group_and_clear.auto.sorted ∙ c.sort_into.auto.out

pub shape_of-known : goal.shape_of-known
shape_of-known c = c.assign.auto.known

pub shape_of-taken : goal.shape_of-taken
shape_of-taken c = c.group_and_clear.auto.taken ∙ c.assign.auto.taken

pub shape_of-counts : goal.shape_of-counts
shape_of-counts c = c.group_and_clear.auto.counts ∙ c.assign.auto.counts

pub shape_of-starts : goal.shape_of-starts
shape_of-starts c = c.assign.auto.starts

pub shape_of-slots : goal.shape_of-slots
shape_of-slots c = c.assign.auto.slots

pub shape_of-weights : goal.shape_of-weights
shape_of-weights c = c.assign.auto.weights

pub shape_of-sums : goal.shape_of-sums
shape_of-sums c = c.assign.auto.sums

pub shape_of-keys : goal.shape_of-keys
shape_of-keys c = c.assign.auto.keys

pub returns : goal.returns
unfolding clustered_in
returns c =
    let a = c.args in
    let k = c.sort_into in let f = c.assign in let g = c.group_and_clear in
    let w = steps-are a.algorithm (lent a.documents) a.minimum a.ids.now a.centroids.now
    (scratches a.order.now a.blocks.now a.sorted.now a.known.now a.taken.now a.counts.now a.starts.now a.slots.now a.weights.now a.sums.now a.keys.now)
    c.min-places.result c.min-n.result c.min-places.ensures c.min-n.ensures
    k.new.out f.new.taken f.new.counts f.new.competing k.ensures f.ensures.taken f.ensures.counts f.ensures.competing in record {
      answer = g.ensures.answer ∙ ap (λ (x : Grouped). x.count) w;
      scratch = λ j. scratches
          ((g.ensures.order ∙ ap (λ (x : Grouped). x.order) w) j)
          ((g.ensures.blocks ∙ ap (λ (x : Grouped). x.blocks) w) j)
          ((g.ensures.sorted ∙ ap (λ n. replicate n 0) k.auto.out) j)
          (f.ensures.known j)
          ((g.ensures.taken ∙ ap (λ n. replicate n 0) f.auto.taken) j)
          ((g.ensures.counts ∙ ap (λ n. replicate n 0) f.auto.counts) j)
          (f.ensures.starts j)
          (f.ensures.slots j)
          (f.ensures.weights j)
          (f.ensures.sums j)
          (f.ensures.keys j);
    }
