-- `by_clusters` leaves the list's documents and offsets, and zeros: what is lent to clustering holds all, and the rest is put back behind it.
use Prim.Native.Nat.{min}
use native.Mathlib.Omega.{arith}
use mathlib.Core.Path.{sym, ap, ◌∙◌}
use lib.ListN.{length}
use lib.Seq.{length-take-le}
use Rattle.documents.specs.Lent.{lent}
use Rattle.scratch.specs.Scratches.{scratches}
use Rattle.build_blocks.proofs.Lending.{clusters-made}
use Rattle.build_blocks.proofs.by_clusters.Goals as goal

pub slice_bounds-cluster-end-2 : goal.slice_bounds-cluster-end-2
slice_bounds-cluster-end-2 c =
    sym (length-take-le c.min-counted.result c.args.counts.now (omega (arith, c.min-counted.ensures)))

pub slice_bounds-cluster-end-4 : goal.slice_bounds-cluster-end-4
slice_bounds-cluster-end-4 c =
    sym (length-take-le c.min-scored.result c.args.sums.now (omega (arith, c.min-scored.ensures)))

pub slice_bounds-cluster-end-6 : goal.slice_bounds-cluster-end-6
slice_bounds-cluster-end-6 c =
    sym (length-take-le c.min-keyed.result c.args.keys.now (omega (arith, c.min-keyed.ensures)))

pub returns : goal.returns
returns c =
    let all = (let a = c.args in
    let f = c.cluster in
    clusters-made
    (scratches a.order.now a.blocks.now a.sorted.now a.known.now a.taken.now a.counts.now a.starts.now a.slots.now a.weights.now a.sums.now a.keys.now)
    (lent a.documents) a.ids.now a.centroids.now c.requires c.min-counted.result c.min-scored.result c.min-keyed.result
    c.min-counted.ensures c.min-scored.ensures (c.min-keyed.ensures ∙ ap (λ n. min n (length a.keys.now)) c.longest-most.ensures)
    a.algorithm a.minimum f.result
    (scratches f.new.order f.new.blocks
    f.new.sorted f.new.known
    f.new.taken f.new.counts
    f.new.starts f.new.slots
    f.new.weights f.new.sums
    f.new.keys)
    f.ensures.answer f.ensures.scratch
    ) in
    record {
      answer = all.0;
      scratch = all.1;
    }
