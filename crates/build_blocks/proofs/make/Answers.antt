-- `make` leaves what its definition says: refused, by a fixed size, or by clusters.
use mathlib.Core.Path.{◌∙◌}
use Rattle.documents.specs.Lent.{lent}
use Rattle.build_meaning.specs.Building.{scratches}
use Rattle.build_blocks.proofs.Making.{refused-made, cut_fits, cut-made, group-fits, group-made}
use Rattle.refusal.specs.Laws.First.{handed-up}
use Rattle.build_blocks.proofs.make.Goals as goal

pub shape_of-order-in_err-ready : goal.shape_of-order-in_err-ready
shape_of-order-in_err-ready c = c.ready.auto.order

pub shape_of-blocks-in_err-ready : goal.shape_of-blocks-in_err-ready
shape_of-blocks-in_err-ready c = c.ready.auto.blocks

pub shape_of-sorted-in_err-ready : goal.shape_of-sorted-in_err-ready
shape_of-sorted-in_err-ready c = c.ready.auto.sorted

pub shape_of-known-in_err-ready : goal.shape_of-known-in_err-ready
shape_of-known-in_err-ready c = c.ready.auto.known

pub shape_of-taken-in_err-ready : goal.shape_of-taken-in_err-ready
shape_of-taken-in_err-ready c = c.ready.auto.taken

pub shape_of-counts-in_err-ready : goal.shape_of-counts-in_err-ready
shape_of-counts-in_err-ready c = c.ready.auto.counts

pub shape_of-starts-in_err-ready : goal.shape_of-starts-in_err-ready
shape_of-starts-in_err-ready c = c.ready.auto.starts

pub shape_of-slots-in_err-ready : goal.shape_of-slots-in_err-ready
shape_of-slots-in_err-ready c = c.ready.auto.slots

pub shape_of-weights-in_err-ready : goal.shape_of-weights-in_err-ready
shape_of-weights-in_err-ready c = c.ready.auto.weights

pub shape_of-sums-in_err-ready : goal.shape_of-sums-in_err-ready
shape_of-sums-in_err-ready c = c.ready.auto.sums

pub shape_of-keys-in_err-ready : goal.shape_of-keys-in_err-ready
shape_of-keys-in_err-ready c = c.ready.auto.keys

pub returns-in_err-ready : goal.returns-in_err-ready
returns-in_err-ready c =
    let a = c.args in
    rw (handed-up c.from_residual.result _ c.from_residual.ensures.1)
    (refused-made a.dimension a.blocking (lent a.documents) a.ids.now a.centroids.now
    (scratches a.order.now a.blocks.now a.sorted.now a.known.now a.taken.now a.counts.now a.starts.now a.slots.now a.weights.now
    a.sums.now a.keys.now) c.ready.result c.ready.ensures.answer
    (scratches c.ready.new.order c.ready.new.blocks c.ready.new.sorted
    c.ready.new.known c.ready.new.taken
    c.ready.new.counts c.ready.new.starts
    c.ready.new.slots c.ready.new.weights
    c.ready.new.sums c.ready.new.keys) _
    c.in_err-ready.was c.ready.ensures.scratch)

pub cut-requires : goal.cut-requires
cut-requires c =
    let a = c.args in
    cut_fits a.dimension a.blocking (lent a.documents) a.ids.now a.centroids.now
    (scratches a.order.now a.blocks.now a.sorted.now a.known.now a.taken.now a.counts.now a.starts.now a.slots.now a.weights.now
    a.sums.now a.keys.now) c.ready.result c.ready.ensures.answer c.in_ok-ready.was
    (scratches c.ready.new.order c.ready.new.blocks c.ready.new.sorted
    c.ready.new.known c.ready.new.taken
    c.ready.new.counts c.ready.new.starts
    c.ready.new.slots c.ready.new.weights
    c.ready.new.sums c.ready.new.keys)
    c.ready.ensures.scratch _ c.in-FixedSize.is

pub by_clusters-requires : goal.by_clusters-requires
by_clusters-requires c =
    let a = c.args in
    group-fits a.dimension a.blocking (lent a.documents) a.ids.now a.centroids.now
    (scratches a.order.now a.blocks.now a.sorted.now a.known.now a.taken.now a.counts.now a.starts.now a.slots.now a.weights.now
    a.sums.now a.keys.now) c.ready.result c.ready.ensures.answer c.in_ok-ready.was
    (scratches c.ready.new.order c.ready.new.blocks c.ready.new.sorted
    c.ready.new.known c.ready.new.taken
    c.ready.new.counts c.ready.new.starts
    c.ready.new.slots c.ready.new.weights
    c.ready.new.sums c.ready.new.keys)
    c.ready.ensures.scratch _ _ _ c.in-RandomKmeans.is c.well_formed.1.1.1.0.0 c.well_formed.1.1.1.1.1.1.1.1.1.1.1.1.0.0

pub shape_of-order-in-FixedSize : goal.shape_of-order-in-FixedSize
shape_of-order-in-FixedSize c =
    c.cut.auto.order ∙ c.ready.auto.order

pub shape_of-blocks-in-FixedSize : goal.shape_of-blocks-in-FixedSize
shape_of-blocks-in-FixedSize c =
    c.cut.auto.blocks ∙ c.ready.auto.blocks

pub shape_of-sorted-in-FixedSize : goal.shape_of-sorted-in-FixedSize
shape_of-sorted-in-FixedSize c =
    c.ready.auto.sorted

pub shape_of-known-in-FixedSize : goal.shape_of-known-in-FixedSize
shape_of-known-in-FixedSize c =
    c.ready.auto.known

pub shape_of-taken-in-FixedSize : goal.shape_of-taken-in-FixedSize
shape_of-taken-in-FixedSize c =
    c.ready.auto.taken

pub shape_of-counts-in-FixedSize : goal.shape_of-counts-in-FixedSize
shape_of-counts-in-FixedSize c =
    c.ready.auto.counts

pub shape_of-starts-in-FixedSize : goal.shape_of-starts-in-FixedSize
shape_of-starts-in-FixedSize c =
    c.ready.auto.starts

pub shape_of-slots-in-FixedSize : goal.shape_of-slots-in-FixedSize
shape_of-slots-in-FixedSize c =
    c.ready.auto.slots

pub shape_of-weights-in-FixedSize : goal.shape_of-weights-in-FixedSize
shape_of-weights-in-FixedSize c =
    c.ready.auto.weights

pub shape_of-sums-in-FixedSize : goal.shape_of-sums-in-FixedSize
shape_of-sums-in-FixedSize c =
    c.ready.auto.sums

pub shape_of-keys-in-FixedSize : goal.shape_of-keys-in-FixedSize
shape_of-keys-in-FixedSize c =
    c.ready.auto.keys

pub returns-in-FixedSize : goal.returns-in-FixedSize
returns-in-FixedSize c =
    let a = c.args in
    cut-made a.dimension a.blocking (lent a.documents) a.ids.now a.centroids.now
    (scratches a.order.now a.blocks.now a.sorted.now a.known.now a.taken.now a.counts.now a.starts.now a.slots.now a.weights.now
    a.sums.now a.keys.now) c.ready.result c.ready.ensures.answer c.in_ok-ready.was
    (scratches c.ready.new.order c.ready.new.blocks c.ready.new.sorted
    c.ready.new.known c.ready.new.taken
    c.ready.new.counts c.ready.new.starts
    c.ready.new.slots c.ready.new.weights
    c.ready.new.sums c.ready.new.keys)
    c.ready.ensures.scratch _ c.in-FixedSize.is _ _ _ c.cut.ensures.answer c.cut.ensures.order c.cut.ensures.blocks

pub shape_of-order-in-RandomKmeans : goal.shape_of-order-in-RandomKmeans
shape_of-order-in-RandomKmeans c =
    c.by_clusters.auto.order ∙ c.ready.auto.order

pub shape_of-blocks-in-RandomKmeans : goal.shape_of-blocks-in-RandomKmeans
shape_of-blocks-in-RandomKmeans c =
    c.by_clusters.auto.blocks ∙ c.ready.auto.blocks

pub shape_of-sorted-in-RandomKmeans : goal.shape_of-sorted-in-RandomKmeans
shape_of-sorted-in-RandomKmeans c =
    c.by_clusters.auto.sorted ∙ c.ready.auto.sorted

pub shape_of-known-in-RandomKmeans : goal.shape_of-known-in-RandomKmeans
shape_of-known-in-RandomKmeans c =
    c.by_clusters.auto.known ∙ c.ready.auto.known

pub shape_of-taken-in-RandomKmeans : goal.shape_of-taken-in-RandomKmeans
shape_of-taken-in-RandomKmeans c =
    c.by_clusters.auto.taken ∙ c.ready.auto.taken

pub shape_of-counts-in-RandomKmeans : goal.shape_of-counts-in-RandomKmeans
shape_of-counts-in-RandomKmeans c =
    c.by_clusters.auto.counts ∙ c.ready.auto.counts

pub shape_of-starts-in-RandomKmeans : goal.shape_of-starts-in-RandomKmeans
shape_of-starts-in-RandomKmeans c =
    c.by_clusters.auto.starts ∙ c.ready.auto.starts

pub shape_of-slots-in-RandomKmeans : goal.shape_of-slots-in-RandomKmeans
shape_of-slots-in-RandomKmeans c =
    c.by_clusters.auto.slots ∙ c.ready.auto.slots

pub shape_of-weights-in-RandomKmeans : goal.shape_of-weights-in-RandomKmeans
shape_of-weights-in-RandomKmeans c =
    c.by_clusters.auto.weights ∙ c.ready.auto.weights

pub shape_of-sums-in-RandomKmeans : goal.shape_of-sums-in-RandomKmeans
shape_of-sums-in-RandomKmeans c =
    c.by_clusters.auto.sums ∙ c.ready.auto.sums

pub shape_of-keys-in-RandomKmeans : goal.shape_of-keys-in-RandomKmeans
shape_of-keys-in-RandomKmeans c =
    c.by_clusters.auto.keys ∙ c.ready.auto.keys

pub returns-in-RandomKmeans : goal.returns-in-RandomKmeans
returns-in-RandomKmeans c =
    let a = c.args in
    group-made a.dimension a.blocking (lent a.documents) a.ids.now a.centroids.now
    (scratches a.order.now a.blocks.now a.sorted.now a.known.now a.taken.now a.counts.now a.starts.now a.slots.now a.weights.now
    a.sums.now a.keys.now) c.ready.result c.ready.ensures.answer c.in_ok-ready.was
    (scratches c.ready.new.order c.ready.new.blocks c.ready.new.sorted
    c.ready.new.known c.ready.new.taken
    c.ready.new.counts c.ready.new.starts
    c.ready.new.slots c.ready.new.weights
    c.ready.new.sums c.ready.new.keys)
    c.ready.ensures.scratch _ _ _ c.in-RandomKmeans.is _
    (scratches c.by_clusters.new.order c.by_clusters.new.blocks
    c.by_clusters.new.sorted c.by_clusters.new.known
    c.by_clusters.new.taken c.by_clusters.new.counts
    c.by_clusters.new.starts c.by_clusters.new.slots
    c.by_clusters.new.weights c.by_clusters.new.sums
    c.by_clusters.new.keys) c.by_clusters.ensures.answer c.by_clusters.ensures.scratch
