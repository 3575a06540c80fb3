-- `build` is what its definition says: blocks made or refused, and then the end of a build.
use mathlib.Core.Path.{◌∙◌}
use Rattle.documents.specs.Lent.{lent}
use Rattle.build_meaning.specs.Built.{input}
use Rattle.build_meaning.specs.Building.{outputs, scratches}
use Rattle.posting_list.proofs.Laws.{built-so}
use Rattle.posting_list.proofs.build.Goals as goal

pub shape_of-postings : goal.shape_of-postings
shape_of-postings c = c.finish.auto.postings

pub shape_of-block_offsets : goal.shape_of-block_offsets
shape_of-block_offsets c = c.finish.auto.block_offsets

pub shape_of-summary_components : goal.shape_of-summary_components
shape_of-summary_components c = c.finish.auto.summary_components

pub shape_of-component_offsets : goal.shape_of-component_offsets
shape_of-component_offsets c = c.finish.auto.component_offsets

pub shape_of-summary_ids : goal.shape_of-summary_ids
shape_of-summary_ids c = c.finish.auto.summary_ids

pub shape_of-codes : goal.shape_of-codes
shape_of-codes c = c.finish.auto.codes

pub shape_of-minimums : goal.shape_of-minimums
shape_of-minimums c = c.finish.auto.minimums

pub shape_of-steps : goal.shape_of-steps
shape_of-steps c = c.finish.auto.steps

pub shape_of-order : goal.shape_of-order
shape_of-order c =
    c.finish.auto.order ∙ c.make-made.auto.order

pub shape_of-blocks : goal.shape_of-blocks
shape_of-blocks c =
    c.finish.auto.blocks ∙ c.make-made.auto.blocks

pub shape_of-sorted : goal.shape_of-sorted
shape_of-sorted c = c.make-made.auto.sorted

pub shape_of-known : goal.shape_of-known
shape_of-known c = c.make-made.auto.known

pub shape_of-taken : goal.shape_of-taken
shape_of-taken c = c.make-made.auto.taken

pub shape_of-counts : goal.shape_of-counts
shape_of-counts c =
    c.finish.auto.counts ∙ c.make-made.auto.counts

pub shape_of-starts : goal.shape_of-starts
shape_of-starts c =
    c.finish.auto.starts ∙ c.make-made.auto.starts

pub shape_of-slots : goal.shape_of-slots
shape_of-slots c =
    c.finish.auto.slots ∙ c.make-made.auto.slots

pub shape_of-weights : goal.shape_of-weights
shape_of-weights c = c.make-made.auto.weights

pub shape_of-sums : goal.shape_of-sums
shape_of-sums c =
    c.finish.auto.sums ∙ c.make-made.auto.sums

pub shape_of-keys : goal.shape_of-keys
shape_of-keys c =
    c.finish.auto.keys ∙ c.make-made.auto.keys

pub returns : goal.returns
returns c =
    let a = c.args in let m = c.make-made in
    let f = c.finish in
    built-so (input a.dimension a.blocking a.summarization (lent a.documents) a.ids.now a.centroids.now)
    (scratches a.order.now a.blocks.now a.sorted.now a.known.now a.taken.now a.counts.now a.starts.now a.slots.now a.weights.now
    a.sums.now a.keys.now) m.result (scratches m.new.order m.new.blocks m.new.sorted
    m.new.known m.new.taken m.new.counts
    m.new.starts m.new.slots m.new.weights
    m.new.sums m.new.keys) m.ensures
    c.args.documents.narrow c.args.documents.fit
    (outputs a.postings.now a.block_offsets.now a.summary_components.now a.component_offsets.now a.summary_ids.now a.codes.now a.minimums.now
    a.steps.now) f.result (outputs f.new.postings f.new.block_offsets f.new.summary_components
    f.new.component_offsets f.new.summary_ids f.new.codes
    f.new.minimums f.new.steps) f.new.order
    f.new.blocks f.new.counts
    f.new.starts f.new.slots f.new.keys
    f.new.sums f.ensures.left f.ensures.slots m.auto.order m.auto.blocks
