-- `merino_build` shows what `posting_list::build` leaves.
use Rattle.documents.specs.Documents.{documents}
use Rattle.build_meaning.specs.Building.{outputs, scratches, lent}
use Rattle.c_build.specs.Chosen.{blocking_of, summarization_of}
use Rattle.merino.proofs.Built.{build-shows}
use Rattle.merino.proofs.build.merino_build.Goals as goal

pub shape_of-postings : goal.shape_of-postings
shape_of-postings c = c.build-answer.auto.postings

pub shape_of-block_offsets : goal.shape_of-block_offsets
shape_of-block_offsets c = c.build-answer.auto.block_offsets

pub shape_of-summary_components : goal.shape_of-summary_components
shape_of-summary_components c = c.build-answer.auto.summary_components

pub shape_of-component_offsets : goal.shape_of-component_offsets
shape_of-component_offsets c = c.build-answer.auto.component_offsets

pub shape_of-summary_ids : goal.shape_of-summary_ids
shape_of-summary_ids c = c.build-answer.auto.summary_ids

pub shape_of-codes : goal.shape_of-codes
shape_of-codes c = c.build-answer.auto.codes

pub shape_of-minimums : goal.shape_of-minimums
shape_of-minimums c = c.build-answer.auto.minimums

pub shape_of-steps : goal.shape_of-steps
shape_of-steps c = c.build-answer.auto.steps

pub shape_of-order : goal.shape_of-order
shape_of-order c = c.build-answer.auto.order

pub shape_of-blocks : goal.shape_of-blocks
shape_of-blocks c = c.build-answer.auto.blocks

pub shape_of-sorted : goal.shape_of-sorted
shape_of-sorted c = c.build-answer.auto.sorted

pub shape_of-known : goal.shape_of-known
shape_of-known c = c.build-answer.auto.known

pub shape_of-taken : goal.shape_of-taken
shape_of-taken c = c.build-answer.auto.taken

pub shape_of-counts : goal.shape_of-counts
shape_of-counts c = c.build-answer.auto.counts

pub shape_of-starts : goal.shape_of-starts
shape_of-starts c = c.build-answer.auto.starts

pub shape_of-slots : goal.shape_of-slots
shape_of-slots c = c.build-answer.auto.slots

pub shape_of-weights : goal.shape_of-weights
shape_of-weights c = c.build-answer.auto.weights

pub shape_of-sums : goal.shape_of-sums
shape_of-sums c = c.build-answer.auto.sums

pub shape_of-keys : goal.shape_of-keys
shape_of-keys c = c.build-answer.auto.keys

pub returns : goal.returns
returns c =
    let a = c.args in
    build-shows a.dimension _ (blocking_of a.blocking a.block_size a.centroid_fraction a.min_cluster_size a.doc_cut) _ (summarization_of a.summarization a.n_components a.summary_energy)
    (documents a.offsets.now a.components.now a.values.now) a.ids.now a.centroids.now
    (lent (outputs a.postings.now a.block_offsets.now a.summary_components.now a.component_offsets.now a.summary_ids.now a.codes.now a.minimums.now
    a.steps.now) (scratches a.order.now a.blocks.now a.sorted.now a.known.now a.taken.now a.counts.now a.starts.now a.slots.now
    a.weights.now a.sums.now a.keys.now)) _ _
    c.blocking_of-cut.ensures c.summarization_of-kept.ensures c.build-answer.ensures c.show_built.ensures
