-- `build` makes what `posting_list::build` makes with the short scratch.
use Rattle.documents.specs.Lent.{lent}
use Rattle.build_meaning.specs.Built.{input}
use Rattle.build_meaning.specs.Building.{outputs}
use Rattle.build_small.proofs.Laws.{short-made}
use Rattle.build_small.proofs.build.Goals as goal

pub shape_of-postings : goal.shape_of-postings
shape_of-postings c = c.build.auto.postings

pub shape_of-block_offsets : goal.shape_of-block_offsets
shape_of-block_offsets c = c.build.auto.block_offsets

pub shape_of-summary_components : goal.shape_of-summary_components
shape_of-summary_components c = c.build.auto.summary_components

pub shape_of-component_offsets : goal.shape_of-component_offsets
shape_of-component_offsets c = c.build.auto.component_offsets

pub shape_of-summary_ids : goal.shape_of-summary_ids
shape_of-summary_ids c = c.build.auto.summary_ids

pub shape_of-codes : goal.shape_of-codes
shape_of-codes c = c.build.auto.codes

pub shape_of-minimums : goal.shape_of-minimums
shape_of-minimums c = c.build.auto.minimums

pub shape_of-steps : goal.shape_of-steps
shape_of-steps c = c.build.auto.steps

pub returns : goal.returns
returns c =
    let a = c.args in
    short-made (input a.dimension a.blocking a.summarization (lent a.documents) a.ids.now a.centroids.now)
    (outputs a.postings.now a.block_offsets.now a.summary_components.now a.component_offsets.now a.summary_ids.now a.codes.now a.minimums.now a.steps.now) _ _
    c.build.ensures
