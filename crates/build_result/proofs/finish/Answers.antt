-- `finish` meets its contract: the result is written and what it was read from is cleared, or all output is.
use Rattle.documents.specs.Lent.{lent}
use Rattle.build_meaning.specs.Building.{outputs}
use Rattle.sequences.specs.Laws.Lists.{least-long, least-count}
use Rattle.build_result.proofs.Laws.{refused_end, written-end, slots-refused, slots-cleared}
use Rattle.build_result.proofs.finish.Goals as goal

pub slice_bounds-write-end : goal.slice_bounds-write-end
slice_bounds-write-end c = least-long _ _ _ c.min-ordered.ensures

pub slice_bounds-write-end-in-Ok : goal.slice_bounds-write-end-in-Ok
slice_bounds-write-end-in-Ok c = let a = c.args in least-count a.order.now _ _ c.min-ordered.ensures

pub slice_bounds-write-end-in-Ok-2 : goal.slice_bounds-write-end-in-Ok-2
slice_bounds-write-end-in-Ok-2 c = least-long _ _ _ c.min-starting.ensures

pub slice_bounds-write-end-in-Ok-3 : goal.slice_bounds-write-end-in-Ok-3
slice_bounds-write-end-in-Ok-3 c = let a = c.args in least-count a.blocks.now _ _ c.min-starting.ensures

pub shape_of-postings-in-Err : goal.shape_of-postings-in-Err
shape_of-postings-in-Err c = c.clear_output.auto.postings

pub shape_of-block_offsets-in-Err : goal.shape_of-block_offsets-in-Err
shape_of-block_offsets-in-Err c = c.clear_output.auto.block_offsets

pub shape_of-summary_components-in-Err : goal.shape_of-summary_components-in-Err
shape_of-summary_components-in-Err c = c.clear_output.auto.summary_components

pub shape_of-component_offsets-in-Err : goal.shape_of-component_offsets-in-Err
shape_of-component_offsets-in-Err c = c.clear_output.auto.component_offsets

pub shape_of-summary_ids-in-Err : goal.shape_of-summary_ids-in-Err
shape_of-summary_ids-in-Err c = c.clear_output.auto.summary_ids

pub shape_of-codes-in-Err : goal.shape_of-codes-in-Err
shape_of-codes-in-Err c = c.clear_output.auto.codes

pub shape_of-minimums-in-Err : goal.shape_of-minimums-in-Err
shape_of-minimums-in-Err c = c.clear_output.auto.minimums

pub shape_of-steps-in-Err : goal.shape_of-steps-in-Err
shape_of-steps-in-Err c = c.clear_output.auto.steps

pub returns-in-Err : goal.returns-in-Err
returns-in-Err c =
    let a = c.args in record {
      left = refused_end a.made a.dimension a.summarization (lent a.documents) a.listed
          (outputs a.postings.now a.block_offsets.now a.summary_components.now a.component_offsets.now a.summary_ids.now a.codes.now a.minimums.now
          a.steps.now) a.order.now a.blocks.now a.keys.now a.counts.now a.sums.now a.starts.now _
          (outputs c.clear_output.new.postings c.clear_output.new.block_offsets c.clear_output.new.summary_components
          c.clear_output.new.component_offsets c.clear_output.new.summary_ids c.clear_output.new.codes
          c.clear_output.new.minimums c.clear_output.new.steps) c.in-Err.is
          c.clear_output.ensures;
      slots = slots-refused a.made a.slots.now _ c.in-Err.is;
    }

pub shape_of-postings-in-Ok : goal.shape_of-postings-in-Ok
shape_of-postings-in-Ok c = c.write-answer.auto.postings

pub shape_of-block_offsets-in-Ok : goal.shape_of-block_offsets-in-Ok
shape_of-block_offsets-in-Ok c = c.write-answer.auto.block_offsets

pub shape_of-summary_components-in-Ok : goal.shape_of-summary_components-in-Ok
shape_of-summary_components-in-Ok c = c.write-answer.auto.summary_components

pub shape_of-component_offsets-in-Ok : goal.shape_of-component_offsets-in-Ok
shape_of-component_offsets-in-Ok c = c.write-answer.auto.component_offsets

pub shape_of-summary_ids-in-Ok : goal.shape_of-summary_ids-in-Ok
shape_of-summary_ids-in-Ok c = c.write-answer.auto.summary_ids

pub shape_of-codes-in-Ok : goal.shape_of-codes-in-Ok
shape_of-codes-in-Ok c = c.write-answer.auto.codes

pub shape_of-minimums-in-Ok : goal.shape_of-minimums-in-Ok
shape_of-minimums-in-Ok c = c.write-answer.auto.minimums

pub shape_of-steps-in-Ok : goal.shape_of-steps-in-Ok
shape_of-steps-in-Ok c = c.write-answer.auto.steps

pub shape_of-order : goal.shape_of-order
shape_of-order c = c.clear.auto.numbers

pub shape_of-blocks : goal.shape_of-blocks
shape_of-blocks c = c.clear-in-Ok.auto.numbers

pub shape_of-counts : goal.shape_of-counts
shape_of-counts c = c.write-answer.auto.places

pub shape_of-starts : goal.shape_of-starts
shape_of-starts c = c.write-answer.auto.entry_counts

pub shape_of-sums : goal.shape_of-sums
shape_of-sums c = c.write-answer.auto.maxima

pub shape_of-keys : goal.shape_of-keys
shape_of-keys c = c.write-answer.auto.keys

pub shape_of-slots : goal.shape_of-slots
shape_of-slots c = c.write-answer.auto.store

pub returns-in-Ok : goal.returns-in-Ok
returns-in-Ok c =
    let a = c.args in record {
      left = written-end a.made a.dimension a.summarization (lent a.documents) a.listed
          (outputs a.postings.now a.block_offsets.now a.summary_components.now a.component_offsets.now a.summary_ids.now a.codes.now a.minimums.now
          a.steps.now) a.order.now a.blocks.now a.keys.now a.counts.now a.sums.now a.starts.now _ _ _ c.in-Ok.is
          c.min-ordered.ensures c.min-starting.ensures c.write-answer.result
          (outputs c.write-answer.new.postings c.write-answer.new.block_offsets c.write-answer.new.summary_components
          c.write-answer.new.component_offsets c.write-answer.new.summary_ids
          c.write-answer.new.codes c.write-answer.new.minimums
          c.write-answer.new.steps) c.write-answer.new.keys
          c.write-answer.new.places c.write-answer.new.maxima
          c.write-answer.new.entry_counts c.clear.new.numbers c.clear-in-Ok.new.numbers
          c.write-answer.ensures.left c.clear.ensures c.clear-in-Ok.ensures;
      slots = slots-cleared a.made a.slots.now c.write-answer.new.store _ c.in-Ok.is c.write-answer.ensures.store;
    }
