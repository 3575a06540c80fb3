-- `search_checks::is_well_formed` meets its contract. Its parts are those of the definition; where the offsets hold, counting decides
-- whether ids rise.
use Rattle.search_checks.proofs.Parts.{all_hold}
use Rattle.search_checks.proofs.is_well_formed.Goals as goal

pub returns : goal.returns
returns c =
    let a = c.args in
    all_hold a.postings a.block_offsets.now a.summaries.summary_components.now a.summaries.component_offsets.now a.summaries.summary_ids.now a.summaries.codes.now a.summaries.minimums.now a.summaries.steps.now _ _ _ _ _ _ _ _
    c.too_many_blocks-many.ensures c.list_too_long-long.ensures c.blocks_hold-blocks.ensures c.strictly_rise-risen.ensures c.offsets_hold-offset.ensures
    c.ids_hold-id.ensures c.minimums_hold-low.ensures c.steps_hold-step.ensures
