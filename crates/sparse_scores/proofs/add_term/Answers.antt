-- `sparse_scores::add_term` meets its contract. A range that ends past the entries ends with them.
use Rattle.sparse_scores.proofs.Walks.{term-added}
use Rattle.sparse_scores.proofs.add_term.Goals as goal

pub returns : goal.returns
returns c =
    let a = c.args in
    term-added a.summaries.summary_ids.now a.summaries.codes.now a.n a.place a.c a.value a.summaries.summary_components.now a.summaries.component_offsets.now a.summaries.minimums.now a.summaries.steps.now
    c.range_at-range.result.from c.range_at-range.result.to _ _ a.block_scores.now _ c.range_at-range.ensures c.min.ensures
    c.min-end.ensures c.add_entries.ensures
