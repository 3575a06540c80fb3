-- `search_held::block_at`: what stands at its number and at the next.
use Rattle.search_held.proofs.Laws.{block-is}
use Rattle.search_held.proofs.block_at.Goals as goal

pub returns : goal.returns
returns c =
    let a = c.args in
    block-is a.course.block_offsets.now a.course.block_scores.now c.number_at-block.result.0 _ _ _ _ c.number_at-block.ensures c.dot_at-score.ensures c.start_at-start.ensures c.end_at-end.ensures
