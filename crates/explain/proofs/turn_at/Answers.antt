-- `explain::turn_at`: each part from its own step.
use Rattle.explain.proofs.Turns.{turn_is}
use Rattle.explain.proofs.turn_at.Goals as goal

pub returns : goal.returns
returns c =
    let a = c.args in
    turn_is a.k a.factor a.block_scores.now a.block_order.now a.at a.length a.scores.now c.number_at-block.result _ _ _ c.number_at-block.ensures
    c.dot_at-score.ensures c.worst_kept-worst.ensures c.skips-skipped.ensures
