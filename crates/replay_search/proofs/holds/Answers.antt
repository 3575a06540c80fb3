-- Each buffer against its slice.
use Rattle.replay_search.proofs.Laws.{holds_by}
use Rattle.replay_search.proofs.holds.Goals as goal

pub returns : goal.returns
returns c =
    let a = c.args in
    holds_by a.w.now a.packed.now a.scores.now a.visits.now a.block_scores.now a.block_order.now c.words_of.ensures c.same.ensures
    c.words_of-2.ensures c.same-2.ensures c.words_of-3.ensures c.same-3.ensures
    c.words_of-4.ensures c.same-4.ensures c.words_of-5.ensures c.same-5.ensures
