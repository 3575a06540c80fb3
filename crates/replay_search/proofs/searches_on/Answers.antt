-- The kept list and the visits as the words have them.
use Rattle.replay_search.proofs.Laws.{on-by}
use Rattle.replay_search.proofs.searches_on.Goals as goal

pub returns : goal.returns
returns c =
    on-by c.args.w.now _ c.words_of.ensures c.fill.ensures c.words_of-2.ensures c.fill-2.ensures
    c.words_of-3.ensures c.fill-3.ensures c.searches_from.ensures
