-- What the parts say of what the search left.
use Rattle.replay_search.proofs.Laws.{found-by}
use Rattle.replay_search.proofs.searches_with.Goals as goal

pub returns : goal.returns
returns c =
    found-by c.args.w.now _ _ c.find-number.ensures c.counts.ensures c.holds.ensures
