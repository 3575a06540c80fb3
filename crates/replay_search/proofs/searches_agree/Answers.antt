-- The words as numbers of each kind.
use Rattle.replay_search.proofs.Laws.{agrees-by}
use Rattle.replay_search.proofs.searches_agree.Goals as goal

pub returns : goal.returns
returns c =
    agrees-by c.args.w.now c.fill.ensures c.fill-2.ensures c.fill-3.ensures c.fill-4.ensures c.searches_on.ensures
