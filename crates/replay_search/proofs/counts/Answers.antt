-- Each number against its word.
use Rattle.replay_search.proofs.Laws.{counts-by}
use Rattle.replay_search.proofs.counts.Goals as goal

pub returns : goal.returns
returns c = let a = c.args in counts-by a.w.now a.number a.length a.evaluated a.skipped c.word.ensures c.word-2.ensures c.word-3.ensures
