-- The part between the limits.
use Rattle.replay_words.proofs.Laws.{slice-by}
use Rattle.replay_words.proofs.slice_of.Goals as goal

pub returns : goal.returns
returns g c = let a = c.args in let b = c.limits in slice-by a.words.now a.at a.numbers.now b.result.start b.result.end b.ensures.start b.ensures.end
