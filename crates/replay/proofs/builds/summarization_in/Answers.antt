-- The settings as the words have them.
use Rattle.replay.proofs.builds.Laws.{summarization-by}
use Rattle.replay.proofs.builds.summarization_in.Goals as goal

pub returns : goal.returns
returns c = summarization-by c.args.w.now c.long.ensures c.long-2.ensures c.float.ensures c.summarization_of.ensures
