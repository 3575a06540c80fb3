-- The settings as the words have them.
use Rattle.replay.proofs.builds.Laws.{blocking-by}
use Rattle.replay.proofs.builds.blocking_in.Goals as goal

pub returns : goal.returns
returns c =
    blocking-by c.args.w.now c.long.ensures c.long-2.ensures c.float.ensures c.long-3.ensures c.long-4.ensures c.blocking_of.ensures
