-- The pools as the words have them.
use Rattle.replay.proofs.builds.Laws.{agrees-by}
use Rattle.replay.proofs.builds.builds_agree.Goals as goal

pub returns : goal.returns
returns c =
    agrees-by c.args.w.now _ _ c.fill.ensures c.fill-2.ensures c.builds_from.ensures
