-- The numbers as the words have them.
use Rattle.replay_leaves.proofs.Laws.{packs-by}
use Rattle.replay_leaves.proofs.packs_agree.Goals as goal

pub returns : goal.returns
returns c =
    packs-by c.args.w.now c.long.ensures c.long-2.ensures c.pack-answer.ensures c.long-3.ensures c.is_packed.ensures
