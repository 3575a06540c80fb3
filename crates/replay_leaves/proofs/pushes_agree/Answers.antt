-- The verdict and the list as a push leaves them.
use Rattle.replay_leaves.proofs.Laws.{pushes-by}
use Rattle.replay_leaves.proofs.pushes_agree.Goals as goal

pub returns : goal.returns
returns c =
    pushes-by c.args.w.now c.words_of.ensures c.fill.ensures c.words_of-2.ensures c.fill-2.ensures
    c.word.ensures c.word-2.ensures c.float.ensures c.new-e.ensures c.word-3.ensures c.push-verdict.ensures
    c.verdict_number.ensures c.word-4.ensures c.words_of-3.ensures c.same.ensures c.words_of-4.ensures
    c.same-2.ensures
