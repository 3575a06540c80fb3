-- The answer and the offsets as blocking leaves them.
use Rattle.replay_leaves.proofs.Laws.{blocks-by}
use Rattle.replay_leaves.proofs.blocks_agree.Goals as goal

pub returns : goal.returns
returns c =
    blocks-by c.args.w.now c.word.ensures c.word-2.ensures (c.fixed_size_blocking-answer.ensures.answer, c.fixed_size_blocking-answer.ensures.block_offsets) c.words_of-wanted.ensures
    c.is_written.ensures c.same.ensures
