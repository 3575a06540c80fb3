-- The answer and the codes as quantizing leaves them.
use Rattle.replay_leaves.proofs.Laws.{quantizes-by}
use Rattle.replay_leaves.proofs.quantizes_agree.Goals as goal

pub returns : goal.returns
returns c =
    quantizes-by c.args.w.now c.fill.ensures c.slice_of.ensures c.quantize-answer.ensures c.word.ensures
    c.word-2.ensures c.words_of.ensures c.is_summary.ensures c.same.ensures
