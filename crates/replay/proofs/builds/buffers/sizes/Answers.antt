-- The answer in numbers, each size against the length of its slice.
use Rattle.replay.proofs.builds.Laws.{sizes-by}
use Rattle.replay.proofs.builds.buffers.sizes.Goals as goal

pub returns : goal.returns
returns c =
    sizes-by c.args.w.now _ c.show_built-number.ensures c.words_of.ensures c.words_of-2.ensures c.words_of-3.ensures c.words_of-4.ensures c.words_of-5.ensures
