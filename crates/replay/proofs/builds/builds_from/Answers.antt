-- The slices as the words have them.
use Rattle.replay.proofs.builds.Laws.{from-words}
use Rattle.replay.proofs.builds.builds_from.Goals as goal

pub returns : goal.returns
returns c =
    let a = c.args in
    from-words a.w.now a.longs.now a.floats.now c.word.ensures c.blocking_in.ensures c.summarization_in.ensures
    c.value_of_key.ensures c.slice_of.ensures c.words_of.ensures c.slice_of-2.ensures
    c.slice_of-3.ensures c.slice_of-4.ensures c.builds_with.ensures
