-- The slices as the words have them.
use Rattle.replay_search.proofs.Laws.{from-words}
use Rattle.replay_search.proofs.searches_from.Goals as goal

pub returns : goal.returns
returns c =
    let a = c.args in
    from-words a.w.now a.longs.now a.floats.now a.shorts.now a.bytes.now a.packed.now a.scores.now a.visits.now c.word.ensures
    c.words_of.ensures c.slice_of.ensures c.word-2.ensures c.float.ensures c.words_of-2.ensures
    c.slice_of-2.ensures c.slice_of-3.ensures c.slice_of-4.ensures c.words_of-3.ensures
    c.slice_of-5.ensures c.slice_of-6.ensures c.slice_of-7.ensures c.slice_of-8.ensures
    c.slice_of-9.ensures c.value_of_key.ensures c.word-3.ensures c.searches_with.ensures
