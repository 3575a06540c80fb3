-- Each buffer against its slice.
use Rattle.replay.proofs.builds.Laws.{four, held-as}
use Rattle.replay.proofs.builds.buffers.numbers.Goals as goal

pub returns : goal.returns
returns c =
    let a = c.args in
    four (held-as a.postings.now 5 c.words_of.ensures c.same.ensures)
    (held-as a.offsets.now 6 c.words_of-2.ensures c.same-2.ensures)
    (held-as a.components.now 7 c.words_of-3.ensures c.same-3.ensures)
    (held-as a.component_offsets.now 8 c.words_of-4.ensures c.same-4.ensures)
