-- Each buffer against its slice.
use Rattle.std.proofs.Common.{map}
use Rattle.float32.specs.Key.{key_of}
use Rattle.replay.specs.Case.{odd_key}
use Rattle.replay.proofs.builds.Laws.{four, held_by, held-as}
use Rattle.replay.proofs.builds.buffers.entries.Goals as goal

pub returns : goal.returns
returns c =
    let a = c.args in
    four (held-as a.ids.now 9 c.words_of.ensures c.same.ensures)
    (held-as a.codes.now 10 c.words_of-2.ensures c.same-2.ensures)
    (held_by (map key_of a.minimums.now) odd_key c.words_of-3.ensures c.same-3.ensures)
    (held_by (map key_of a.steps.now) odd_key c.words_of-4.ensures c.same-4.ensures)
