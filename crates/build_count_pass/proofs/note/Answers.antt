-- Each part by the call that makes it.
use Rattle.build_count_pass.proofs.Blocks.{note-is}
use Rattle.build_count_pass.proofs.note.Goals as goal

pub shape_of-entry_counts : goal.shape_of-entry_counts
shape_of-entry_counts c =
    c.tally.auto.entry_counts

pub shape_of-minimums : goal.shape_of-minimums
shape_of-minimums c =
    c.put.auto.cells

pub shape_of-steps : goal.shape_of-steps
shape_of-steps c = c.put-2.auto.cells

pub returns : goal.returns
returns c =
    let a = c.args in note-is a.number.0 a.entry_counts.now a.keys.now a.minimums.now a.steps.now _ _ _ c.extent_of_keys-extent.result c.step_of.result c.tally.ensures c.extent_of_keys-extent.ensures c.put.ensures c.step_of.ensures
    c.put-2.ensures
