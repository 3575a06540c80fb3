-- Each part by the call that makes it.
use Rattle.sparse_layout.specs.Keys.{lent}
use Rattle.build_fill_pass.proofs.Blocks.{place_is}
use Rattle.build_fill_pass.proofs.place.Goals as goal

pub shape_of-cursors : goal.shape_of-cursors
shape_of-cursors c =
    c.place_keys.auto.cursors

pub shape_of-summary_ids : goal.shape_of-summary_ids
shape_of-summary_ids c =
    c.place_keys.auto.summary_ids

pub shape_of-codes : goal.shape_of-codes
shape_of-codes c =
    c.place_keys.auto.codes

pub returns : goal.returns
returns c =
    let a = c.args in place_is a.number.0 a.keys.now (lent a.cursors.now a.summary_ids.now a.codes.now) _ c.extent_of_keys-extent.result c.step_of-step.result c.extent_of_keys-extent.ensures c.step_of-step.ensures c.place_keys.ensures
