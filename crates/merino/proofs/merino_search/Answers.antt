-- `merino_search` is `c_search::find`.
use Rattle.merino.proofs.merino_search.Goals as goal

pub shape_of-packed : goal.shape_of-packed
shape_of-packed c = c.find.auto.packed

pub shape_of-scores : goal.shape_of-scores
shape_of-scores c = c.find.auto.scores

pub shape_of-visits : goal.shape_of-visits
shape_of-visits c = c.find.auto.visits

pub shape_of-block_scores : goal.shape_of-block_scores
shape_of-block_scores c = c.find.auto.block_scores

pub shape_of-block_order : goal.shape_of-block_order
shape_of-block_order c = c.find.auto.block_order

pub returns : goal.returns
returns c = c.find.ensures
