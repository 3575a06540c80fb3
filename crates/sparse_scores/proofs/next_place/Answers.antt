-- `sparse_scores::next_place` meets its contract. What stands before the last component stands before this one.
use Rattle.sparse_scores.proofs.Walks.{placed, sought-first}
use Rattle.sparse_scores.proofs.next_place.Goals as goal

pub returns-then-c-last : goal.returns-then-c-last
returns-then-c-last c = let a = c.args in sought-first a.c _ a.summary_components.now c.seek.ensures

pub returns : goal.returns
returns c = let a = c.args in placed a.last a.c a.at _ a.summary_components.now c.requires c.if-c-last.false c.seek-2.ensures
