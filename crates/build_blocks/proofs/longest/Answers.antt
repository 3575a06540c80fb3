-- `longest` answers the greatest count of terms. The loop's invariant: the most so far, or the longest of those left, is the longest of all.
use Rattle.documents.specs.Lent.{lent}
use Rattle.build_blocks.proofs.Lending.{longest-start, longest-step, longest-end}
use Rattle.build_blocks.proofs.longest.Goals as goal

pub loop-id-init : goal.loop-id-init
loop-id-init c =
    let a = c.args in longest-start (lent a.documents) a.ids.now

pub overflow_sub-p : goal.overflow_sub-p
overflow_sub-p c = c.places_of-p.ensures.ordered

pub loop-id-preserved : goal.loop-id-preserved
loop-id-preserved c =
    let a = c.args in
    let l = c.loop-id in
    longest-step (lent a.documents) a.ids.now l.id-index l.most _ _ c.loop-id-test.true c.places_of-p.ensures
    c.max-most.ensures l.invariant

pub returns : goal.returns
returns c =
    let a = c.args in
    let l = c.loop-id in longest-end (lent a.documents) a.ids.now l.id-index l.most c.loop-id-test.false l.invariant
