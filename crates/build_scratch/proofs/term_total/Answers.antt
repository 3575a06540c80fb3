-- `build_scratch::term_total` meets its contract. What is summed, and the terms of the documents left, make the whole.
use native.Mathlib.Omega.{arith}
use lib.ListN.{get_or}
use Rattle.documents.specs.Lent.{lent}
use Rattle.build_scratch.proofs.Laws.{total-start, total-step, total-end, capped_fits, in_order}
use Rattle.build_scratch.proofs.term_total.Goals as goal

pub loop-id-init : goal.loop-id-init
loop-id-init c = let a = c.args in (omega arith, total-start (lent a.documents) a.listed.now)

pub overflow_sub-at : goal.overflow_sub-at
overflow_sub-at c =
    let a = c.args in in_order a.documents.offsets.now c.term_count-count.result (get_or a.listed.now c.loop-id.id-index 0) c.places-at.result c.places-at.ensures

pub loop-id-preserved : goal.loop-id-preserved
loop-id-preserved c =
    let a = c.args in
    let l = c.loop-id in (
      capped_fits _ _ c.saturating_add-total.ensures,
      total-step (lent a.documents) _ c.term_count-count.ensures a.listed.now
          l.id-index l.total _ _ c.loop-id-test.true c.places-at.ensures c.saturating_add-total.ensures l.invariant.1,
    )

pub returns : goal.returns
returns c =
    let a = c.args in
    let l = c.loop-id in
    total-end (lent a.documents) a.listed.now l.id-index l.total c.loop-id-test.false l.invariant.0 l.invariant.1
