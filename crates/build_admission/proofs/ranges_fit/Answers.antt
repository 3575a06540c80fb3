-- The loop's invariants: what was found so far and the check of the ids left make the check of all.
use mathlib.Core.Path.{refl, ◌∙◌}
use native.Mathlib.Omega.{arith}
use Rattle.build_admission.proofs.Laws.{range-ordered, start-step, length-step, every-end, both-fit}
use Rattle.build_admission.proofs.ranges_fit.Goals as goal

pub loop-id-init : goal.loop-id-init
loop-id-init c = (omega arith, refl, refl)

pub overflow_sub-range : goal.overflow_sub-range
overflow_sub-range c =
    range-ordered c.args.offsets.now c.args.ids.now c.loop-id.id-index c.range_of-range.result c.range_of-range.ensures

pub loop-id-preserved : goal.loop-id-preserved
loop-id-preserved c =
    let a = c.args in
    let l = c.loop-id in
    let r = c.range_of-range in
    (omega arith, start-step a.offsets.now a.ids.now l.id-index r.result r.ensures l.starts _ c.start_fits-starts.ensures (omega arith) ∙ l.invariant.1, length-step a.offsets.now a.ids.now l.id-index r.result r.ensures l.lengths _ c.length_fits-lengths.ensures (omega arith) ∙ l.invariant.2)

pub returns : goal.returns
returns c = let l = c.loop-id in let a = c.args in both-fit a.offsets.now a.ids.now l.starts l.lengths (every-end _ l.starts a.ids.now l.id-index _ (omega arith) l.invariant.1) (every-end _ l.lengths a.ids.now l.id-index _ (omega arith) l.invariant.2)
