-- The loop's invariant: the terms left lead to the same state as all of them.
use native.Mathlib.Omega.{arith}
use mathlib.Core.Path.{ap}
use lib.ListN.{length}
use Rattle.std.proofs.lemmas.Iterator.{empty_from_Zip}
use Rattle.summary_maximum.proofs.Loops.{next_pair, meet-step, meet-end}
use Rattle.summary_maximum.proofs.meet.Goals as goal

pub loop-component-preserved : goal.loop-component-preserved
loop-component-preserved c =
    let l = c.loop-component in
    let next = next_pair l.component-iterator c.next.new.self _ _ c.in-Some.is c.next.ensures.steps in (
      omega (arith, ap length next.0, ap length next.1, l.invariant.0),
      meet-step c.args.limit _ _ next.0 next.1 l.invariant.1 c.meet_term-met.ensures,
    )

pub returns : goal.returns
returns c =
    let l = c.loop-component in
    let spent = empty_from_Zip l.component-iterator c.next.new.self _ c.in-None.is c.next.ensures.steps l.invariant.0 in
    meet-end c.args.limit _ spent.0 spent.1 l.invariant.1
