-- `explain::turn_of`: the turns passed, and those before the first of the rest, are those before the first of all.
use mathlib.Core.Path.{◌≡◌}
use native.Mathlib.Omega.{arith}
use Rattle.explain.proofs.Turns.{turn-first, turn-here, turn_on, turn-none}
use Rattle.explain.proofs.turn_of.Goals as goal

pub loop-t-init : goal.loop-t-init
loop-t-init c = let a = c.args in turn-first a.block_offsets.now a.count a.block_order.now a.turns a.position

pub returns-then-block_holds : goal.returns-then-block_holds
returns-then-block_holds c = let a = (c.args) in let l = c.loop-t in turn-here a.block_offsets.now a.count a.block_order.now a.turns a.position l.t _ _ (omega arith) l.invariant c.number_at.ensures c.block_holds.ensures c.if-block_holds.true

pub loop-t-preserved : goal.loop-t-preserved
loop-t-preserved c =
    let a = (c.args) in
    let l = c.loop-t in
    turn_on a.block_offsets.now a.count a.block_order.now a.turns a.position l.t _ _ (omega arith) l.invariant c.number_at.ensures c.block_holds.ensures c.if-block_holds.false

pub returns : goal.returns
returns c =
    let a = c.args in
    let l = c.loop-t in
    let z : l.t ≡ a.turns = omega arith in
    turn-none a.block_offsets.now a.count a.block_order.now a.turns a.position a.turns (omega arith) (rw z at l.invariant)
