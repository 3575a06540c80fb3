-- `cluster_slots::if_better` meets its contract.
use Rattle.cluster_slots.specs.Laws.Loops.{stays-less, gives-way, stays}
use borrow.Author.Tests.{not-true, not-false}
use Rattle.cluster_slots.proofs.if_better.Goals as goal

pub returns-then-not-at_most : goal.returns-then-not-at_most
returns-then-not-at_most c = let a = c.args in let m = c.at_most in stays-less a.best a.slot.0 a.score m.result m.result m.ensures (not-true _ c.if-not-at_most.true-raw)

pub returns-then-own-slot : goal.returns-then-own-slot
returns-then-own-slot c =
    let a = c.args in
    let m = c.at_most in
    let k = c.at_most-2 in
    gives-way a.best a.slot.0 a.score m.result k.result m.ensures (not-false _ c.if-not-at_most.false-raw) k.ensures c.if-own-slot.true

pub returns-else-own-slot : goal.returns-else-own-slot
returns-else-own-slot c =
    let a = c.args in
    let m = c.at_most in
    let k = c.at_most-2 in
    stays a.best a.slot.0 a.score m.result k.result m.ensures (not-false _ c.if-not-at_most.false-raw) k.ensures c.if-own-slot.false
