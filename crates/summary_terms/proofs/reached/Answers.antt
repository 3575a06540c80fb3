-- The loop's invariant: the values passed, and those that it takes from here, are as many as it takes in all.
use mathlib.Core.Path.{◌≡◌, sym, ap, ◌∙◌}
use native.Mathlib.Omega.{arith}
use lib.Ieee.{binary32, add, of_bits}
use lib.ListN.{length}
use Rattle.summary_terms.proofs.Loops.{from-none, reached-now, reached-step, reached-end}
use Rattle.summary_terms.proofs.reached.Goals as goal

pub loop-i-init : goal.loop-i-init
unfolding of_bits
loop-i-init c = from-none _

pub returns-then-sum-goal : goal.returns-then-sum-goal
returns-then-sum-goal c =
    let l = c.loop-i in
    let a = c.args in
    reached-now a.goal a.keys.now l.i (omega arith) _ l.sum _ l.invariant (ap (add binary32 l.sum) c.value_of_term_key-sum.ensures) c.if-sum-goal.true

pub loop-i-preserved : goal.loop-i-preserved
loop-i-preserved c =
    let l = c.loop-i in
    let a = c.args in
    reached-step a.goal a.keys.now l.i (omega arith) _ l.sum _ l.invariant (ap (add binary32 l.sum) c.value_of_term_key-sum.ensures) c.if-sum-goal.false

pub returns : goal.returns
returns c =
    let l = c.loop-i in
    let a = c.args in
    let all : l.i ≡ length a.keys.now = omega arith in
    sym all ∙ reached-end a.goal a.keys.now l.i _ l.sum all l.invariant
