-- The loop's invariant: what was found so far, the components from the last one looked at and the values left make the check of all.
use mathlib.Core.Path.{◌∙◌}
use native.Mathlib.Omega.{arith}
use Rattle.document_checks.proofs.Loops.{terms-none, terms-first, terms-step, terms-end}
use Rattle.std.proofs.lemmas.Grind.{common_steps}
use Prim.Native.Nat.{◌<◌}
use lib.ListN.{length}
use Rattle.document_checks.proofs.terms_hold.Goals as goal

pub returns-then-is_empty : goal.returns-then-is_empty
returns-then-is_empty c = let a = c.args in terms-none a.components.now a.values.now (grind (arith, common_steps, c.is_empty.ensures, c.if-is_empty.true)) (omega arith)

pub loop-i-init : goal.loop-i-init
loop-i-init c = let a = c.args in terms-first a.components.now a.values.now (grind (arith, common_steps, c.is_empty.ensures, c.if-is_empty.false)) (omega arith)

pub loop-i-preserved : goal.loop-i-preserved
loop-i-preserved c =
    let l = c.loop-i in
    let a = c.args in
    terms-step l.ok a.components.now a.values.now l.i (omega arith) (omega arith) (omega arith) ∙ l.invariant

pub returns : goal.returns
returns c =
    let l = c.loop-i in
    let a = c.args in
    let some : 0 < length c.args.components.now = grind (arith, common_steps, c.is_empty.ensures, c.if-is_empty.false) in
    terms-end l.ok a.components.now a.values.now l.i _ (omega arith) (omega arith) (omega arith) l.invariant
