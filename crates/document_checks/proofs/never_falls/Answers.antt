-- `document_checks::never_falls` meets its contract. The test of what is left, with what was found so far, is the test of all.
use native.Mathlib.Omega.{arith}
use mathlib.Core.Path.{refl, ◌∙◌}
use Rattle.document_checks.proofs.Loops.{never-step, never-end}
use Rattle.document_checks.proofs.never_falls.Goals as goal

pub loop-i-init : goal.loop-i-init
loop-i-init c = refl

pub loop-i-preserved : goal.loop-i-preserved
loop-i-preserved c = let l = c.loop-i in never-step l.ok c.args.offsets.now l.i (omega arith) (omega arith) ∙ l.invariant

pub returns : goal.returns
returns c = let l = c.loop-i in never-end l.ok c.args.offsets.now l.i _ (omega arith) (omega arith) l.invariant
