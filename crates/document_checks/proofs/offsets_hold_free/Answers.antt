-- `document_checks::offsets_hold_free` meets its contract: the first offset by itself, and none that falls.
use native.Mathlib.Omega.{arith}
use Rattle.document_checks.proofs.Loops.{offsets-none, offsets-some}
use Rattle.std.proofs.lemmas.Grind.{common_steps}
use Rattle.document_checks.proofs.offsets_hold_free.Goals as goal

pub returns-then-is_empty : goal.returns-then-is_empty
returns-then-is_empty c = offsets-none c.args.offsets.now (grind (arith, common_steps, c.is_empty.ensures, c.if-is_empty.true))

pub returns : goal.returns
returns c = offsets-some c.args.offsets.now _ (grind (arith, common_steps, c.is_empty.ensures, c.if-is_empty.false)) c.never_falls.ensures
