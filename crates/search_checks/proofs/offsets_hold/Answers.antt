-- `search_checks::offsets_hold` meets its contract. Each return is a case of the definition.
use native.Mathlib.Omega.{arith}
use Rattle.search_checks.proofs.Parts.{offsets-none, offsets-some}
use Rattle.search_checks.proofs.offsets_hold.Goals as goal

pub returns-then-n-eq0 : goal.returns-then-n-eq0
returns-then-n-eq0 c = let a = c.args in offsets-none a.component_offsets.now a.entries c.if-n-eq0.true

pub returns : goal.returns
returns c = let a = c.args in offsets-some a.component_offsets.now a.entries _ (omega arith) c.never_falls.ensures
