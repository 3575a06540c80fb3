-- Where there is a term, the last component decides if all else holds.
use native.Mathlib.Omega.{arith}
use Prim.Native.Nat.{◌-◌}
use lib.ListN.{length}
use mathlib.Core.Path.{◌∙◌}
use Rattle.document_checks.proofs.Loops.{below_none, below_last}
use Rattle.document_checks.proofs.slices_hold_below.Goals as goal

pub returns-then-n-eq0 : goal.returns-then-n-eq0
returns-then-n-eq0 c =
    let a = c.args in c.slices_hold.ensures ∙ below_none a.dimension a.components.now a.values.now (omega arith)

pub overflow_cast-greatest : goal.overflow_cast-greatest
overflow_cast-greatest c =
    let a = c.args in omega (arith, c.shared_slice_known-3-1.given (length a.components.now - 1))

pub returns : goal.returns
returns c =
    let a = c.args in
    below_last a.dimension a.components.now a.values.now _ c.slices_hold-2.ensures (omega arith)
