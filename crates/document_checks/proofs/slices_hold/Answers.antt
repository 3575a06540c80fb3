-- Whole and in two parts that share a term.
use mathlib.Core.Path.{sym}
use native.Mathlib.Omega.{arith}
use Prim.Native.Nat.{◌+◌, ◌-◌, ◌*◌, ◌/◌}
use lib.ListN.{length, length-take}
use lib.Seq.{length-take-le}
use Rattle.documents.specs.Laws.Documents.{slices-uneven}
use Rattle.document_checks.proofs.Loops.{front_ends, two-parts}
use Rattle.document_checks.proofs.slices_hold.Goals as goal

pub returns-then-n-values : goal.returns-then-n-values
returns-then-n-values c = sym (slices-uneven _ _ c.if-n-values.true)

pub slice_bounds-terms_hold-end : goal.slice_bounds-terms_hold-end
slice_bounds-terms_hold-end c =
    let a = c.args in sym (length-take-le _ a.components.now (front_ends (length a.components.now) (omega arith)).0)

pub slice_bounds-terms_hold-end-2 : goal.slice_bounds-terms_hold-end-2
slice_bounds-terms_hold-end-2 c =
    let a = c.args in sym (length-take-le _ a.values.now (omega (arith, (front_ends (length a.components.now) (omega arith)).0)))

pub terms_hold-one-requires : goal.terms_hold-one-requires
terms_hold-one-requires c =
    let a = c.args in omega (arith, length-take ((length a.components.now - 1) / 8 * 8 + 1) a.components.now, length-take ((length a.components.now - 1) / 8 * 8 + 1) a.values.now)

pub returns : goal.returns
returns c =
    let a = c.args in
    let cs = a.components.now in
    let vs = a.values.now in
    two-parts cs vs _ _ (omega arith) (omega arith) c.terms_hold-one.ensures c.terms_hold-two.ensures
