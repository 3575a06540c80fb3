-- The loop's invariant: what was found so far, the components from the last one looked at and the values left make the check of all.
use mathlib.Core.Path.{◌≡◌}
use Prim.Native.Nat.{◌-◌}
use mathlib.Core.Bool.{◌&&◌}
use lib.ListN.{drop}
use Rattle.float32.specs.Bound.{in_bound}
use Rattle.sequences.specs.Lists.{every, strictly_rise}
use Rattle.documents.specs.Checks.{slices_hold}
use Rattle.document_checks.proofs.terms_hold.Given as goal

abbrev pub invariant-loop-i : goal.invariant-loop-i
invariant-loop-i l = (l.ok && (strictly_rise (drop (l.i - 1) l.components) && every in_bound (drop l.i l.values))) ≡ slices_hold l.components l.values
