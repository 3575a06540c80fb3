-- `document_checks::never_falls` meets its contract. The test of what is left, with what was found so far, is the test of all.
use Prim.Native.Nat.{◌-◌}
use mathlib.Core.Path.{◌≡◌}
use mathlib.Core.Bool.{◌&&◌}
use lib.ListN.{drop}
use Rattle.sequences.specs.Lists.{never_falls}
use Rattle.document_checks.proofs.never_falls.Given as goal

abbrev pub invariant-loop-i : goal.invariant-loop-i
invariant-loop-i l = (l.ok && never_falls (drop (l.i - 1) l.offsets)) ≡ never_falls l.offsets
