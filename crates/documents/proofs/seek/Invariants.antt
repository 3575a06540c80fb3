-- `documents::seek`: the place and what is left below from there make the place sought.
use mathlib.Core.Path.{◌≡◌}
use Prim.Native.Nat.{◌≤◌, max}
use lib.ListN.{length}
use Rattle.documents.proofs.Seeking.{sought_from}
use Rattle.documents.specs.Sought.{sought}
use Rattle.documents.proofs.seek.Given as goal

abbrev pub invariant-loop-at : goal.invariant-loop-at
invariant-loop-at l = (l.at ≤ max l.from (length l.components)) × (sought_from l.components l.component l.at ≡ sought l.components l.from l.component)
