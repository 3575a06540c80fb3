-- The loop's invariants: what was found so far and the check of the ids left make the check of all.
use mathlib.Core.Path.{◌≡◌}
use Prim.Native.Nat.{◌≤◌}
use mathlib.Core.Bool.{◌&&◌}
use mathlib.Core.List.{[]}
use lib.ListN.{length, drop}
use Rattle.documents.specs.Documents.{documents}
use Rattle.build_admission.specs.Admission.{starts_fit, lengths_fit}
use Rattle.build_admission.proofs.ranges_fit.Given as goal

abbrev pub invariant-loop-id : goal.invariant-loop-id
invariant-loop-id l = (l.id-index ≤ length l.ids) × ((l.starts && starts_fit (documents l.offsets [] []) (drop l.id-index l.ids)) ≡ starts_fit (documents l.offsets [] []) l.ids) × ((l.lengths && lengths_fit (documents l.offsets [] []) (drop l.id-index l.ids)) ≡ lengths_fit (documents l.offsets [] []) l.ids)
