-- The loop's invariant: what was found so far and the check of the ids left make the check of all.
use mathlib.Core.Path.{◌≡◌}
use mathlib.Core.Bool.{◌&&◌}
use lib.ListN.{drop}
use Rattle.documents.specs.Checks.{ids_hold}
use Rattle.document_checks.proofs.ids_hold.Given as goal

abbrev pub invariant-loop-id : goal.invariant-loop-id
invariant-loop-id l = (l.ok && ids_hold l.count (drop l.id-index l.ids)) ≡ ids_hold l.count l.ids
