-- The loop's invariant: what was found so far and the check of the documents left make the check of all.
use mathlib.Core.Path.{◌≡◌}
use mathlib.Core.Bool.{◌&&◌}
use lib.ListN.{drop}
use Rattle.documents.specs.Lent.{lent}
use Rattle.documents.specs.Checks.{documents_hold}
use Rattle.document_checks.proofs.documents_hold.Given as goal

abbrev pub invariant-loop-id : goal.invariant-loop-id
invariant-loop-id l = (l.ok && documents_hold l.dimension (lent l.documents) (drop l.id-index l.ids)) ≡ documents_hold l.dimension (lent l.documents) l.ids
