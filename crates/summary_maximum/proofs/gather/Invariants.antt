-- The loop's invariant: the documents left lead to the same state as all of them.
use mathlib.Core.Path.{◌≡◌}
use mathlib.Core.List.{foldl}
use lib.ListN.{drop}
use Rattle.documents.specs.Lent.{lent}
use Rattle.summary_maximum.specs.Meeting.{met}
use Rattle.summary_maximum.proofs.Loops.{meets_document}
use Rattle.summary_maximum.proofs.gather.Given as goal

abbrev pub invariant-loop-document : goal.invariant-loop-document
invariant-loop-document l = foldl (meets_document l.limit (lent l.documents)) (met l.count l.keys l.places l.maxima) (drop l.document-index l.block)
    ≡ foldl (meets_document l.limit (lent l.documents)) (met 0 l.initial.keys l.initial.places l.initial.maxima) l.block
