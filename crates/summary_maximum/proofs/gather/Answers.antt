-- The loop's invariant: the documents left lead to the same state as all of them.
use mathlib.Core.Path.{◌∙◌}
use native.Mathlib.Omega.{arith}
use Rattle.documents.specs.Lent.{lent}
use Rattle.summary_maximum.specs.Meeting.{met}
use Rattle.summary_maximum.proofs.Loops.{meets_document, fold_step, fold_end, fold-block}
use Rattle.summary_maximum.proofs.gather.Goals as goal

pub loop-document-preserved : goal.loop-document-preserved
loop-document-preserved c =
    let l = c.loop-document in
    let a = c.args in
    fold_step (meets_document a.limit (lent a.documents)) (met l.count l.keys l.places l.maxima) _ _ 0 a.block.now l.document-index c.loop-document-test.true l.invariant c.meet_document-count.ensures

pub returns : goal.returns
returns c =
    let l = c.loop-document in
    let a = c.args in
    fold_end (meets_document a.limit (lent a.documents)) (met l.count l.keys l.places l.maxima) _ a.block.now l.document-index (omega (arith, l.auto.document-index-end, c.loop-document-test.false)) l.invariant
    ∙ fold-block a.limit (lent a.documents) (met 0 a.keys.now a.places.now a.maxima.now) a.block.now
