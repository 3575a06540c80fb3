-- `write_postings` sets a posting for each document from the start on: what is left to set, set, is all set.
use native.Mathlib.Omega.{arith}
use mathlib.Core.Path.{refl, ◌∙◌}
use mathlib.Core.List.{[]}
use lib.ListN.{length-set}
use Rattle.documents.specs.Documents.{documents}
use Rattle.build_sizes.specs.Sized.{posting_of}
use Rattle.build_output.proofs.Laws.{mapped-step, mapped_end}
use Rattle.build_output.proofs.write_postings.Goals as goal

pub loop-i-init : goal.loop-i-init
loop-i-init c = (omega arith, c.min-end.ensures, refl, refl)

pub loop-i-preserved : goal.loop-i-preserved
loop-i-preserved c =
    let l = c.loop-i in
    let a = c.args in (
      omega arith,
      l.invariant.1,
      length-set l.postings l.i _ ∙ l.invariant.2,
      mapped-step (posting_of (documents a.offsets.now [] [])) a.order.now a.postings.now l.postings l.i _ (let t = c.loop-i-test.true in let e = l.invariant.1 in
          omega arith) c.posting.ensures l.invariant.3,
    )

pub returns : goal.returns
returns c =
    let l = c.loop-i in
    let a = c.args in
    mapped_end (posting_of (documents a.offsets.now [] [])) a.order.now a.postings.now l.postings l.i (let t = c.loop-i-test.false in let e = l.invariant.1 in let m = l.invariant.2 in omega arith) l.invariant.3
