-- The terms that are taken, finished.
use Rattle.documents.specs.Lent.{lent}
use Rattle.summary_terms.specs.Laws.Whole.{block_held, keys-suffice, maxima-suffice, summarized}
use Rattle.summary_terms.proofs.summarize.Goals as goal

pub finish_first-requires : goal.finish_first-requires
finish_first-requires c =
    let a = c.args in
    let d = lent a.documents in record {
      count_in_bounds = keys-suffice a.dimension c.limit_of-limit.result a.strategy d a.block.now a.keys.now a.places.now a.maxima.now c.limit_of-limit.ensures _ c.gather-count.ensures;
      count_in_bounds_2 = maxima-suffice a.dimension c.limit_of-limit.result a.strategy d a.block.now a.keys.now a.places.now a.maxima.now c.limit_of-limit.ensures _ c.gather-count.ensures;
    }

pub returns : goal.returns
returns c =
    let a = c.args in
    let d = lent a.documents in
    summarized a.dimension c.limit_of-limit.result a.strategy d a.block.now a.keys.now a.places.now a.maxima.now c.limit_of-limit.ensures _ c.gather-count.ensures _ _ _ _
    (block_held d a.block.now c.args.documents.narrow c.args.documents.fit) c.finish_first.ensures
