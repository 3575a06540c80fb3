-- `search::score_and_order`: the scores put at the front, and the blocks by them.
use mathlib.Core.Path.{refl, sym, ◌∙◌}
use Rattle.sparse_scores.specs.Lent.{layout_lent}
use lib.ListN.{length}
use Rattle.documents.specs.Lent.{terms_lent}
use lib.Seq.{length-take-le}
use Rattle.sparse_scores.specs.Scores.{scores_of}
use Rattle.search.proofs.Fronts.{front_length}
use Rattle.search.proofs.Tops.{scored-and-ordered}
use Rattle.search.proofs.score_and_order.Goals as goal

pub slice_bounds-order_by_score-end-2 : goal.slice_bounds-order_by_score-end-2
slice_bounds-order_by_score-end-2 c =
    let a = c.args in
    front_length (scores_of (layout_lent a.summaries) (terms_lent a.query))
    a.block_scores.now _ (length a.summaries.minimums.now) c.requires.minimums_bound_2 c.distances.ensures

pub slice_bounds-order_by_score-end-4 : goal.slice_bounds-order_by_score-end-4
slice_bounds-order_by_score-end-4 c =
    let a = c.args in sym (length-take-le (length a.summaries.minimums.now) a.block_order.now c.requires.minimums_bound_3)

pub order_by_score-requires : goal.order_by_score-requires
order_by_score-requires c =
    let a = c.args in
    let n = front_length (scores_of (layout_lent a.summaries)
    (terms_lent a.query)) a.block_scores.now _ (length a.summaries.minimums.now) c.requires.minimums_bound_2 c.distances.ensures in
    record {
      block_scores_value = sym n ∙ sym (length-take-le (length a.summaries.minimums.now) a.block_order.now c.requires.minimums_bound_3);
      block_scores_bound = rw n at c.requires.minimums_bound;
    }

pub returns : goal.returns
returns c =
    let a = c.args in record {
      block_scores = c.distances.ensures;
      block_order = scored-and-ordered (layout_lent a.summaries)
          (terms_lent a.query) (length a.summaries.minimums.now) a.block_scores.now _ a.block_order.now _ refl c.requires.minimums_value c.requires.minimums_bound_2
          c.requires.minimums_bound_3 c.distances.ensures c.order_by_score.ensures;
    }
