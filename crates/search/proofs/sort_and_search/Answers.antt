-- `search::sort_and_search`: refused as its tests say, or scored, put in order and probed.
use mathlib.Core.Path.{refl}
use Rattle.sparse_scores.specs.Lent.{layout_lent}
use Rattle.search_probe.specs.Lent.{lent_terms}
use lib.ListN.{length}
use Rattle.kept_list.specs.Lent.{lent}
use Rattle.search_probe.specs.Probed.{lends}
use Rattle.search.specs.Order.{by_score}
use Rattle.search.specs.Searched.{question, scores_for, order_places}
use Rattle.search.proofs.Fronts.{put-room, front_length}
use Rattle.search.proofs.Tops.{few-blocks, as_many, refused-in-order, places-in-order, whole-in-order}
use Rattle.search.proofs.sort_and_search.Goals as goal

pub returns-in-Err : goal.returns-in-Err
returns-in-Err c =
    let a = c.args in record {
      leaves = refused-in-order (question a.k a.factor (lent_terms a.query a.terms) a.postings.now a.block_offsets.now
          (layout_lent a.summaries))
          (lends (lent a.length.now a.packed.now a.scores.now) a.visits.now) a.block_scores.now a.block_order.now c.admit-verdict.result c.admit-verdict.ensures _
          c.in-Err.is;
      numbers = refl;
    }

pub score_and_order-requires : goal.score_and_order-requires
score_and_order-requires c =
    let a = c.args in
    let p = places-in-order (question a.k a.factor (lent_terms a.query a.terms) a.postings.now a.block_offsets.now
    (layout_lent a.summaries))
    (lends (lent a.length.now a.packed.now a.scores.now) a.visits.now) a.block_scores.now a.block_order.now c.admit-verdict.result c.admit-verdict.ensures
    c.in_default.is in record {
      minimums_bound = few-blocks (question a.k a.factor (lent_terms a.query a.terms) a.postings.now a.block_offsets.now
          (layout_lent a.summaries))
          (lends (lent a.length.now a.packed.now a.scores.now) a.visits.now)
          (order_places (question a.k a.factor (lent_terms a.query a.terms) a.postings.now a.block_offsets.now
          (layout_lent a.summaries)) a.block_scores.now a.block_order.now) c.admit-verdict.result
          c.admit-verdict.ensures c.in_default.is;
      minimums_value = as_many (question a.k a.factor (lent_terms a.query a.terms) a.postings.now a.block_offsets.now
          (layout_lent a.summaries))
          (lends (lent a.length.now a.packed.now a.scores.now) a.visits.now)
          (order_places (question a.k a.factor (lent_terms a.query a.terms) a.postings.now a.block_offsets.now
          (layout_lent a.summaries)) a.block_scores.now a.block_order.now) c.admit-verdict.result
          c.admit-verdict.ensures c.in_default.is;
      minimums_bound_2 = p.0;
      minimums_bound_3 = p.1;
    }

pub slice_bounds-probe-end : goal.slice_bounds-probe-end
slice_bounds-probe-end c =
    let a = c.args in
    put-room (scores_for (question a.k a.factor (lent_terms a.query a.terms) a.postings.now a.block_offsets.now
    (layout_lent a.summaries))) a.block_scores.now _ (length a.summaries.minimums.now)
    (places-in-order (question a.k a.factor (lent_terms a.query a.terms) a.postings.now a.block_offsets.now
    (layout_lent a.summaries))
    (lends (lent a.length.now a.packed.now a.scores.now) a.visits.now) a.block_scores.now a.block_order.now c.admit-verdict.result c.admit-verdict.ensures
    c.in_default.is).0 c.score_and_order.ensures.block_scores

pub slice_bounds-probe-end-2 : goal.slice_bounds-probe-end-2
slice_bounds-probe-end-2 c =
    let a = c.args in
    front_length (scores_for (question a.k a.factor (lent_terms a.query a.terms) a.postings.now a.block_offsets.now
    (layout_lent a.summaries))) a.block_scores.now _ (length a.summaries.minimums.now)
    (places-in-order (question a.k a.factor (lent_terms a.query a.terms) a.postings.now a.block_offsets.now
    (layout_lent a.summaries))
    (lends (lent a.length.now a.packed.now a.scores.now) a.visits.now) a.block_scores.now a.block_order.now c.admit-verdict.result c.admit-verdict.ensures
    c.in_default.is).0 c.score_and_order.ensures.block_scores

pub slice_bounds-probe-end-3 : goal.slice_bounds-probe-end-3
slice_bounds-probe-end-3 c =
    let a = c.args in
    put-room (by_score (scores_for (question a.k a.factor (lent_terms a.query a.terms) a.postings.now a.block_offsets.now
    (layout_lent a.summaries)))) a.block_order.now _ (length a.summaries.minimums.now)
    (places-in-order (question a.k a.factor (lent_terms a.query a.terms) a.postings.now a.block_offsets.now
    (layout_lent a.summaries))
    (lends (lent a.length.now a.packed.now a.scores.now) a.visits.now) a.block_scores.now a.block_order.now c.admit-verdict.result c.admit-verdict.ensures
    c.in_default.is).1 c.score_and_order.ensures.block_order

pub slice_bounds-probe-end-4 : goal.slice_bounds-probe-end-4
slice_bounds-probe-end-4 c =
    let a = c.args in
    front_length (by_score (scores_for (question a.k a.factor (lent_terms a.query a.terms) a.postings.now
    a.block_offsets.now (layout_lent a.summaries)))) a.block_order.now _
    (length a.summaries.minimums.now) (places-in-order (question a.k a.factor (lent_terms a.query a.terms) a.postings.now
    a.block_offsets.now (layout_lent a.summaries))
    (lends (lent a.length.now a.packed.now a.scores.now) a.visits.now) a.block_scores.now a.block_order.now c.admit-verdict.result c.admit-verdict.ensures
    c.in_default.is).1 c.score_and_order.ensures.block_order

pub returns : goal.returns
returns c =
    let all = (let a = c.args in
    whole-in-order (question a.k a.factor (lent_terms a.query a.terms) a.postings.now a.block_offsets.now
    (layout_lent a.summaries))
    (lends (lent a.length.now a.packed.now a.scores.now) a.visits.now) a.block_scores.now a.block_order.now c.admit-verdict.result c.admit-verdict.ensures
    c.in_default.is (record {
      query_values = c.args.query.fit;
      codes = c.args.summaries.codes_narrow;
      minimums = c.args.summaries.minimums_fit;
      steps = c.args.summaries.steps_fit;
    }) _ _ _ c.score_and_order.ensures.block_scores c.score_and_order.ensures.block_order
    c.probe.ensures
    ) in
    record {
      leaves = all.0;
      numbers = all.1;
    }
