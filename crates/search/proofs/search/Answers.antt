-- `search::search`: refused as its tests say, or scored and probed.
use mathlib.Core.Path.{refl}
use Rattle.sparse_scores.specs.Lent.{layout_lent}
use Rattle.search_probe.specs.Lent.{lent_terms}
use Rattle.kept_list.specs.Lent.{lent}
use Rattle.search_probe.specs.Probed.{lends}
use lib.ListN.{length}
use Rattle.search.specs.Searched.{question, scores_for}
use Rattle.search.proofs.Fronts.{put-room, front_length}
use Rattle.search.proofs.Tops.{refused-search, score-room, whole-search}
use Rattle.search.proofs.search.Goals as goal

pub returns-in-Err : goal.returns-in-Err
returns-in-Err c =
    let a = c.args in record {
      leaves = refused-search (question a.k a.factor (lent_terms a.query a.terms) a.postings.now a.block_offsets.now
          (layout_lent a.summaries))
          (lends (lent a.length.now a.packed.now a.scores.now) a.visits.now) a.block_scores.now c.admit-verdict.result
          c.admit-verdict.ensures _ c.in-Err.is;
      numbers = refl;
    }

pub slice_bounds-probe-end : goal.slice_bounds-probe-end
slice_bounds-probe-end c =
    let a = c.args in
    put-room (scores_for (question a.k a.factor (lent_terms a.query a.terms) a.postings.now a.block_offsets.now
    (layout_lent a.summaries))) a.block_scores.now _ (length a.summaries.minimums.now)
    (score-room (question a.k a.factor (lent_terms a.query a.terms) a.postings.now a.block_offsets.now
    (layout_lent a.summaries))
    (lends (lent a.length.now a.packed.now a.scores.now) a.visits.now) a.block_scores.now c.admit-verdict.result c.admit-verdict.ensures
    c.in_default.is) c.distances.ensures

pub slice_bounds-probe-end-2 : goal.slice_bounds-probe-end-2
slice_bounds-probe-end-2 c =
    let a = c.args in
    front_length (scores_for (question a.k a.factor (lent_terms a.query a.terms) a.postings.now a.block_offsets.now
    (layout_lent a.summaries))) a.block_scores.now _ (length a.summaries.minimums.now)
    (score-room (question a.k a.factor (lent_terms a.query a.terms) a.postings.now a.block_offsets.now
    (layout_lent a.summaries))
    (lends (lent a.length.now a.packed.now a.scores.now) a.visits.now) a.block_scores.now c.admit-verdict.result c.admit-verdict.ensures
    c.in_default.is) c.distances.ensures

pub returns : goal.returns
returns c =
    let all = (let a = c.args in
    whole-search (question a.k a.factor (lent_terms a.query a.terms) a.postings.now a.block_offsets.now
    (layout_lent a.summaries))
    (lends (lent a.length.now a.packed.now a.scores.now) a.visits.now) a.block_scores.now
    c.admit-verdict.result
    c.admit-verdict.ensures c.in_default.is
    (record {
      query_values = c.args.query.fit;
      codes = c.args.summaries.codes_narrow;
      minimums = c.args.summaries.minimums_fit;
      steps = c.args.summaries.steps_fit;
    }) _ _
    c.distances.ensures c.probe.ensures
    ) in
    record {
      leaves = all.0;
      numbers = all.1;
    }
