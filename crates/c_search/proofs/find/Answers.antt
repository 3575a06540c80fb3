-- `find` shows what `search::search` or `search::sort_and_search` leaves.
use Rattle.kept_list.specs.Lent.{lent}
use Rattle.sparse_scores.specs.Lent.{layout_lent}
use Rattle.search_probe.specs.Lent.{lent_terms}
use Rattle.search_probe.specs.Probed.{lends}
use Rattle.search.specs.Searched.{question}
use Rattle.c_search.proofs.Laws.{plain-shows, sorted-shows}
use Rattle.c_search.proofs.find.Goals as goal

pub returns-then-by_score-eq0 : goal.returns-then-by_score-eq0
returns-then-by_score-eq0 c =
    let a = c.args in
    plain-shows _ (question a.k a.factor (lent_terms a.query a.terms) a.postings.now a.block_offsets.now
    (layout_lent a.summaries))
    (lends (lent a.length.now a.packed.now a.scores.now) a.visits.now) a.block_scores.now a.block_order.now _ _ _ c.if-by_score-eq0.true c.search-answer.ensures.leaves (c.show.ensures.number, (c.show.ensures.position, (c.show.ensures.evaluated, c.show.ensures.skipped)))

pub returns : goal.returns
returns c =
    let a = c.args in
    sorted-shows _ (question a.k a.factor (lent_terms a.query a.terms) a.postings.now a.block_offsets.now
    (layout_lent a.summaries))
    (lends (lent a.length.now a.packed.now a.scores.now) a.visits.now) a.block_scores.now a.block_order.now _ _ _ _ c.if-by_score-eq0.false c.sort_and_search-answer.ensures.leaves (c.show-2.ensures.number, (c.show-2.ensures.position, (c.show-2.ensures.evaluated, c.show-2.ensures.skipped)))
