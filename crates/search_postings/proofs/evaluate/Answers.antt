-- `search_postings::evaluate`: at each return the visit byte and the reading pick the case.
use mathlib.Core.Path.{◌∙◌}
use Rattle.search_postings.specs.Lent.{through_lent}
use Rattle.kept_list.specs.Lent.{lent}
use Rattle.search_postings.specs.Postings.{lends}
use Rattle.search_postings.proofs.Steps.{reading-of, eval-passed, eval-past, eval-breaks, eval-found, visited-by, found-by, end_by}
use Rattle.search_postings.proofs.evaluate.Goals as goal

pub returns-then-is_visited : goal.returns-then-is_visited
returns-then-is_visited c =
    let a = c.args in
    eval-passed a.k (through_lent a.laid.table.now a.laid.sieve.now a.laid.query a.terms) a.posting.0 a.position
    a.counts (lends (lent a.length.now a.packed.now a.scores.now) a.visits.now)
    (visited-by a.posting.0 c.unpack-range.result c.unpack-range.ensures a.visits.now c.is_visited.result c.is_visited.ensures ∙
    c.if-is_visited.true)

pub read_range-r-requires : goal.read_range-r-requires
read_range-r-requires c =
    let a = c.args in end_by a.posting.0 c.unpack-range.result c.unpack-range.ensures

pub returns-in-ReachesPast : goal.returns-in-ReachesPast
returns-in-ReachesPast c =
    let a = c.args in
    eval-past a.k (through_lent a.laid.table.now a.laid.sieve.now a.laid.query a.terms) a.posting.0 a.position
    a.counts (lends (lent a.length.now a.packed.now a.scores.now) a.visits.now)
    (visited-by a.posting.0 c.unpack-range.result c.unpack-range.ensures a.visits.now c.is_visited.result
    c.is_visited.ensures ∙ c.if-is_visited.false) (reading-of a.laid.table.now a.laid.sieve.now a.laid.query.components.now a.laid.query.values.now a.terms.components.now
    a.terms.values.now a.posting.0 c.unpack-range.result c.unpack-range.ensures c.read_range-r.result c.read_range-r.ensures ∙
    c.in-ReachesPast.is)

pub returns-in-Breaks : goal.returns-in-Breaks
returns-in-Breaks c =
    let a = c.args in
    eval-breaks a.k (through_lent a.laid.table.now a.laid.sieve.now a.laid.query a.terms) a.posting.0 a.position
    a.counts (lends (lent a.length.now a.packed.now a.scores.now) a.visits.now)
    (visited-by a.posting.0 c.unpack-range.result c.unpack-range.ensures a.visits.now c.is_visited.result
    c.is_visited.ensures ∙ c.if-is_visited.false) (reading-of a.laid.table.now a.laid.sieve.now a.laid.query.components.now a.laid.query.values.now a.terms.components.now
    a.terms.values.now a.posting.0 c.unpack-range.result c.unpack-range.ensures c.read_range-r.result c.read_range-r.ensures ∙
    c.in-Breaks.is)

pub returns-in-Score : goal.returns-in-Score
returns-in-Score c =
    let a = c.args in
    eval-found a.k (through_lent a.laid.table.now a.laid.sieve.now a.laid.query a.terms) a.posting.0 a.position
    a.counts (lends (lent a.length.now a.packed.now a.scores.now) a.visits.now)
    (visited-by a.posting.0 c.unpack-range.result c.unpack-range.ensures a.visits.now c.is_visited.result
    c.is_visited.ensures ∙ c.if-is_visited.false) c.in-Score.x
    (reading-of a.laid.table.now a.laid.sieve.now a.laid.query.components.now a.laid.query.values.now a.terms.components.now a.terms.values.now a.posting.0 c.unpack-range.result
    c.unpack-range.ensures c.read_range-r.result c.read_range-r.ensures ∙ c.in-Score.is) c.one_more.result c.one_more.ensures _
    (found-by a.posting.0 c.unpack-range.result c.unpack-range.ensures a.k c.in-Score.x
    (lends (lent a.length.now a.packed.now a.scores.now) a.visits.now) _ _ c.keep_found.ensures.kept c.keep_found.ensures.visits)
