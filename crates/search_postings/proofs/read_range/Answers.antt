-- `search_postings::read_range`: 13 where the range reaches past the terms, else the page's reading.
use mathlib.Core.Path.{sym, ap, ◌∙◌}
use Rattle.search_postings.specs.Ranges.{of_page}
use Rattle.search_postings.proofs.Steps.{range-past, range-read, within-components, within-values}
use Rattle.search_postings.proofs.read_range.Goals as goal

pub returns-then-n-to : goal.returns-then-n-to
returns-then-n-to c =
    let a = c.args in
    range-past a.laid.table.now a.laid.sieve.now a.laid.query.components.now a.laid.query.values.now a.terms.components.now a.terms.values.now a.start.0 a.end c.term_count-n.result
    c.term_count-n.ensures c.if-n-to.true

pub slice_bounds-read-end : goal.slice_bounds-read-end
slice_bounds-read-end c =
    let a = c.args in
    within-components a.laid.table.now a.laid.sieve.now a.laid.query.components.now a.laid.query.values.now a.terms.components.now a.terms.values.now a.start.0 a.end c.term_count-n.result
    c.term_count-n.ensures c.if-n-to.false

pub slice_bounds-read-end-2 : goal.slice_bounds-read-end-2
slice_bounds-read-end-2 c =
    let a = c.args in
    within-values a.laid.table.now a.laid.sieve.now a.laid.query.components.now a.laid.query.values.now a.terms.components.now a.terms.values.now a.start.0 a.end
    c.term_count-n.result c.term_count-n.ensures c.if-n-to.false

pub returns-in-None : goal.returns-in-None
returns-in-None c =
    let a = c.args in
    ap of_page (sym c.in-None.is) ∙ range-read a.laid.table.now a.laid.sieve.now a.laid.query.components.now a.laid.query.values.now a.terms.components.now a.terms.values.now a.start.0
    a.end c.term_count-n.result c.term_count-n.ensures c.read-r.result c.if-n-to.false c.read-r.ensures

pub returns-in-Some : goal.returns-in-Some
returns-in-Some c =
    let a = c.args in
    ap of_page (sym c.in-Some.is) ∙ range-read a.laid.table.now a.laid.sieve.now a.laid.query.components.now a.laid.query.values.now a.terms.components.now a.terms.values.now a.start.0
    a.end c.term_count-n.result c.term_count-n.ensures c.read-r.result c.if-n-to.false c.read-r.ensures
