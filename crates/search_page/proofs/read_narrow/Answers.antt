-- `search_page::read_narrow`: by the table where it has a place for each component, else 14 where the terms don't hold or the sum through the
-- sieve.
use mathlib.Core.Path.{sym, ◌∙◌}
use Rattle.documents.specs.Laws.Documents.{slices-even as holds-even}
use Rattle.search_page.proofs.Laws.{reads-laid, reads as reads-law, breaks, below-even}
use Rattle.search_page.proofs.read_narrow.Goals as goal

pub laid_sum-score-requires : goal.laid_sum-score-requires
laid_sum-score-requires c =
    let a = c.args in below-even a.components.now a.values.now (sym c.slices_hold_below.ensures ∙ c.if-slices_hold_below.true)

pub returns-then-slices_hold_below : goal.returns-then-slices_hold_below
returns-then-slices_hold_below c =
    let a = c.args in
    reads-laid a.laid.table.now a.laid.sieve.now a.laid.query.components.now a.laid.query.values.now a.components.now a.values.now
    (sym c.slices_hold_below.ensures ∙ c.if-slices_hold_below.true) c.laid_sum-score.result c.laid_sum-score.ensures

pub walk-score-requires : goal.walk-score-requires
walk-score-requires c =
    let a = c.args in holds-even a.components.now a.values.now (sym c.slices_hold.ensures ∙ c.if-slices_hold.true)

pub returns-then-slices_hold : goal.returns-then-slices_hold
returns-then-slices_hold c =
    let a = c.args in
    reads-law a.laid.table.now a.laid.sieve.now a.laid.query.components.now a.laid.query.values.now a.components.now a.values.now
    (sym c.slices_hold_below.ensures ∙ c.if-slices_hold_below.false) (sym c.slices_hold.ensures ∙ c.if-slices_hold.true) c.walk-score.result
    c.walk-score.ensures

pub returns : goal.returns
returns c =
    let a = c.args in
    breaks a.laid.table.now a.laid.sieve.now a.laid.query.components.now a.laid.query.values.now a.components.now a.values.now
    (sym c.slices_hold_below.ensures ∙ c.if-slices_hold_below.false) (sym c.slices_hold.ensures ∙ c.if-slices_hold.false)
