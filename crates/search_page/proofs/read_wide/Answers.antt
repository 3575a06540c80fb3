-- `search_page::read_wide`: 14 where the terms don't hold; else the last component says which way is taken.
use mathlib.Core.Path.{sym, ◌∙◌}
use Rattle.documents.specs.Laws.Documents.{slices-even as holds-even}
use Rattle.search_page.proofs.Laws.{breaks-wide, reads-laid-wide, reads-wide}
use Rattle.search_page.proofs.read_wide.Goals as goal

pub returns-then-not-slices_hold : goal.returns-then-not-slices_hold
returns-then-not-slices_hold c =
    let a = c.args in
    breaks-wide a.laid.table.now a.laid.sieve.now a.laid.query.components.now a.laid.query.values.now a.components.now a.values.now
    (sym c.slices_hold.ensures ∙ c.if-not-slices_hold.true)

pub laid_sum-score-requires : goal.laid_sum-score-requires
laid_sum-score-requires c =
    let a = c.args in holds-even a.components.now a.values.now (sym c.slices_hold.ensures ∙ c.if-not-slices_hold.false)

pub returns-then-fits_table : goal.returns-then-fits_table
returns-then-fits_table c =
    let a = c.args in
    reads-laid-wide a.laid.table.now a.laid.sieve.now a.laid.query.components.now a.laid.query.values.now a.components.now a.values.now
    (sym c.slices_hold.ensures ∙ c.if-not-slices_hold.false) (sym c.fits_table.ensures ∙ c.if-fits_table.true) c.laid_sum-score.result
    c.laid_sum-score.ensures

pub walk-score-requires : goal.walk-score-requires
walk-score-requires c =
    let a = c.args in holds-even a.components.now a.values.now (sym c.slices_hold.ensures ∙ c.if-not-slices_hold.false)

pub returns : goal.returns
returns c =
    let a = c.args in
    reads-wide a.laid.table.now a.laid.sieve.now a.laid.query.components.now a.laid.query.values.now a.components.now a.values.now
    (sym c.slices_hold.ensures ∙ c.if-not-slices_hold.false) (sym c.fits_table.ensures ∙ c.if-fits_table.false) c.walk-score.result
    c.walk-score.ensures
