-- `search_page::fits_table`: no component, or the last one.
use Rattle.search_page.proofs.Laws.{fits-none, fits_last}
use Rattle.search_page.proofs.fits_table.Goals as goal

pub returns-then-n-eq0 : goal.returns-then-n-eq0
returns-then-n-eq0 c =
    fits-none c.args.components.now c.if-n-eq0.true

pub returns : goal.returns
returns c =
    fits_last c.args.components.now c.if-n-eq0.false
