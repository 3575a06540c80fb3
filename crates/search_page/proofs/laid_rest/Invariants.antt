-- `search_page::laid_rest`: adding what is left is adding all from the place on.
use mathlib.Core.Path.{◌≡◌}
use Rattle.search_page.proofs.Laws.{laid_from}
use Rattle.search_page.proofs.laid_rest.Given as goal

abbrev pub invariant-loop-i : goal.invariant-loop-i
invariant-loop-i l = laid_from l.table l.components l.values l.from l.start ≡ laid_from l.table l.components l.values l.i l.sum
