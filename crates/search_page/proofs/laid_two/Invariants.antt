-- `search_page::laid_two`: for each page, adding what is left is adding all.
use mathlib.Core.Path.{◌≡◌}
use Rattle.search_page.proofs.Laws.{laid_from}
use Rattle.search_page.proofs.laid_two.Given as goal

abbrev pub invariant-loop-i : goal.invariant-loop-i
invariant-loop-i l =
    (laid_from l.table l.components l.values 0 l.initial.a ≡ laid_from l.table l.components l.values l.i l.a) × (laid_from l.table l.others l.other_values 0 l.initial.b ≡ laid_from l.table l.others l.other_values l.i l.b)
