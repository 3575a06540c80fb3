-- Each answer is that of the test that led to it.
use mathlib.Core.Path.{sym, ◌∙◌}
use Rattle.build_admission.proofs.Laws.{outside-list, outside-dimension}
use Rattle.build_admission.proofs.outside_limits.Goals as goal

pub returns-then-list_too_long : goal.returns-then-list_too_long
returns-then-list_too_long c = let a = c.args in outside-list a.dimension a.ids (sym c.list_too_long.ensures ∙ c.if-list_too_long.true)

pub returns : goal.returns
returns c = let a = c.args in outside-dimension a.dimension a.ids _ (sym c.list_too_long.ensures ∙ c.if-list_too_long.false) c.dimension_outside.ensures
