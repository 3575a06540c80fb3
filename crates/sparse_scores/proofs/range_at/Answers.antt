-- `sparse_scores::range_at` meets its contract. Each return is a case of the definition.
use Rattle.sparse_scores.proofs.Walks.{spans-past, spans-other, spans-short, spans-here}
use Rattle.sparse_scores.proofs.range_at.Goals as goal

pub returns-then-summary_components-place : goal.returns-then-summary_components-place
returns-then-summary_components-place c = let a = c.args in spans-past a.summary_components.now a.component_offsets.now a.place a.c c.if-summary_components-place.true

pub returns-then-summary_components-place-2 : goal.returns-then-summary_components-place-2
returns-then-summary_components-place-2 c = let a = c.args in spans-other a.summary_components.now a.component_offsets.now a.place a.c c.if-summary_components-place.false c.if-summary_components-place-2.true

pub returns-then-component_offsets-next : goal.returns-then-component_offsets-next
returns-then-component_offsets-next c = let a = c.args in spans-short a.summary_components.now a.component_offsets.now a.place a.c c.if-summary_components-place.false c.if-summary_components-place-2.false c.if-component_offsets-next.true

pub returns : goal.returns
returns c =
    let a = c.args in spans-here a.summary_components.now a.component_offsets.now a.place a.c c.if-summary_components-place.false c.if-summary_components-place-2.false c.if-component_offsets-next.false
