-- `search_page::laid_rest`: adding what is left is adding all from the place on.
use native.Mathlib.Omega.{arith}
use mathlib.Core.Path.{refl, sym, ◌∙◌}
use Rattle.search_page.proofs.Laws.{laid_next, laid_end}
use Rattle.search_page.proofs.laid_rest.Goals as goal

pub loop-i-init : goal.loop-i-init
loop-i-init c = refl

pub loop-i-preserved : goal.loop-i-preserved
loop-i-preserved c =
    let a = c.args in
    let l = c.loop-i in
    l.invariant ∙ laid_next a.table.now a.components.now a.values.now l.i l.sum c.with_term-sum.result (omega arith) c.requires
    c.with_term-sum.ensures

pub returns : goal.returns
returns c =
    let a = c.args in
    let l = c.loop-i in sym (l.invariant ∙ laid_end a.table.now a.components.now a.values.now l.i l.sum (omega arith))
