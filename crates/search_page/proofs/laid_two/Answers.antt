-- `search_page::laid_two`: for each page, adding what is left is adding all.
use mathlib.Core.Path.{◌≡◌, refl, sym, ◌∙◌}
use native.Mathlib.Omega.{arith}
use Rattle.search_page.proofs.Laws.{laid_next}
use Rattle.search_page.proofs.laid_two.Goals as goal

pub loop-i-init : goal.loop-i-init
loop-i-init c = (refl, refl)

pub loop-i-preserved : goal.loop-i-preserved
loop-i-preserved c =
    let a = c.args in
    let l = c.loop-i in
    let m = c.min-n.ensures in (
      l.invariant.0 ∙ laid_next a.table.now a.components.now a.values.now l.i l.a c.with_term-a.result (omega (arith, m)) c.requires.components_len c.with_term-a.ensures,
      l.invariant.1 ∙ laid_next a.table.now a.others.now a.other_values.now l.i l.b c.with_term-b.result (omega (arith, m)) c.requires.others_len c.with_term-b.ensures,
    )

pub returns : goal.returns
returns c =
    let l = c.loop-i in
    let z : l.i ≡ c.min-n.result = omega arith in
    record {
      one = c.laid_rest-one.ensures ∙ sym (rw z at l.invariant.0);
      two = c.laid_rest-two.ensures ∙ sym (rw z at l.invariant.1);
    }
