-- The loop keeps: what has been seen and what is left come to the whole.
use mathlib.Core.Path.{refl, sym, ap, ◌∙◌}
use native.Mathlib.Omega.{arith}
use mathlib.Core.Bool.{◌&&◌}
use mathlib.Core.List.{map}
use Rattle.sequences.specs.Laws.Lists.{map_at}
use lib.ListN.{length, length-map}
use lib.Dec.{leb}
use Rattle.replay_expected.proofs.Laws.{held-step, held-end}
use Rattle.replay_expected.proofs.same.Goals as goal

pub loop-i-init : goal.loop-i-init
loop-i-init g c = (omega arith, refl)

pub loop-i-preserved : goal.loop-i-preserved
loop-i-preserved g c =
    let key = g.N.Numbered.number in
    let l = c.loop-i in
    let a = c.args in (
      omega arith,
      held-step (map key a.numbers.now) a.expected.now a.rest l.i l.same c.number.result c.at.result (omega (arith, length-map a.numbers.now key)) (c.number.ensures ∙ ap key c.index-numbers-i.is ∙ sym (map_at key a.numbers.now l.i _ 0 (omega arith))) c.at.ensures l.invariant.1,
    )

pub returns : goal.returns
returns g c = let key = g.N.Numbered.number in let l = c.loop-i in let a = c.args in ap (λ n. l.same && leb (length a.expected.now) n) (sym (length-map a.numbers.now key)) ∙ held-end (map key a.numbers.now) a.expected.now a.rest l.i l.same (omega (arith, length-map a.numbers.now key)) l.invariant.1
