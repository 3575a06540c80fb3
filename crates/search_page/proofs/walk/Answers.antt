-- `search_page::walk`: four terms at a time, and then the rest.
use mathlib.Core.Path.{◌≡◌, refl, sym, ap, ◌∙◌}
use Prim.Native.Nat.{◌+◌, ◌*◌, ◌/◌}
use lib.ListN.{length}
use Rattle.search_page.specs.declared.Sum.{Sum}
use Rattle.search_page.proofs.Laws.{through-end}
use native.Mathlib.Omega.{arith}
use Rattle.search_page.proofs.walk.Goals as goal

pub loop-b-init : goal.loop-b-init
loop-b-init c = refl

pub loop-b-preserved : goal.loop-b-preserved
loop-b-preserved c = let l = c.loop-b in let z : l.b * 4 + 4 ≡ (l.b + 1) * 4 = omega arith in rw z at (l.invariant ∙ c.four-s.ensures)

pub returns : goal.returns
returns c =
    let a = c.args in
    let l = c.loop-b in
    let t = c.terms-s in
    let z : l.b ≡ length a.components.now / 4 = omega arith in
    sym (ap (λ (s : Sum). s.total) (rw z at l.invariant ∙ t.ensures ∙ through-end a.sieve.now a.query.components.now a.query.values.now a.components.now a.values.now t.result (omega arith)))
