-- `search_page::terms`: going on through what is left is going on from the first place.
use mathlib.Core.Path.{◌≡◌, refl, ◌∙◌}
use native.Mathlib.Omega.{arith}
use Rattle.search_page.proofs.terms.Goals as goal

pub loop-k-init : goal.loop-k-init
loop-k-init c = refl

pub loop-k-preserved : goal.loop-k-preserved
loop-k-preserved c = let l = c.loop-k in l.invariant ∙ c.term-t.ensures

pub returns : goal.returns
returns c = let a = (c.args) in let l = c.loop-k in let z : l.k ≡ a.e = omega arith in rw z at l.invariant
