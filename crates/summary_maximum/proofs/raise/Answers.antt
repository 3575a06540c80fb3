--
use mathlib.Core.Path.{sym, ap, ◌∙◌}
use mathlib.Core.Bool.{cond}
use lib.Ieee.{lt, div, of_bits}
use lib.ListN.{set}
use Rattle.summary_maximum.proofs.raise.Goals as goal

pub returns-then-at-x : goal.returns-then-at-x
unfolding div of_bits
returns-then-at-x c =
    let a = c.args in c.put.ensures ∙ sym (ap (λ t. cond t (set a.xs.now a.i a.x) a.xs.now) (ap (λ z. lt z a.x) (sym c.at.ensures) ∙ c.if-at-x.true))

pub returns-else-at-x : goal.returns-else-at-x
unfolding div of_bits
returns-else-at-x c = let a = c.args in sym (ap (λ t. cond t (set a.xs.now a.i a.x) a.xs.now) (ap (λ z. lt z a.x) (sym c.at.ensures) ∙ c.if-at-x.false))
