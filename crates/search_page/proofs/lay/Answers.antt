-- `search_page::lay`: laying what is left is laying all.
use mathlib.Core.Path.{◌∙◌}
use mathlib.Core.Logic.{⊎_elim}
use borrow.Author.Rules.{rules}
use Rattle.search_page.proofs.Laws.{laying-next, laying-none, laying-short}
use Rattle.search_page.proofs.lay.Goals as goal

pub loop-c-init : goal.loop-c-init
loop-c-init c = search rules

pub loop-c-preserved : goal.loop-c-preserved
loop-c-preserved c = let l = c.loop-c in let s = c.in-Some.ensures.steps in laying-next l.table c.put.new.table c.in-Some.c.now c.in-Some.weight.now _ _ _ _ s.0 s.1 c.put.ensures ∙ l.invariant

pub returns : goal.returns
returns c = let l = c.loop-c in ⊎_elim (λ s. laying-none l.table _ _ s.1.0) (λ s. laying-short l.table _ _ s.1.0) c.in-None.ensures.steps ∙ l.invariant
