-- `copy` lays the ids in front of the order: there is room for all.
use mathlib.Core.Path.{ap, ◌∙◌}
use mathlib.Core.List.{◌++◌}
use lib.ListN.{length, drop}
use lib.Seq.{take_all}
use Rattle.build_blocks.proofs.copy.Goals as goal

pub returns : goal.returns
returns c = let a = c.args in c.copy.ensures ∙ ap (λ l. l ++ drop (length a.ids.now) a.order.now) (take_all (length a.order.now) a.ids.now c.requires)
