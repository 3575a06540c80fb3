-- `search_checks::count_few_falls` meets its contract. What is counted and what is left to count make the whole.
use lib.Dec.{leb}
use Rattle.sequences.specs.Laws.Lists.{byte_small}
use Rattle.search_checks.proofs.Loops.{byte-fall, falls-step, falls-end}
use Prim.Native.Nat.{◌-◌}
use native.Mathlib.Omega.{arith}
use mathlib.Core.Path.{◌∙◌}
use lib.ListN.{get_or}
use Rattle.search_checks.proofs.count_few_falls.Goals as goal

pub loop-i-init : goal.loop-i-init
loop-i-init c = (omega arith, omega arith)

pub overflow_add-count : goal.overflow_add-count
overflow_add-count c = let l = c.loop-i in let summary-ids = c.args.summary_ids.now in let small = byte_small (leb (get_or summary-ids l.i 0) (get_or summary-ids (l.i - 1) 0)) in omega arith

pub loop-i-preserved : goal.loop-i-preserved
loop-i-preserved c = let l = c.loop-i in let summary-ids = c.args.summary_ids.now in let small = byte_small (leb (get_or summary-ids l.i 0) (get_or summary-ids (l.i - 1) 0)) in (
  omega arith,
  falls-step summary-ids l.count l.i (omega arith) _ (omega arith) (byte-fall (get_or summary-ids (l.i - 1) 0) (get_or summary-ids l.i 0))
      ∙ l.invariant.1,
)

pub returns : goal.returns
returns c = let l = c.loop-i in falls-end _ l.count l.i (omega arith) _ (omega arith) l.invariant.1
