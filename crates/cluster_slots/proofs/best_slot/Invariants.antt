-- `cluster_slots::best_slot` meets its contract.
use mathlib.Core.Path.{◌≡◌}
use mathlib.Core.List.{foldl}
use lib.ListN.{drop}
use Rattle.cluster_slots.specs.Met.{better}
use Rattle.cluster_slots.proofs.best_slot.Given as goal

abbrev pub invariant-loop-slot : goal.invariant-loop-slot
invariant-loop-slot l = foldl (better l.sums) l.b (drop l.slot-index l.slots) ≡ foldl (better l.sums) l.initial.b l.slots
