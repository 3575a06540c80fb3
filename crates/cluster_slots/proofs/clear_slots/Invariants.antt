-- `cluster_slots::clear_slots` meets its contract.
use mathlib.Core.Path.{◌≡◌}
use mathlib.Core.List.{foldl}
use lib.ListN.{drop}
use Rattle.cluster_slots.specs.Met.{clear_at}
use Rattle.cluster_slots.proofs.clear_slots.Given as goal

abbrev pub invariant-loop-slot : goal.invariant-loop-slot
invariant-loop-slot l = foldl clear_at l.sums (drop l.slot-index l.slots) ≡ foldl clear_at l.initial.sums l.slots
