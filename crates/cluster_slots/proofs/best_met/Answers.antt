-- `cluster_slots::best_met` meets its contract.
use mathlib.Core.Path.{refl}
use lib.Ieee.{of_bits}
use Rattle.cluster_slots.proofs.best_met.Goals as goal

pub loop-key-init : goal.loop-key-init
unfolding of_bits
loop-key-init c = refl
