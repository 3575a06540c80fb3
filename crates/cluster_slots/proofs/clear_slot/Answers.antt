-- `cluster_slots::clear_slot` meets its contract.
use lib.Seq.{set_out}
use lib.Ieee.{of_bits}
use mathlib.Core.Path.{refl, sym}
use Rattle.cluster_slots.proofs.clear_slot.Goals as goal

pub returns-then-s-sums : goal.returns-then-s-sums
unfolding of_bits
returns-then-s-sums c = refl

pub returns-else-s-sums : goal.returns-else-s-sums
returns-else-s-sums c = sym (set_out c.args.sums.now c.args.slot.0 _ c.if-s-sums.false)
