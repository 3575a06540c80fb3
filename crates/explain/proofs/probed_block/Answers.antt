-- `explain::probed_block`: the block of the turn that was taken.
use mathlib.Core.Path.{sym, ap}
use Rattle.explain.specs.Reasons.{probed_block}
use Rattle.explain.proofs.Fates.{probed-is}
use Rattle.explain.proofs.probed_block.Goals as goal

pub returns-in-None : goal.returns-in-None
returns-in-None c = let a = c.args in ap (probed_block a.block_offsets.now) (sym c.in-None.is)

pub returns-in-Some : goal.returns-in-Some
returns-in-Some c =
    let a = c.args in
    probed-is a.block_offsets.now a.turn c.in-Some.t _ c.in-Some.is c.start_at.ensures
