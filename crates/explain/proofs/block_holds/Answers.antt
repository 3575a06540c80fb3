-- `explain::block_holds`: from its offset to below the next.
use Rattle.explain.proofs.Turns.{holds-is}
use Rattle.explain.proofs.block_holds.Goals as goal

pub returns : goal.returns
returns c = let a = c.args in holds-is a.block_offsets.now a.count a.position a.block.0 _ _ _ c.start_at-first.ensures c.end_at.ensures c.min-end.ensures
