-- Its constant is the limit.
use Rattle.std.proofs.Common.{rules}
use Rattle.packing.specs.Packing.{start_limit}
use Rattle.packing.proofs.PackedPosting.start_fits.Goals as goal

pub returns : goal.returns
unfolding start_limit
returns c = search rules
