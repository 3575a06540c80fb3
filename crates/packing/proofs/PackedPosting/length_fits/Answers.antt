-- Its constant is the limit.
use Rattle.std.proofs.Common.{rules}
use Rattle.packing.specs.Packing.{length_limit}
use Rattle.packing.proofs.PackedPosting.length_fits.Goals as goal

pub returns : goal.returns
unfolding length_limit
returns c = search rules
