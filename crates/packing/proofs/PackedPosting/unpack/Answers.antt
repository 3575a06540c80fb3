use Rattle.std.proofs.Common.{rules}
use Rattle.packing.specs.Packing.{start_of, length_of}
use Rattle.packing.proofs.PackedPosting.unpack.Goals as goal

pub returns : goal.returns
unfolding start_of length_of
returns c = search rules
