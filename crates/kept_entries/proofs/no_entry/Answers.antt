use lib.Ieee.{of_bits, div}
use Rattle.kept_entries.proofs.no_entry.Goals as goal

pub returns : goal.returns
unfolding of_bits div
returns c = c.new.ensures
