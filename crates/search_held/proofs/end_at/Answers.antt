-- `search_held::end_at`: past the end there is 0.
use mathlib.Core.Path.{sym}
use lib.ListN.{get_or-eq_default}
use native.Mathlib.Omega.{arith}
use Rattle.search_held.proofs.end_at.Goals as goal

pub returns-else-at-block_offsets : goal.returns-else-at-block_offsets
returns-else-at-block_offsets c = sym (get_or-eq_default c.args.block_offsets.now 0 (omega arith))
