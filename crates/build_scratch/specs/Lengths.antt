-- Lengths as a caller sees them: in u64, so that one that none can hold is shown as the greatest.
use Rattle.std.specs.Prelude.{ℕ, min}
use Rattle.scratch.specs.declared.ScratchLengths.{ScratchLengths}

abbrev pub capped : ℕ → ℕ
capped n = min n 18446744073709551615

unfoldable pub shown : ScratchLengths → ScratchLengths
shown s = record {
  order = capped s.order;
  blocks = capped s.blocks;
  sorted = capped s.sorted;
  known = capped s.known;
  taken = capped s.taken;
  counts = capped s.counts;
  starts = capped s.starts;
  slots = capped s.slots;
  weights = capped s.weights;
  sums = capped s.sums;
  keys = capped s.keys;
}
