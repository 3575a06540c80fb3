-- What stands in the scratch buffers, how long they are, and what is left of them once they are cleared. The roles are said at
-- `ScratchLengths`.
use Rattle.std.specs.Prelude.{ℕ, List, length, Float}
use Rattle.clearing.specs.Zeros.{zeros, float_zeros}
use Rattle.scratch.specs.declared.ScratchLengths.{ScratchLengths}

pub record Scratches : Type 0 where
  pub order : List ℕ
  pub blocks : List ℕ
  pub sorted : List ℕ
  pub known : List ℕ
  pub taken : List ℕ
  pub counts : List ℕ
  pub starts : List ℕ
  pub slots : List ℕ
  pub weights : List Float
  pub sums : List Float
  pub keys : List ℕ

abbrev pub scratches : List ℕ → List ℕ → List ℕ → List ℕ → List ℕ → List ℕ → List ℕ → List ℕ → List Float → List Float → List ℕ → Scratches
scratches a b c d e f g h i j k = record { order = a; blocks = b; sorted = c; known = d; taken = e; counts = f; starts = g; slots = h; weights = i; sums = j; keys = k }

unfoldable pub scratch_lengths : Scratches → ScratchLengths
scratch_lengths s = record {
  order = length s.order;
  blocks = length s.blocks;
  sorted = length s.sorted;
  known = length s.known;
  taken = length s.taken;
  counts = length s.counts;
  starts = length s.starts;
  slots = length s.slots;
  weights = length s.weights;
  sums = length s.sums;
  keys = length s.keys;
}

unfoldable pub cleared_scratch : Scratches → Scratches
cleared_scratch s = record {
  order = zeros s.order;
  blocks = zeros s.blocks;
  sorted = zeros s.sorted;
  known = zeros s.known;
  taken = zeros s.taken;
  counts = zeros s.counts;
  starts = zeros s.starts;
  slots = zeros s.slots;
  weights = float_zeros s.weights;
  sums = float_zeros s.sums;
  keys = zeros s.keys;
}
