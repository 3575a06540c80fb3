-- The worst kept score, and what a turn needs to know of its block. Document 01, "Search".
use Rattle.std.specs.Prelude.{ℕ, ◌+◌, ◌-◌, cond, List, get_or, eqb, Float}
use Rattle.std.specs.Float.{nan}
use Rattle.search_held.specs.declared.Block.{Block}

-- the last of n kept scores; a NaN where nothing is kept
abbrev pub worst_held : ℕ → List Float → Float
worst_held n xs = cond (eqb n 0) nan (get_or xs (n - 1) nan)

-- the block of a number: its score, and its postings from its offset to below the next one
unfoldable pub block_at : List ℕ → List Float → ℕ → Block
block_at os xs b = record { score = get_or xs b nan; start = get_or os b 0; end = get_or os (b + 1) 0 }
