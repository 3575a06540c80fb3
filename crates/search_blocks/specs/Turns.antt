-- The blocks' turns over a kept list in lent memory, as the program goes. Document 01, "Search".
use Rattle.std.specs.Prelude.{ℕ, ◌-◌, min, Bool, cond, List, [], ◌∷◌, map, length, get_or, Float, Ok}
use Rattle.sequences.specs.Lists.{from}
use Rattle.search_steps.specs.Skips.{skips_at}
pub use Rattle.search_held.specs.Blocks.{worst_held}
unfoldable pub use Rattle.search_held.specs.Blocks.{block_at}
use Rattle.search_held.specs.declared.Block.{Block}
use Rattle.search_postings.specs.declared.Counts.{Counts}
use Rattle.search_postings.specs.declared.RangeReading.{RangeReading}
use Rattle.search_postings.specs.Outcomes.{Place}
use Rattle.search_postings.specs.Postings.{Lends, Turned, turned, one_more, counts, next, held_probe}

-- the blocks of so many turns: in the order given as far as it goes, and then in number order
abbrev pub listed : List ℕ → ℕ → List ℕ
listed order n = map (λ i. get_or order i i) (from 0 n)

-- ---- a block's turn
unfoldable pub held_skips : ℕ → Float → Float → ℕ → List Float → Bool
held_skips k factor score n xs = skips_at k factor score n (worst_held n xs)

abbrev pub places_of : List ℕ → Block → List Place
places_of ps b = from b.start (min b.end (length ps) - b.start)

unfoldable pub held_turn : ℕ → Float → (ℕ → RangeReading) → List ℕ → Block → Counts → Lends → Turned
held_turn k factor read ps b c l =
    cond (held_skips k factor b.score l.kept.size l.kept.scores) (turned (Ok (counts c.evaluated (one_more c.skipped))) l) (held_probe k read ps (places_of ps b) c l)

-- ---- all blocks, in the order given
unfoldable pub held_sweep : ℕ → Float → (ℕ → RangeReading) → List ℕ → List ℕ → List Float → List ℕ → Counts → Lends → Turned
held_sweep k factor read ps os xs [] c l = turned (Ok c) l
held_sweep k factor read ps os xs (b ∷ bs) c l = next (held_turn k factor read ps (block_at os xs b) c l) (held_sweep k factor read ps os xs bs)
