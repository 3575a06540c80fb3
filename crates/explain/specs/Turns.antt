-- A block's turn in a search: what is held when it comes, and what the skip test says then. Document 01, "Search".
use Rattle.std.specs.Prelude.{None, Some, Option, ℕ, List, get_or, eqb, Float}
use Rattle.std.specs.Float.{nan, binary32}
use Rattle.std.specs.Float.Ieee.{mul}
use Rattle.search_steps.specs.Skips.{skips_at}
use Rattle.search_held.specs.Blocks.{worst_held}
use Rattle.search_probe.specs.declared.Answer.{Answer}
use Rattle.search_probe.specs.declared.Answer.TheVariants.{Refused, Stopped, Found}
use Rattle.search_probe.specs.Probed.{Terms, Lends, Left, listed, probed}
use Rattle.explain.specs.declared.Turn.{Turn}

-- the turn of a block, where n are kept with these scores
abbrev pub turn_of_block : ℕ → Float → ℕ → Float → ℕ → Float → Turn
turn_of_block k factor b score n worst = record { block = record { 0 = b }; full = eqb n k; score = score; bar = mul binary32 factor worst; skipped = skips_at k factor score n worst }

-- the turn with this number
unfoldable pub turn_at : ℕ → Float → List Float → List ℕ → ℕ → ℕ → List Float → Turn
turn_at k factor block_scores order at n scores = turn_of_block k factor (get_or order at at) (get_or block_scores (get_or order at at) nan) n (worst_held n scores)

-- it is taken where nothing stopped those before it
abbrev pub seen_by : Answer → Turn → Option Turn
seen_by (Refused r) t = None
seen_by (Stopped r i) t = None
seen_by (Found n e s) t = Some t

-- the turn, with what is held when it comes
pub record Seen : Type 0 where
  pub turn : Option Turn
  pub lent : Lends

abbrev pub seen : Option Turn → Lends → Seen
seen t l = record { turn = t; lent = l }

unfoldable pub seen_then : ℕ → Float → List Float → List ℕ → ℕ → Left → Seen
seen_then k factor block_scores order at r = seen (seen_by r.answer (turn_at k factor block_scores order at r.lent.kept.size r.lent.kept.scores)) r.lent

-- what is held when a turn comes is what the turns before it leave
unfoldable pub turn_seen : ℕ → Float → Terms → List ℕ → List ℕ → List Float → List ℕ → ℕ → Lends → Seen
turn_seen k factor t ps os block_scores order at l = seen_then k factor block_scores order at (probed k factor t ps os block_scores (listed order at) l)
