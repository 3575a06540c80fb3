-- What becomes of a posting in a search. Document 01, "Search".
use Rattle.std.specs.Prelude.{None, Some, Option, ℕ, ◌+◌, min, Bool, false, not, ◌&&◌, cond, List, [], ◌∷◌, length, get_or, eqb, leb, ltb, Float}
use Rattle.std.specs.Float.{binary32}
use Rattle.std.specs.Float.Ieee.{of_bits}
use Rattle.sequences.specs.Lists.{before}
use Rattle.search_probe.specs.declared.Answer.{Answer}
use Rattle.search_probe.specs.declared.Answer.TheVariants.{Refused, Stopped, Found}
use Rattle.search_probe.specs.Probing.{visited}
use Rattle.search_probe.specs.Probed.{Terms, Lends, Left, bytes_of, listed, probed}
use Rattle.explain.specs.declared.Turn.{Turn}
use Rattle.explain.specs.declared.Probed.{Probed}
use Rattle.explain.specs.declared.Fate.{Fate}
use Rattle.explain.specs.declared.Fate.TheVariants.{InNoBlock, NotReached, Skipped, VisitedBefore, Read}
use Rattle.explain.specs.Turns.{Seen, turn_seen}

-- a block holds a position: from its offset to below the next one, as far as there are postings
abbrev pub holds : List ℕ → ℕ → ℕ → ℕ → Bool
holds os n i b = leb (get_or os b 0) i && ltb i (min (get_or os (b + 1) 0) n)

-- the first turn whose block holds it: so many turns come before
unfoldable pub turn_of : List ℕ → ℕ → List ℕ → ℕ → ℕ → ℕ
turn_of os n order turns i = length (before (holds os n i) (listed order turns))

-- ---- once it is reached: passed over where its start is visited, else read
abbrev pub reached_fate : Answer → ℕ → List ℕ → Fate
reached_fate (Refused r) p visits = NotReached
reached_fate (Stopped r i) p visits = NotReached
reached_fate (Found n e s) p visits = cond (visited visits p) VisitedBefore Read

-- what becomes of it, with what is held then
pub record Fated : Type 0 where
  pub fate : Fate
  pub lent : Lends

abbrev pub fated : Fate → Lends → Fated
fated f l = record { fate = f; lent = l }

-- visited in the bytes that a search looks at: those past the term count do not matter
unfoldable pub fated_then : Terms → List ℕ → ℕ → Left → Fated
fated_then t ps i r = fated (reached_fate r.answer (get_or ps i 0) (bytes_of t r.lent.visits)) r.lent

-- the postings of its block before it have been probed
unfoldable pub fated_in : ℕ → Float → Terms → List ℕ → ℕ → Float → ℕ → Lends → Fated
fated_in k factor t ps first score i l = fated_then t ps i (probed k factor t ps (first ∷ i ∷ []) (score ∷ []) (listed [] 1) l)

-- ---- at its block's turn: the block is searched, or it is skipped, or nothing is taken any more
abbrev pub searched : Option Turn → Bool
searched None = false
searched (Some t) = not t.skipped

abbrev pub turn_fate : Option Turn → Fate
turn_fate None = NotReached
turn_fate (Some t) = Skipped t.score t.bar

abbrev pub probed_of : ℕ → Float → Probed
probed_of first score = record { first = first; score = score }

abbrev pub probed_block : List ℕ → Option Turn → Probed
probed_block os None = probed_of 0 (of_bits binary32 0)
probed_block os (Some t) = probed_of (get_or os t.block.0 0) t.score

unfoldable pub at_turn : ℕ → Float → Terms → List ℕ → List ℕ → ℕ → Seen → Fated
at_turn k factor t ps os i s = cond (searched s.turn) (fated_in k factor t ps (probed_block os s.turn).first (probed_block os s.turn).score i s.lent) (fated (turn_fate s.turn) s.lent)

-- a posting in no block of these turns has none
unfoldable pub fate_at : ℕ → Float → Terms → List ℕ → List ℕ → List Float → List ℕ → ℕ → ℕ → ℕ → Lends → Fated
fate_at k factor t ps os block_scores order turns i at l = cond (eqb at turns) (fated InNoBlock l) (at_turn k factor t ps os i (turn_seen k factor t ps os block_scores order at l))

unfoldable pub fate_of : ℕ → Float → Terms → List ℕ → List ℕ → List Float → List ℕ → ℕ → ℕ → Lends → Fated
fate_of k factor t ps os block_scores order turns i l = fate_at k factor t ps os block_scores order turns i (turn_of os (length ps) order turns i) l
