-- What is seen of a short search: from its beginning, in 16 places for the kept list and 64 visit bytes.
use Rattle.std.specs.Prelude.{Option, ℕ, List, replicate, Float}
use Rattle.std.specs.Float.{binary32}
use Rattle.std.specs.Float.Ieee.{of_bits}
use Rattle.kept_list.specs.Lent.{lent}
use Rattle.search_probe.specs.Probed.{Terms, Lends, lends}
use Rattle.explain.specs.declared.Turn.{Turn}
use Rattle.explain.specs.declared.Fate.{Fate}
use Rattle.explain.specs.Turns.{Seen, turn_seen}
use Rattle.explain.specs.Reasons.{Fated, fate_of}

-- nothing is kept, and no start is visited
abbrev pub fresh : Lends
fresh = lends (lent 0 (replicate 16 0) (replicate 16 (of_bits binary32 0))) (replicate 64 0)

abbrev pub turn_of : Seen → Option Turn
turn_of s = s.turn

unfoldable pub turn_short : ℕ → Float → Terms → List ℕ → List ℕ → List Float → List ℕ → ℕ → Option Turn
turn_short k factor t ps os block_scores order at = turn_of (turn_seen k factor t ps os block_scores order at fresh)

abbrev pub fate_in : Fated → Fate
fate_in f = f.fate

unfoldable pub fate_short : ℕ → Float → Terms → List ℕ → List ℕ → List Float → List ℕ → ℕ → ℕ → Fate
fate_short k factor t ps os block_scores order turns i = fate_in (fate_of k factor t ps os block_scores order turns i fresh)
