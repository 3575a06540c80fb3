-- What is seen of a search from its beginning, without what is then held.
use Rattle.std.specs.Prelude.{Option}
use Prim.Native.Nat.{ℕ}
use mathlib.Core.Path.{◌≡◌, ap}
use mathlib.Core.List.{List}
use lib.Ieee.{Float}
use Rattle.search_probe.specs.Probed.{Terms, Lends}
use Rattle.explain.specs.declared.Turn.{Turn}
use Rattle.explain.specs.declared.Fate.{Fate}
use Rattle.explain.specs.Turns.{seen, turn_seen}
use Rattle.explain.specs.Reasons.{fated, fate_of}
use Rattle.explain_small.specs.Short.{fresh, turn_of, turn_short, fate_in, fate_short}

module _ (k : ℕ) (f : Float) (t : Terms) (ps os : List ℕ) (block_scores : List Float) (order : List ℕ) where
  pub turn-short : (at : ℕ) (r : Option Turn) (l : Lends) → seen r l ≡ turn_seen k f t ps os block_scores order at fresh → r ≡ turn_short k f t ps os block_scores order at
  unfolding turn_short
  turn-short at r l h = ap turn_of h

  pub fate-short : (turns i : ℕ) (r : Fate) (l : Lends) → fated r l ≡ fate_of k f t ps os block_scores order turns i fresh → r ≡ fate_short k f t ps os block_scores order turns i
  unfolding fate_short
  fate-short turns i r l h = ap fate_in h
