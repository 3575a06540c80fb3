-- Room for k entries in two lent slices, and pushes one after another.
use Rattle.std.specs.Prelude.{ℕ, ◌≤◌, List, [], ◌∷◌, length}
use Rattle.kept_list.specs.declared.Scored.{Scored}
use Rattle.kept_list.specs.Lent.{Lent, settled}

-- ---- room for k
pub record RoomFor (k : ℕ) (l : Lent) : Type 0 where
  pub few : l.size ≤ k
  pub packed_places : k ≤ length l.packed
  pub score_places : k ≤ length l.scores

abbrev pub settle_all : ℕ → Lent → List Scored → Lent
settle_all k l [] = l
settle_all k l (p ∷ ps) = settle_all k (settled k p l) ps
