-- What the place found for an entry has to be: from there it goes up to what a push gives.
use Rattle.std.specs.Prelude.{ℕ, ◌<◌, ◌≡◌, Option, Some, None, length}
use Rattle.kept_list.specs.declared.Scored.{Scored}
use Rattle.kept_list.specs.Lent.{Lent, lent, inserted, settled}

pub record Starts (k : ℕ) (e : Scored) (l : Lent) (at : ℕ) : Type 0 where
  pub in-packed : at < length l.packed
  pub in-scores : at < length l.scores
  pub gives : inserted e (lent at l.packed l.scores) ≡ settled k e l

abbrev pub Placed : ℕ → Scored → Lent → Option ℕ → Type 0
Placed k e l (Some at) = Starts k e l at
Placed k e l None = l ≡ settled k e l
