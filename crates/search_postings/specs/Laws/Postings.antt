-- For laws on Postings: what a scored posting leaves.
use Rattle.std.specs.Prelude.{ℕ, set, Float}
use Rattle.kept_list.specs.Entry.{scored}
use Rattle.kept_list.specs.Lent.{settled}
use Rattle.search_postings.specs.Postings.{Lends, lends}

-- its entry settled, and its start marked
abbrev pub kept_found : ℕ → ℕ → ℕ → Float → Lends → Lends
kept_found k p start x l = lends (settled k (scored p x) l.kept) (set l.visits start 1)
