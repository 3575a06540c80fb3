-- A number that is among those of a list.
use Rattle.std.specs.Prelude.{ℕ, ◌≡◌, true, List}
use Rattle.sequences.specs.Lists.{among}

abbrev pub Among : List ℕ → ℕ → Type 0
Among l x = among x l ≡ true
