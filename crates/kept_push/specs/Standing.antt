-- Neighbours in a kept list, some of them at a time.
use Rattle.std.specs.Prelude.{ℕ, zero, suc, ◌-◌, ◌<◌, ◌≡◌, Bool, true, not, ◌&&◌, List, get_or, T, Float}
use Rattle.std.specs.Float.{nan, binary32}
use Rattle.std.specs.Float.Ieee.{fits, lt}
use Rattle.kept_list.specs.Entry.{better}
use Rattle.kept_list.specs.Lent.{entry_at}

-- each of n places from i on passes
abbrev pub each_from : (ℕ → Bool) → ℕ → ℕ → Bool
each_from p i zero = true
each_from p i (suc n) = p i && each_from p (suc i) n

-- the entry at a place may stand right below the one above it
abbrev pub stands : List ℕ → List Float → ℕ → Bool
stands ps xs i = not (better (entry_at i ps xs) (entry_at (i - 1) ps xs))

-- the score at a place is below the one above it
abbrev pub falls : List Float → ℕ → Bool
falls xs i = lt (get_or xs i nan) (get_or xs (i - 1) nan)

-- what a look at the scores tells, and that they are values of the format where there is one to look at
pub record Fallen (from to : ℕ) (xs : List Float) (r : Bool) : Type 0 where
  pub answer : r ≡ each_from (falls xs) from (to - from)
  pub fit : from < to → (k : ℕ) → T (fits binary32 (get_or xs k nan))
