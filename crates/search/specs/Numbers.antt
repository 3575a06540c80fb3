-- That no score which a search leaves is a NaN, neither of the blocks' nor of the kept ones.
use Rattle.std.specs.Prelude.{ℕ, Bool, true, not, ◌&&◌, List, take, Float}
use Rattle.std.specs.Float.Ieee.{is_nan}
use Rattle.sequences.specs.Lists.{every}
use Rattle.kept_list.specs.Lent.{Lent, entries}
use Rattle.kept_list.specs.Push.{is_number}
use Rattle.search_probe.specs.declared.Answer.{Answer}
use Rattle.search_probe.specs.declared.Answer.TheVariants.{Refused, Stopped, Found}

abbrev pub numbers : List Float → Bool
numbers xs = every (λ x. not (is_nan x)) xs

-- the scores of so many blocks, in front of their buffer, and those of the kept list: numbers all, unless the search was refused
abbrev pub numbers_left : Answer → ℕ → List Float → Lent → Bool
numbers_left (Refused r) n xs l = true
numbers_left (Stopped r i) n xs l = numbers (take n xs) && every is_number (entries l)
numbers_left (Found m e s) n xs l = numbers (take n xs) && every is_number (entries l)
