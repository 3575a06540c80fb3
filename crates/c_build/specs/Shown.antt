-- What a build shows to C: its answer in numbers, and the lent memory as it then lies.
use Rattle.std.specs.Prelude.{ℕ}
use Rattle.build_meaning.specs.Building.{Lent, Left, InNumbers, numbers, in_numbers}

pub record ShownBuilt : Type 0 where
  pub answer : InNumbers
  pub lent : Lent

abbrev pub shown_built : ℕ → ℕ → ℕ → ℕ → ℕ → ℕ → Lent → ShownBuilt
shown_built n p o c e s l = record { answer = numbers n p o c e s; lent = l }

abbrev pub seen_built : Left → ShownBuilt
seen_built l = record { answer = in_numbers l.answer; lent = l.lent }
