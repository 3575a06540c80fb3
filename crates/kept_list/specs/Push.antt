-- The refusals of a push, and what it leaves: document 01, "Pushing alone: 11, 12, 4".
use Rattle.refusal.specs.declared.Refusal.{Refusal}
use Rattle.std.specs.Prelude.{ℕ, Bool, not, ◌&&◌, List, [], ◌∷◌, leb, eqb, Result, Ok, Err}
use Rattle.std.specs.Float.Ieee.{is_nan}
use Rattle.refusal.specs.declared.Refusal.TheVariants.{NothingToKeep, WrongKeptList, BufferTooShort}
use Rattle.refusal.specs.First.{Test, ◌gives◌, first_of}
use Rattle.sequences.specs.Lists.{every}
use Rattle.kept_list.specs.declared.Scored.{Scored}
use Rattle.kept_list.specs.Keep.{in_order}
use Rattle.kept_list.specs.Entry.{better}
use Rattle.kept_list.specs.Lent.{Lent, entries, places, after, settled}

abbrev pub is_number : Scored → Bool
is_number e = not (is_nan e.score)

-- best first, and no NaN among the scores
abbrev pub sound : List Scored → Bool
sound es = in_order better es && every is_number es

-- a kept list in which refusal 12 finds no fault: no more than k entries, and no more than the buffers hold; sound
unfoldable pub well_kept : ℕ → Lent → Bool
well_kept k l = (leb l.size k && places l.size l) && sound (entries l)

abbrev pub tests : ℕ → Scored → Lent → List Test
tests k e l =
    (eqb k 0 gives NothingToKeep)
    ∷ (not (well_kept k l && is_number e) gives WrongKeptList)
    ∷ (not (places (after k l) l) gives BufferTooShort)
    ∷ []

unfoldable pub verdict_of : ℕ → Scored → Lent → Result (Unit {0}) Refusal
verdict_of k e l = first_of (tests k e l)

-- what a push gives back, and the list at its end
pub record Left : Type 0 where
  pub verdict : Result (Unit {0}) Refusal
  pub list : Lent

abbrev pub left : Result (Unit {0}) Refusal → Lent → Left
left v l = record { verdict = v; list = l }

-- what is done where the verdict lets it be done
abbrev pub if_accepted : Result (Unit {0}) Refusal → Lent → Lent → Lent
if_accepted (Ok _) done l = done
if_accepted (Err r) done l = l

unfoldable pub pushed : ℕ → Scored → Lent → Left
pushed k e l = left (verdict_of k e l) (if_accepted (verdict_of k e l) (settled k e l) l)
