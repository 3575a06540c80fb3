-- What a push onto a slice of entries answers: the new length, or the reason why it is refused.
use Rattle.refusal.specs.declared.Refusal.{Refusal}
use Rattle.std.specs.Prelude.{ℕ, suc, min, Bool, true, false, not, ◌&&◌, ◌⊎◌, [], ◌∷◌, ltb, eqb, Result, Ok, Err}
use Rattle.std.proofs.Common.{inl, inr}
use Rattle.refusal.specs.declared.Refusal.TheVariants.{NothingToKeep, WrongKeptList, BufferTooShort}
use Rattle.refusal.specs.Refusals.{number_of}
use Rattle.refusal.specs.First.{◌gives◌, first_of}
use Rattle.kept_list.specs.declared.Scored.{Scored}
use Rattle.kept_list.specs.Push.{is_number}

-- the verdict on a push of e onto n entries in a slice with so much room, where it is known whether they are well kept
unfoldable pub verdict_by : ℕ → ℕ → ℕ → Bool → Scored → Result (Unit {0}) Refusal
verdict_by k n room sound e = first_of ((eqb k 0 gives NothingToKeep) ∷ (not (sound && is_number e) gives WrongKeptList) ∷ (ltb room (min (suc n) k) gives BufferTooShort) ∷ [])

abbrev pub is_refused : Result (Unit {0}) Refusal → Bool
is_refused (Ok _) = false
is_refused (Err r) = true

-- the verdict that an answer gives, and how many entries there are after it where there were n before
abbrev pub verdict_in : Result ℕ Refusal → Result (Unit {0}) Refusal
verdict_in (Ok n) = Ok tt
verdict_in (Err r) = Err r

abbrev pub length_in : ℕ → Result ℕ Refusal → ℕ
length_in n (Ok m) = m
length_in n (Err r) = n

-- an answer in document 01's terms: the number of the refusal, or how many entries are kept
abbrev pub in_numbers : Result ℕ Refusal → ℕ ⊎ ℕ
in_numbers (Err r) = inl (number_of r)
in_numbers (Ok n) = inr n
