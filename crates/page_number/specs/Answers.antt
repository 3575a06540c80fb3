-- What the page number is. Document 01, "Page number".
use Rattle.std.specs.Prelude.{ℕ, ◌≤◌, ◌<◌, not, ◌⊎◌, List, [], ◌∷◌, length, get_or, eqb, Result, Ok, Err}
use Rattle.std.proofs.Common.{inl, inr}
use Rattle.sequences.specs.Lists.{first_or}
use Rattle.number_types.specs.declared.DocumentId.{DocumentId}
use Rattle.refusal.specs.declared.Refusal.{Refusal}
use Rattle.refusal.specs.declared.Refusal.TheVariants.{WrongDocuments, NoSuchStart}
use Rattle.refusal.specs.Refusals.{number_of}
use Rattle.refusal.specs.First.{Test, ◌gives◌, first_of}
use Rattle.documents.specs.Documents.{starting_at}
use Rattle.documents.specs.Checks.{offsets_hold_free}

-- 6 (the last offset free), 15
abbrev pub page_tests : List ℕ → ℕ → List Test
page_tests offsets s = (not (offsets_hold_free offsets) gives WrongDocuments) ∷ (eqb (length (starting_at s offsets)) 0 gives NoSuchStart) ∷ []

abbrev pub page_answer : Result (Unit {0}) Refusal → ℕ → Result DocumentId Refusal
page_answer (Ok _) i = Ok (record { 0 = i })
page_answer (Err r) i = Err r

-- the smallest document whose start is asked for
unfoldable pub page_number : List ℕ → ℕ → Result DocumentId Refusal
page_number offsets s = page_answer (first_of (page_tests offsets s)) (first_or 0 (starting_at s offsets))

-- an answer in document 01's terms: the number of the refusal, or the document's
abbrev pub in_numbers : Result DocumentId Refusal → ℕ ⊎ ℕ
in_numbers (Err r) = inl (number_of r)
in_numbers (Ok i) = inr i.0

-- r parts the first n offsets into those below s and those not below it
pub record Found (offsets : List ℕ) (s n r : ℕ) : Type 0 where
  pub within : r ≤ n
  pub below : (k : ℕ) → k < r → get_or offsets k 0 < s
  pub above : (k : ℕ) → r ≤ k → k < n → s ≤ get_or offsets k 0
