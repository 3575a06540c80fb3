-- Worked cases of the page number.
use Rattle.std.specs.Prelude.{ℕ, ◌≡◌, refl, ◌⊎◌, List, [], ◌∷◌}
use Rattle.std.proofs.Common.{inl, inr}
use Rattle.documents.specs.Documents.{starting_at}
use Rattle.documents.specs.Checks.{offsets_hold_free}
use Rattle.page_number.specs.Answers.{page_number, in_numbers}

-- offsets and a start, with what they give: the number of a refusal on the left, a document's on the right
abbrev pub Gives : List ℕ → ℕ → ℕ ⊎ ℕ → Type 0
Gives offsets s answer = in_numbers (page_number offsets s) ≡ answer

-- documents 0 and 1 are blank and share the start of document 2
pub record PageCases : Type 0 where
  pub smallest : Gives (0 ∷ 0 ∷ 0 ∷ 5 ∷ 9 ∷ []) 0 (inr 0)
  pub last_document : Gives (0 ∷ 0 ∷ 0 ∷ 5 ∷ 9 ∷ []) 5 (inr 3)
  pub between : Gives (0 ∷ 0 ∷ 0 ∷ 5 ∷ 9 ∷ []) 3 (inl 15)
  pub last_offset_is_no_start : Gives (0 ∷ 0 ∷ 0 ∷ 5 ∷ 9 ∷ []) 9 (inl 15)
  pub no_documents : Gives (0 ∷ []) 0 (inl 15)
  pub no_offsets : Gives [] 0 (inl 6)
  pub first_not_zero : Gives (1 ∷ 5 ∷ []) 1 (inl 6)
  pub last_falls : Gives (0 ∷ 5 ∷ 4 ∷ []) 0 (inl 6)
  pub six_before_fifteen : Gives (0 ∷ 5 ∷ 4 ∷ []) 7 (inl 6)

pub page-cases : PageCases
unfolding page_number offsets_hold_free starting_at
page-cases = record {
  smallest = refl;
  last_document = refl;
  between = refl;
  last_offset_is_no_start = refl;
  no_documents = refl;
  no_offsets = refl;
  first_not_zero = refl;
  last_falls = refl;
  six_before_fifteen = refl;
}
