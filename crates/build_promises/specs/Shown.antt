-- What a caller of `merino_build` has, from the C function's equation and its number alone.
use Rattle.std.specs.Prelude.{ℕ, ◌≡◌}
use Rattle.refusal.specs.declared.Refusal.{Refusal}
use Rattle.refusal.specs.Refusals.{number_of}
use Rattle.build_meaning.specs.declared.BuiltSizes.{BuiltSizes}
use Rattle.build_meaning.specs.Built.{Input}
use Rattle.build_meaning.specs.Building.{Lent}
use Rattle.c_build.specs.Shown.{ShownBuilt}
use Rattle.build_promises.specs.Made.{Unmade}

-- what is shown: a number, and five sizes
abbrev pub number_shown : ShownBuilt → ℕ
number_shown x = x.answer.number

abbrev pub sizes_shown : ShownBuilt → BuiltSizes
sizes_shown x = record {
  postings = x.answer.postings_written;
  block_offsets = x.answer.block_offsets_written;
  summary_components = x.answer.summary_components_written;
  entries = x.answer.entries_written;
  summaries = x.answer.summaries_written;
}

-- any other number than 0 is that of a refusal: no sizes, and all that was lent is zero
pub record NotBuilt (g : Input) (lent : Lent) (x : ShownBuilt) : Type 0 where
  pub reason : Refusal
  pub number : number_shown x ≡ number_of reason
  pub sizes : sizes_shown x ≡ record { postings = 0; block_offsets = 0; summary_components = 0; entries = 0; summaries = 0 }
  pub refused : Unmade g lent reason x.lent
