-- Worked cases of packing beside document 01's pages, which stand in worked_cases/Laws/Pages.
use Rattle.std.specs.Prelude.{ℕ, ◌+◌, ◌^◌, ◌≡◌, refl, ◌⊎◌}
use Rattle.std.proofs.Common.{inl, inr}
use Rattle.packing.specs.Packing.{start_limit, length_limit, pack_of, packed, in_numbers}

-- a range and what packing it gives: the number of a refusal on the left, a packed number on the right
abbrev pub Gives : ℕ → ℕ → ℕ ⊎ ℕ → Type 0
Gives start end answer = in_numbers (packed start end) ≡ answer

pub record PackingCases : Type 0 where
  -- both faults at once
  pub start_first : Gives (2 ^ 48) (2 ^ 48 + 65536) (inl 1)
  pub end_below_start : Gives 7 3 (inr 458752)

pub packing-cases : PackingCases
unfolding packed pack_of start_limit length_limit
packing-cases = record { start_first = refl; end_below_start = refl }
