-- Worked cases, one table: what refusal 9 finds, and what scores come out.
use Rattle.std.specs.Prelude.{ℕ, ◌≡◌, refl, Bool, true, false, Float}
use mathlib.Core.List.{List, [], ◌∷◌, map, zip_with}
use Rattle.std.specs.Float.{binary32}
use Rattle.std.specs.Float.Ieee.{of_bits, le, add, mul, of_int}
use Rattle.float32.specs.Bound.{in_bound}
use Rattle.documents.specs.Documents.{term}
use Rattle.blocking.specs.Limits.{list_limit, block_limit}
use Rattle.quantizing.specs.Quantizing.{step_allowed}
use Rattle.sparse_scores.specs.Layout.{Layout, arrays, entries, entries_at}
use Rattle.sparse_scores.specs.WellFormed.{blocks_hold, lengths_hold, offsets_hold, ids_hold, bounds_hold, well_formed}
use Rattle.sparse_scores.specs.Scores.{score_of, scores_of, put_in}

abbrev pub number : ℕ → Float
unfolding of_bits
number bits = of_bits binary32 bits

abbrev pub numbers : List ℕ → List Float
numbers ns = map number ns

-- two summaries: 1 and a step of 2, with 1 at component 3; 0 and a step of 1, with 100 at component 3 and 255 at component 7
abbrev pub low : List Float
low = numbers (0x3f800000 ∷ 0x00000000 ∷ [])

abbrev pub step : List Float
step = numbers (0x40000000 ∷ 0x3f800000 ∷ [])

abbrev pub small : Layout
small = arrays (3 ∷ 7 ∷ []) (0 ∷ 2 ∷ 3 ∷ []) (0 ∷ 1 ∷ 1 ∷ []) (0 ∷ 100 ∷ 255 ∷ []) low step

-- six postings in two blocks; the block offsets need not start at 0, nor end at the last posting
abbrev pub holds : List ℕ → Layout → Bool
holds block_offsets l = well_formed 6 block_offsets l

pub record Table : Type 0 where
  pub accepted : holds (0 ∷ 4 ∷ 6 ∷ []) small ≡ true
  pub any_start_and_end : holds (1 ∷ 1 ∷ 5 ∷ []) small ≡ true
  pub offset_missing : holds (0 ∷ 6 ∷ []) small ≡ false
  pub offset_more : holds (0 ∷ 2 ∷ 4 ∷ 6 ∷ []) small ≡ false
  pub offset_falls : holds (4 ∷ 0 ∷ 6 ∷ []) small ≡ false
  pub past_the_postings : holds (0 ∷ 4 ∷ 7 ∷ []) small ≡ false
  pub too_many_postings : well_formed 16777217 (0 ∷ 4 ∷ 6 ∷ []) small ≡ false
  pub no_summaries : holds (9 ∷ 3 ∷ []) (arrays [] (0 ∷ []) [] [] [] []) ≡ true
  pub no_offset : holds [] (arrays [] [] [] [] [] []) ≡ false
  pub code_missing : holds (0 ∷ 4 ∷ 6 ∷ []) (arrays (3 ∷ 7 ∷ []) (0 ∷ 2 ∷ 3 ∷ []) (0 ∷ 1 ∷ 1 ∷ []) (0 ∷ 100 ∷ []) low step) ≡ false
  pub step_missing : holds (0 ∷ 4 ∷ 6 ∷ []) (arrays (3 ∷ 7 ∷ []) (0 ∷ 2 ∷ 3 ∷ []) (0 ∷ 1 ∷ 1 ∷ []) (0 ∷ 100 ∷ 255 ∷ []) low (numbers (0x40000000 ∷ []))) ≡ false
  pub component_twice : holds (0 ∷ 4 ∷ 6 ∷ []) (arrays (3 ∷ 3 ∷ []) (0 ∷ 2 ∷ 3 ∷ []) (0 ∷ 1 ∷ 1 ∷ []) (0 ∷ 100 ∷ 255 ∷ []) low step) ≡ false
  pub starts_at_one : holds (0 ∷ 4 ∷ 6 ∷ []) (arrays (3 ∷ 7 ∷ []) (1 ∷ 2 ∷ 3 ∷ []) (0 ∷ 1 ∷ 1 ∷ []) (0 ∷ 100 ∷ 255 ∷ []) low step) ≡ false
  pub ends_early : holds (0 ∷ 4 ∷ 6 ∷ []) (arrays (3 ∷ 7 ∷ []) (0 ∷ 2 ∷ 2 ∷ []) (0 ∷ 1 ∷ 1 ∷ []) (0 ∷ 100 ∷ 255 ∷ []) low step) ≡ false
  pub id_at_the_count : holds (0 ∷ 4 ∷ 6 ∷ []) (arrays (3 ∷ 7 ∷ []) (0 ∷ 2 ∷ 3 ∷ []) (0 ∷ 1 ∷ 2 ∷ []) (0 ∷ 100 ∷ 255 ∷ []) low step) ≡ false
  pub id_twice : holds (0 ∷ 4 ∷ 6 ∷ []) (arrays (3 ∷ 7 ∷ []) (0 ∷ 2 ∷ 3 ∷ []) (1 ∷ 1 ∷ 1 ∷ []) (0 ∷ 100 ∷ 255 ∷ []) low step) ≡ false
  pub empty_component : holds (0 ∷ 4 ∷ 6 ∷ []) (arrays (3 ∷ 7 ∷ []) (0 ∷ 0 ∷ 2 ∷ []) (0 ∷ 1 ∷ []) (0 ∷ 255 ∷ []) low step) ≡ true
  pub minimum_too_great : holds (0 ∷ 4 ∷ 6 ∷ []) (arrays [] (0 ∷ []) [] [] (numbers (0x3f800000 ∷ 0xcf800001 ∷ [])) step) ≡ false
  pub minimum_no_number : holds (0 ∷ 4 ∷ 6 ∷ []) (arrays [] (0 ∷ []) [] [] (numbers (0x3f800000 ∷ 0x7fc00000 ∷ [])) step) ≡ false
  pub step_below_zero : holds (0 ∷ 4 ∷ 6 ∷ []) (arrays [] (0 ∷ []) [] [] low (numbers (0x3f800000 ∷ 0x80000001 ∷ []))) ≡ false
  pub step_too_great : holds (0 ∷ 4 ∷ 6 ∷ []) (arrays [] (0 ∷ []) [] [] low (numbers (0x3f800000 ∷ 0x4f800001 ∷ []))) ≡ false
  pub step_of_minus_zero : holds (0 ∷ 4 ∷ 6 ∷ []) (arrays [] (0 ∷ []) [] [] low (numbers (0x4f800000 ∷ 0x80000000 ∷ []))) ≡ true
  -- 2 at component 3, 1 at 7, 5 at 9: 1 x 2, and 100 x 2 + 255 x 1; the third place is left as it was
  pub scores : put_in (scores_of small (term 3 (number 0x40000000) ∷ term 7 (number 0x3f800000) ∷ term 9 (number 0x40a00000) ∷ [])) (numbers (0x41100000 ∷ 0x41100000 ∷ 0x41100000 ∷ []))
      ≡ numbers (0x40000000 ∷ 0x43e38000 ∷ 0x41100000 ∷ [])
  -- no component in common: +0
  pub nothing_in_common : scores_of small (term 4 (number 0xbf800000) ∷ []) ≡ numbers (0x00000000 ∷ 0x00000000 ∷ [])
  pub no_query : scores_of small [] ≡ numbers (0x00000000 ∷ 0x00000000 ∷ [])

pub table : Table
unfolding well_formed list_limit block_limit blocks_hold lengths_hold offsets_hold ids_hold bounds_hold step_allowed in_bound entries entries_at score_of scores_of zip_with of_bits le add mul of_int
table = record {
  accepted = refl;
  any_start_and_end = refl;
  offset_missing = refl;
  offset_more = refl;
  offset_falls = refl;
  past_the_postings = refl;
  too_many_postings = refl;
  no_summaries = refl;
  no_offset = refl;
  code_missing = refl;
  step_missing = refl;
  component_twice = refl;
  starts_at_one = refl;
  ends_early = refl;
  id_at_the_count = refl;
  id_twice = refl;
  empty_component = refl;
  minimum_too_great = refl;
  minimum_no_number = refl;
  step_below_zero = refl;
  step_too_great = refl;
  step_of_minus_zero = refl;
  scores = refl;
  nothing_in_common = refl;
  no_query = refl;
}
