-- Worked cases of blocking beside document 01's pages, which stand in worked_cases/Pages.
use Rattle.std.specs.Prelude.{◌≡◌, refl, [], ◌∷◌, false}
use Rattle.std.proofs.Common.{inl, inr}
use Rattle.std.specs.Float.{nan, inf, binary32}
use Rattle.std.specs.Float.Ieee.{of_bits, of_int, mul, to_unsigned}
use Rattle.float32.specs.Count.{scaled_length}
use Rattle.blocking.specs.Limits.{list_limit, block_limit}
use Rattle.blocking.specs.Blocking.{fixed_offsets, blocked, offsets_left, centroid_count}
use Rattle.blocking.specs.Promises.{Gives}

pub record BlockingCases : Type 0 where
  -- the last block takes what is left over; a list shorter than a block has one offset; past the offsets nothing changes
  pub last_longer : Gives 11 3 (9 ∷ 9 ∷ 9 ∷ 9 ∷ 9 ∷ []) (inr 4) (0 ∷ 3 ∷ 6 ∷ 11 ∷ 9 ∷ [])
  pub no_block : Gives 4 5 (9 ∷ 9 ∷ []) (inr 1) (4 ∷ 9 ∷ [])
  -- the refusals, each before those after it
  pub longest_list : Gives 16777216 16777216 (9 ∷ 9 ∷ []) (inr 2) (0 ∷ 16777216 ∷ [])
  pub list-too-long : Gives 16777217 0 [] (inl 8) []
  pub size_before_blocks : Gives 65536 0 [] (inl 3) []
  pub too_many_blocks : Gives 65536 1 [] (inl 8) []
  pub most_blocks : Gives 65535 1 [] (inl 4) []
  pub buffer_too_short : Gives 10 3 (9 ∷ 9 ∷ 9 ∷ []) (inl 4) (9 ∷ 9 ∷ 9 ∷ [])

-- the number of centroids for a fraction of a length
pub record Centroids : Type 0 where
  -- 0.7 x 10: the f32 product is 7, though the f32 nearest to 0.7 is below it
  pub part_of_ten : centroid_count (of_bits binary32 0x3f333333) 10 ≡ 7
  pub cut : centroid_count (of_bits binary32 0x3f000000) 11 ≡ 5
  pub of_none : centroid_count (of_bits binary32 0x3f800000) 0 ≡ 1
  pub negative : centroid_count (of_bits binary32 0xbf800000) 10 ≡ 1
  pub no_number : centroid_count nan 10 ≡ 1
  pub infinite : centroid_count (inf false) 10 ≡ 18446744073709551615

pub centroids : Centroids
unfolding scaled_length of_bits of_int mul to_unsigned
centroids = record { part_of_ten = refl; cut = refl; of_none = refl; negative = refl; no_number = refl; infinite = refl }

pub blocking-cases : BlockingCases
unfolding fixed_offsets blocked offsets_left list_limit block_limit
blocking-cases =
    record {
      last_longer = record { answers = refl; leaves = refl };
      no_block = record { answers = refl; leaves = refl };
      longest_list = record { answers = refl; leaves = refl };
      list-too-long = record { answers = refl; leaves = refl };
      size_before_blocks = record { answers = refl; leaves = refl };
      too_many_blocks = record { answers = refl; leaves = refl };
      most_blocks = record { answers = refl; leaves = refl };
      buffer_too_short = record { answers = refl; leaves = refl };
    }
