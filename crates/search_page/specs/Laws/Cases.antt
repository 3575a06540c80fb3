-- Worked readings, as one table.
use Rattle.std.specs.Prelude.{◌≡◌, refl, ℕ, Float, Some, None}
use mathlib.Core.List.{[], ◌∷◌, zip_with}
use Rattle.std.specs.Float.{nan, binary32}
use Rattle.std.specs.Float.Ieee.{of_bits, add, mul, neg, le}
use Rattle.float32.specs.Bound.{in_bound}
use Rattle.documents.specs.Documents.{paired, dot}
use Rattle.documents.specs.Checks.{terms_hold, slices_hold}
use Rattle.search_page.specs.Reading.{reading}

abbrev f : ℕ → Float
f n = of_bits binary32 n

-- 0x3fc00000 is 1.5, 0x40000000 is 2, 0x40400000 is 3, 0x41100000 is 9, 0x4f800000 is 2^32, 0x4f800001 the next
pub record Cases : Type 0 where
  pub empty : reading (1 ∷ []) (f 0x40000000 ∷ []) [] [] ≡ Some (f 0)
  pub shared : reading (1 ∷ 2 ∷ 7 ∷ []) (f 0x40000000 ∷ f 0x40000000 ∷ f 0x40000000 ∷ []) (1 ∷ 3 ∷ 7 ∷ []) (f 0x3fc00000 ∷ f 0x40000000 ∷ f 0x40400000 ∷ []) ≡ Some (f 0x41100000)
  pub twice : reading (3 ∷ []) (f 0x40000000 ∷ []) (3 ∷ 3 ∷ []) (f 0x3fc00000 ∷ f 0x3fc00000 ∷ []) ≡ None
  pub at_bound : reading [] [] (3 ∷ []) (f 0x4f800000 ∷ []) ≡ Some (f 0)
  pub past_bound : reading [] [] (3 ∷ []) (f 0x4f800001 ∷ []) ≡ None
  pub no_number : reading [] [] (3 ∷ []) (nan ∷ []) ≡ None
  pub uneven : reading [] [] (3 ∷ []) [] ≡ None

pub cases : Cases
unfolding paired zip_with dot in_bound terms_hold slices_hold reading of_bits add mul neg le
cases = record { empty = refl; shared = refl; twice = refl; at_bound = refl; past_bound = refl; no_number = refl; uneven = refl }
