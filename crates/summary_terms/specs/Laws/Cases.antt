-- Worked cases of the block maximum and of both summaries.
use Rattle.std.specs.Prelude.{◌≡◌, refl, true, false, pos, negsuc, Float}
use mathlib.Core.List.{[], ◌∷◌, zip_with}
use Rattle.std.specs.Float.{fin, nan}
use Rattle.std.specs.Float.Ieee.{lt, le, eq, is_nan, add, mul}
use Rattle.configuration.specs.declared.SummarizationStrategy.TheVariants.{FixedSize, EnergyPreserving}
use Rattle.float32.specs.Order.{at_most}
use Rattle.sequences.specs.Lists.{put_once, rising, insert_by, sorted_by}
use Rattle.documents.specs.Documents.{term, Documents, documents, paired, terms, greater_first, falling, largest}
use Rattle.summary_terms.specs.Summaries.{maximum, maxima, block_maximum, enough, preserving, kept, summary}

abbrev one : Float
one = fin false 1 (pos 0)

abbrev two : Float
two = fin false 1 (pos 1)

abbrev four : Float
four = fin false 1 (pos 2)

abbrev half : Float
half = fin false 1 (negsuc 0)

abbrev pluszero : Float
pluszero = fin false 0 (pos 0)

abbrev minuszero : Float
minuszero = fin true 0 (pos 0)

-- document 0: 3 at 1, 5 at 2; document 1: blank; document 2: 3 at 4, 7 at 2; document 3: 9 at -0, 10 at 1
abbrev pages : Documents
pages = documents (0 ∷ 2 ∷ 2 ∷ 4 ∷ 6 ∷ []) (3 ∷ 5 ∷ 3 ∷ 7 ∷ 9 ∷ 10 ∷ []) (one ∷ two ∷ four ∷ two ∷ minuszero ∷ one ∷ [])

pub record SummaryCases : Type 0 where
  -- the first of equal maxima stands: -0 before +0
  pub first_of_equal : maximum (minuszero ∷ pluszero ∷ []) ≡ minuszero
  pub later_greater : maximum (one ∷ four ∷ two ∷ []) ≡ four
  -- a repeated document and a blank one change nothing
  pub block : block_maximum pages (0 ∷ 1 ∷ 2 ∷ 0 ∷ []) ≡ term 3 four ∷ term 5 two ∷ term 7 two ∷ []
  pub no_documents : block_maximum pages [] ≡ []
  -- equal values: the smaller component
  pub two_greatest : kept (FixedSize 2) (block_maximum pages (0 ∷ 2 ∷ [])) ≡ term 3 four ∷ term 5 two ∷ []
  pub more_than_there_are : kept (FixedSize 9) (block_maximum pages (0 ∷ 2 ∷ [])) ≡ term 3 four ∷ term 5 two ∷ term 7 two ∷ []
  pub none-asked : kept (FixedSize 0) (block_maximum pages (0 ∷ 2 ∷ [])) ≡ []
  -- of 4, 2, 2 half the total is reached by the first
  pub half_energy : kept (EnergyPreserving half) (block_maximum pages (0 ∷ 2 ∷ [])) ≡ term 3 four ∷ []
  pub all_energy : kept (EnergyPreserving one) (block_maximum pages (0 ∷ 2 ∷ [])) ≡ term 3 four ∷ term 5 two ∷ term 7 two ∷ []
  -- a NaN is reached by no sum: all are kept
  pub nan_energy : kept (EnergyPreserving nan) (block_maximum pages (0 ∷ 2 ∷ [])) ≡ term 3 four ∷ term 5 two ∷ term 7 two ∷ []
  -- then rising components
  pub rising_again : summary (FixedSize 2) pages (3 ∷ 2 ∷ []) ≡ term 3 four ∷ term 7 two ∷ []

pub summary-cases : SummaryCases
unfolding terms paired zip_with maxima put_once rising insert_by sorted_by greater_first falling largest enough preserving summary at_most lt le eq is_nan add mul
summary-cases = record {
  first_of_equal = refl;
  later_greater = refl;
  block = refl;
  no_documents = refl;
  two_greatest = refl;
  more_than_there_are = refl;
  none-asked = refl;
  half_energy = refl;
  all_energy = refl;
  nan_energy = refl;
  rising_again = refl;
}
