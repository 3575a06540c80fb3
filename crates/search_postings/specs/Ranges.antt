-- What reading a posting's range gives: 13, 14, or the dot product with the query. Document 01, "Search" and "Scores".
use Rattle.std.specs.Prelude.{ℕ, ◌+◌, ◌-◌, min, cond, List, length, leb, Float, Option, Some, None}
use Rattle.sequences.specs.Lists.{part}
use Rattle.packing.specs.Packing.{start_of, length_of}
use Rattle.search_page.specs.Reading.{reading}
use Rattle.search_page.specs.Through.{read_through}
use Rattle.search_postings.specs.declared.RangeReading.{RangeReading}
use Rattle.search_postings.specs.declared.RangeReading.TheVariants.{ReachesPast, Breaks, Score}

abbrev pub of_page : Option Float → RangeReading
of_page None = Breaks
of_page (Some x) = Score x

-- the documents' terms from start to below end
abbrev pub range_at : List ℕ → List Float → List ℕ → List Float → ℕ → ℕ → RangeReading
range_at qs ws cs vs start end = cond (leb end (length cs)) (of_page (reading qs ws (part start (end - start) cs) (part start (end - start) vs))) ReachesPast

unfoldable pub range_reading : List ℕ → List Float → List ℕ → List Float → ℕ → RangeReading
range_reading qs ws cs vs p = range_at qs ws cs vs (start_of p) (start_of p + length_of p)

-- ---- the same as the program reads it: by a table or through a sieve, whatever they hold, and of two lengths the smaller one counts
abbrev pub range_through : List Float → List ℕ → List ℕ → List Float → List ℕ → List Float → ℕ → ℕ → RangeReading
range_through table sieve qs ws cs vs start end =
    cond (leb end (min (length cs) (length vs))) (of_page (read_through table sieve qs ws (part start (end - start) cs) (part start (end - start) vs))) ReachesPast

unfoldable pub through_table : List Float → List ℕ → List ℕ → List Float → List ℕ → List Float → ℕ → RangeReading
through_table table sieve qs ws cs vs p = range_through table sieve qs ws cs vs (start_of p) (start_of p + length_of p)
