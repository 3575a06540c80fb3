-- A range read by the table and the sieve, with the query's terms and those of all documents as slices lend them.
use Rattle.documents.specs.declared.Terms.{Terms as TermsLent}
use Rattle.search_postings.specs.Ranges.{through_table}
use Rattle.search_postings.specs.declared.RangeReading.{RangeReading}
use mathlib.Core.List.{List}
use Prim.Native.Nat.{ℕ}
use Rattle.std.specs.Float.{Float}

abbrev pub through_lent : List Float → List ℕ → TermsLent → TermsLent → ℕ → RangeReading
through_lent table sieve query all = through_table table sieve query.components.now query.values.now all.components.now all.values.now
