-- What becomes of one posting: only unvisited starts are read. Document 01, "Search".
use Rattle.std.specs.Prelude.{ℕ, Bool, not, cond, List, get_or, eqb}
use Rattle.packing.specs.Packing.{start_of}
use Rattle.refusal.specs.declared.Refusal.{Refusal}
use Rattle.refusal.specs.declared.Refusal.TheVariants.{PastTheTerms, WrongTerms}
use Rattle.kept_list.specs.declared.Scored.{Scored}
use Rattle.kept_list.specs.Entry.{scored}
use Rattle.search_postings.specs.declared.RangeReading.{RangeReading}
use Rattle.search_postings.specs.declared.RangeReading.TheVariants.{ReachesPast, Breaks, Score}

-- where a posting lies: its position among the packed postings
abbrev pub Place : Type 0
Place = ℕ

pub data Outcome : Type 0 where
  passed : Outcome
  stopped : Refusal → Outcome
  found : Scored → Outcome

-- nonzero is visited; a start with no byte counts as unvisited
abbrev pub visited : List ℕ → ℕ → Bool
visited visits p = not (eqb (get_or visits (start_of p) 0) 0)

abbrev pub of_reading : ℕ → RangeReading → Outcome
of_reading p ReachesPast = stopped PastTheTerms
of_reading p Breaks = stopped WrongTerms
of_reading p (Score x) = found (scored p x)

abbrev pub outcome_of : (ℕ → RangeReading) → List ℕ → ℕ → Outcome
outcome_of read visits p = cond (visited visits p) passed (of_reading p (read p))
