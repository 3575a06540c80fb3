-- Two postings at a time, and the postings from a position on. What is taken two at a time is what is taken one by one (proofs/Together).
use Rattle.std.specs.Prelude.{ℕ, ◌-◌, min, Bool, not, ◌||◌, cond, List, length, get_or, eqb, ltb, Float, Option, Some, None, Result, Ok, Err}
use Rattle.sequences.specs.Lists.{part, from}
use Rattle.packing.specs.declared.UnpackedRange.{UnpackedRange}
use Rattle.packing.specs.Packing.{unpacked}
use Rattle.search_page.specs.declared.Scores.{Scores}
use Rattle.search_page.specs.Through.{read_two}
use Rattle.search_postings.specs.declared.Counts.{Counts}
use Rattle.search_postings.specs.declared.Next.{Next}
use Rattle.search_postings.specs.declared.Stop.{Stop}
use Rattle.search_postings.specs.declared.RangeReading.{RangeReading}
use Rattle.search_postings.specs.declared.RangeReading.TheVariants.{Score}
use Rattle.search_postings.specs.Postings.{Lends, Turned, turned, next, held_evaluate, held_probe}

-- ---- their scores, by the table
abbrev pub was_visited : List ℕ → UnpackedRange → Bool
was_visited visits u = not (eqb (get_or visits u.start.0 0) 0)

abbrev pub goes_past : List ℕ → List Float → UnpackedRange → Bool
goes_past cs vs u = ltb (min (length cs) (length vs)) u.end

abbrev pub terms_at : {A : Type 0} → List A → UnpackedRange → List A
terms_at l u = part u.start.0 (u.end - u.start.0) l

abbrev pub both_ranges : List Float → List ℕ → List Float → List ℕ → UnpackedRange → UnpackedRange → Option Scores
both_ranges table cs vs visits u v =
    cond (was_visited visits u || was_visited visits v) None
    (cond (goes_past cs vs u || goes_past cs vs v) None (read_two table (terms_at cs u) (terms_at vs u) (terms_at cs v) (terms_at vs v)))

unfoldable pub read_both : Bool → List Float → List ℕ → List Float → List ℕ → ℕ → ℕ → Option Scores
read_both wanted table cs vs visits p q = cond wanted (both_ranges table cs vs visits (unpacked p) (unpacked q)) None

-- ---- what becomes of them
abbrev pub went_on : Counts → Lends → Turned
went_on c l = turned (Ok c) l

-- a posting whose score is known: it stops nothing, so its position is of no matter
abbrev pub held_known : ℕ → ℕ → Float → Counts → Lends → Turned
held_known k p x c l = held_evaluate k (λ _. Score x) p 0 c l

pub data Pairing : Type 0 where
  together : Turned → Pairing
  apart : Lends → Pairing

abbrev pub both_turned : Option Counts → Lends → Pairing
both_turned (Some c) l = together (went_on c l)
both_turned None l = apart l

abbrev pub held_two : ℕ → Option Scores → ℕ → ℕ → Counts → Lends → Pairing
held_two k (Some s) p q c l = together (next (held_known k p s.one c l) (held_known k q s.two))
held_two k None p q c l = apart l

-- ---- the postings from where a step leads
abbrev pub probe_rest : ℕ → (ℕ → RangeReading) → List ℕ → ℕ → Result Next Stop → Lends → Turned
probe_rest k read ps stop (Ok n) l = held_probe k read ps (from n.next (stop - n.next)) n.counts l
probe_rest k read ps stop (Err s) l = turned (Err s) l

-- the position it leads to; the last one where it stops
abbrev pub leads_to : ℕ → Result Next Stop → ℕ
leads_to stop (Ok n) = n.next
leads_to stop (Err s) = stop
