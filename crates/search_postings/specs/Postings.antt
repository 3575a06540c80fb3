-- Postings evaluated one after another over a kept list in lent memory: each scored one is settled, and its start is marked.
use Rattle.std.specs.Prelude.{ℕ, ◌+◌, min, List, [], ◌∷◌, get_or, set, Result, Ok, Err}
use Rattle.packing.specs.Packing.{start_of}
use Rattle.refusal.specs.declared.Refusal.{Refusal}
use Rattle.kept_list.specs.Lent.{Lent, settled}
use Rattle.search_postings.specs.declared.Counts.{Counts}
use Rattle.search_postings.specs.declared.Stop.{Stop}
use Rattle.search_postings.specs.declared.RangeReading.{RangeReading}
use Rattle.search_postings.specs.Outcomes.{Place, Outcome, passed, stopped, found, outcome_of}

-- what is lent: the kept list and the visit bytes
pub record Lends : Type 0 where
  pub kept : Lent
  pub visits : List ℕ

abbrev pub lends : Lent → List ℕ → Lends
lends l v = record { kept = l; visits = v }

-- a count with one more, as far as a u64 goes
abbrev pub one_more : ℕ → ℕ
one_more n = min (n + 1) 18446744073709551615

abbrev pub counts : ℕ → ℕ → Counts
counts n m = record { evaluated = n; skipped = m }

-- why a search is stopped, and at which position
abbrev pub stop_of : Refusal → Place → Stop
stop_of r i = record { reason = r; position = i }

-- what a step says, and what is lent after it
pub record Turned : Type 0 where
  pub turn : Result Counts Stop
  pub lent : Lends

abbrev pub turned : Result Counts Stop → Lends → Turned
turned t l = record { turn = t; lent = l }

-- goes on with the counts and what is lent, unless it was stopped
abbrev pub then_on : Result Counts Stop → Lends → (Counts → Lends → Turned) → Turned
then_on (Ok c) l f = f c l
then_on (Err s) l f = turned (Err s) l

abbrev pub next : Turned → (Counts → Lends → Turned) → Turned
next t f = then_on t.turn t.lent f

-- ---- one posting
-- where it is scored, its entry is settled and its start marked
abbrev pub held_outcome : ℕ → ℕ → Place → Counts → Lends → Outcome → Turned
held_outcome k p i c l passed = turned (Ok c) l
held_outcome k p i c l (stopped r) = turned (Err (stop_of r i)) l
held_outcome k p i c l (found e) = turned (Ok (counts (one_more c.evaluated) c.skipped)) (lends (settled k e l.kept) (set l.visits (start_of p) 1))

unfoldable pub held_evaluate : ℕ → (ℕ → RangeReading) → ℕ → Place → Counts → Lends → Turned
held_evaluate k read p i c l = held_outcome k p i c l (outcome_of read l.visits p)

-- ---- postings, one after another
unfoldable pub held_probe : ℕ → (ℕ → RangeReading) → List ℕ → List Place → Counts → Lends → Turned
held_probe k read ps [] c l = turned (Ok c) l
held_probe k read ps (i ∷ is) c l = next (held_evaluate k read (get_or ps i 0) i c l) (held_probe k read ps is)
