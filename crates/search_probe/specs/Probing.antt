-- What a search does once its input is accepted and the blocks have their scores and their order: document 01, "Search".
use Rattle.std.specs.Prelude.{ℕ, ◌+◌, ◌-◌, min, Bool, ◌&&◌, cond, List, [], ◌∷◌, length, get_or, set, eqb, Float}
use Rattle.std.specs.Float.{nan, binary32}
use Rattle.std.specs.Float.Ieee.{lt, mul}
use Rattle.sequences.specs.Lists.{from}
use Rattle.packing.specs.Packing.{start_of}
use Rattle.refusal.specs.declared.Refusal.{Refusal}
use Rattle.kept_list.specs.declared.Scored.{Scored}
use Rattle.kept_list.specs.Keep.{keep}
use Rattle.kept_list.specs.Entry.{scored, better}
use Rattle.search_postings.specs.declared.RangeReading.{RangeReading}
pub use Rattle.search_postings.specs.Outcomes.{Place, Outcome, passed, stopped, found, visited, of_reading, outcome_of}

-- what a search is given and does not change: `read` is what reading a posting's range gives
pub record Given : Type 0 where
  pub k : ℕ
  pub factor : Float
  pub postings : List ℕ
  pub block_offsets : List ℕ
  pub block_scores : List Float
  pub read : ℕ → RangeReading

-- what it changes, and what it counts
pub record State : Type 0 where
  pub kept : List Scored
  pub visits : List ℕ
  pub evaluated : ℕ
  pub skipped : ℕ

abbrev pub state : List Scored → List ℕ → ℕ → ℕ → State
state es v n m = record { kept = es; visits = v; evaluated = n; skipped = m }

-- ---- one posting: only unvisited starts are read
abbrev pub packed_at : Given → Place → ℕ
packed_at g i = get_or g.postings i 0

abbrev pub start_at : Given → Place → ℕ
start_at g i = start_of (packed_at g i)

abbrev pub outcome : Given → List ℕ → Place → Outcome
outcome g visits i = outcome_of g.read visits (packed_at g i)

-- ---- where a search stands: it goes on, or a refusal stopped it at a position
pub data Reached : Type 0 where
  goes_on : State → Reached
  stops_at : Refusal → Place → State → Reached

abbrev pub and_then : Reached → (State → Reached) → Reached
and_then (goes_on s) f = f s
and_then (stops_at r i s) f = stops_at r i s

-- an evaluated posting is kept if it is among the k best, and its start is marked
abbrev pub evaluate : Given → Place → State → Outcome → Reached
evaluate g i s passed = goes_on s
evaluate g i s (stopped r) = stops_at r i s
evaluate g i s (found e) = goes_on (state (keep better g.k e s.kept) (set s.visits (start_at g i) 1) (s.evaluated + 1) s.skipped)

abbrev pub probe : Given → List Place → State → Reached
probe g [] s = goes_on s
probe g (i ∷ is) s = and_then (evaluate g i s (outcome g s.visits i)) (probe g is)

-- ---- a block's turn: skipped exactly when k are kept and score < factor x worst kept score
abbrev pub worst : List Scored → Float
worst es = (get_or es (length es - 1) (scored 0 nan)).score

abbrev pub skips : Given → List Scored → ℕ → Bool
skips g kept b = eqb (length kept) g.k && lt (get_or g.block_scores b nan) (mul binary32 g.factor (worst kept))

-- the positions of a block's postings: from its offset to below the next one, as far as there are postings
abbrev pub positions : Given → ℕ → List Place
positions g b = from (get_or g.block_offsets b 0) (min (get_or g.block_offsets (b + 1) 0) (length g.postings) - get_or g.block_offsets b 0)

abbrev pub pass_over : State → State
pass_over s = state s.kept s.visits s.evaluated (s.skipped + 1)

abbrev pub turn : Given → ℕ → State → Reached
turn g b s = cond (skips g s.kept b) (goes_on (pass_over s)) (probe g (positions g b) s)

-- ---- all blocks, in the order given
abbrev pub sweep : Given → List ℕ → State → Reached
sweep g [] s = goes_on s
sweep g (b ∷ bs) s = and_then (turn g b s) (sweep g bs)

abbrev pub left : Reached → State
left (goes_on s) = s
left (stops_at r i s) = s
