-- What probing leaves: its answer, the kept list where it lies, and the visit bytes.
use Rattle.refusal.specs.declared.Refusal.{Refusal}
use Rattle.std.specs.Prelude.{ℕ, ◌+◌, not, ◌||◌, List, [], ◌∷◌, ◌++◌, length, take, drop, eqb, leb, ltb, Float, Result, Ok, Err}
use Rattle.refusal.specs.declared.Refusal.TheVariants.{WrongQuery, WrongDocuments, WrongKeptList, BufferTooShort}
use Rattle.refusal.specs.Refusals.{number_of}
use Rattle.refusal.specs.First.{Test, ◌gives◌, first_of}
use Rattle.documents.specs.Checks.{slices_hold}
use Rattle.kept_list.specs.Lent.{entries, written}
use Rattle.search_probe.specs.declared.Answer.{Answer}
use Rattle.search_probe.specs.declared.Answer.TheVariants.{Refused, Stopped, Found}
use Rattle.search_probe.specs.Probing.{Given, State, state, Reached, goes_on, stops_at, sweep}
use Rattle.search_postings.specs.declared.RangeReading.{RangeReading}
use Rattle.search_postings.specs.declared.Counts.{Counts}
use Rattle.search_postings.specs.declared.Stop.{Stop}
use Rattle.search_postings.specs.Ranges.{range_reading}
pub use Rattle.search_postings.specs.Postings.{Lends, lends}
pub use Rattle.search_blocks.specs.Turns.{listed}

-- an answer in document 01's terms: the number of the refusal, or 0, and the values that go with it; each is 0 where the answer has none of
-- its kind
pub record InNumbers : Type 0 where
  pub number : ℕ
  pub position : ℕ
  pub kept : ℕ
  pub evaluated : ℕ
  pub skipped : ℕ

abbrev pub in_numbers : Answer → InNumbers
in_numbers (Refused r) = record { number = number_of r; position = 0; kept = 0; evaluated = 0; skipped = 0 }
in_numbers (Stopped r i) = record { number = number_of r; position = i; kept = 0; evaluated = 0; skipped = 0 }
in_numbers (Found n e s) = record { number = 0; position = 0; kept = n; evaluated = e; skipped = s }

-- the query and the documents' terms
pub record Terms : Type 0 where
  pub query_components : List ℕ
  pub query_values : List Float
  pub components : List ℕ
  pub values : List Float

abbrev pub terms : List ℕ → List Float → List ℕ → List Float → Terms
terms qs ws cs vs = record { query_components = qs; query_values = ws; components = cs; values = vs }

abbrev pub read_in : Terms → ℕ → RangeReading
read_in t = range_reading t.query_components t.query_values t.components t.values

abbrev pub given : ℕ → Float → Terms → List ℕ → List ℕ → List Float → Given
given k factor t ps os xs = record { k = k; factor = factor; postings = ps; block_offsets = os; block_scores = xs; read = read_in t }

pub record Left : Type 0 where
  pub answer : Answer
  pub lent : Lends

abbrev pub left : Answer → Lends → Left
left a l = record { answer = a; lent = l }

-- no more kept than k, places for k, and a visit byte for each start from 0 to the term count
abbrev pub tests : ℕ → Terms → Lends → List Test
tests k t l =
    (not (slices_hold t.query_components t.query_values) gives WrongQuery)
    ∷ (not (eqb (length t.components) (length t.values)) gives WrongDocuments)
    ∷ (ltb k l.kept.size gives WrongKeptList)
    ∷ (((ltb (length l.kept.packed) k || ltb (length l.kept.scores) k) || leb (length l.visits) (length t.components)) gives BufferTooShort)
    ∷ []

-- one visit byte for each start, 0 to the term count; the bytes past them are not looked at
abbrev pub bytes_of : Terms → List ℕ → List ℕ
bytes_of t visits = take (length t.components + 1) visits

abbrev pub rest_of : Terms → List ℕ → List ℕ
rest_of t visits = drop (length t.components + 1) visits

-- what was reached, laid down where the kept list and the visit bytes lie; what lies past them is unchanged
abbrev pub laid : Terms → Lends → Reached → Left
laid t l (goes_on s) = left (Found (length s.kept) s.evaluated s.skipped) (lends (written s.kept l.kept) (s.visits ++ rest_of t l.visits))
laid t l (stops_at r i s) = left (Stopped r i) (lends (written s.kept l.kept) (s.visits ++ rest_of t l.visits))

abbrev pub if_accepted : Result (Unit {0}) Refusal → Left → Lends → Left
if_accepted (Ok _) done l = done
if_accepted (Err r) done l = left (Refused r) l

-- the kept entries and the visit bytes as they are lent, nothing counted yet
abbrev pub opened : Terms → Lends → State
opened t l = state (entries l.kept) (bytes_of t l.visits) 0 0

-- the answer to where the turns came, with so many kept
abbrev pub answer_of : Result Counts Stop → ℕ → Answer
answer_of (Ok c) n = Found n c.evaluated c.skipped
answer_of (Err s) n = Stopped s.reason s.position

-- the blocks have their turns in the order given
unfoldable pub probed : ℕ → Float → Terms → List ℕ → List ℕ → List Float → List ℕ → Lends → Left
probed k factor t ps os xs blocks l = if_accepted (first_of (tests k t l)) (laid t l (sweep (given k factor t ps os xs) blocks (opened t l))) l
