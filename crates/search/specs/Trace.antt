-- The story of a sweep: its turns in order, and in each probed block what each posting gave.
use Rattle.std.specs.Prelude.{ℕ, ◌+◌, Bool, true, not, ◌&&◌, cond, List, [], ◌∷◌, ◌++◌, length, set}
use Rattle.sequences.specs.Lists.{among}
use Rattle.kept_list.specs.declared.Scored.{Scored}
use Rattle.kept_list.specs.Keep.{keep_all}
use Rattle.kept_list.specs.Entry.{better}
use Rattle.search_probe.specs.Probing.{Place, Given, State, Outcome, passed, stopped, found, outcome, start_at, Reached, goes_on, stops_at, skips, positions, turn}

pub data Event : Type 0 where
  at : Place → Outcome → Event

pub data Turn : Type 0 where
  skipped_block : ℕ → Turn
  probed_block : ℕ → List Event → Turn

abbrev pub unless_stopped : Outcome → List Event → List Event
unless_stopped passed es = es
unless_stopped (stopped r) es = []
unless_stopped (found e) es = es

abbrev pub marking : Given → List ℕ → Place → Outcome → List ℕ
marking g visits i passed = visits
marking g visits i (stopped r) = visits
marking g visits i (found e) = set visits (start_at g i) 1

-- what the postings give, one after another, up to a stop
abbrev pub events : Given → List Place → List ℕ → List Event
events g [] visits = []
events g (i ∷ is) visits = at i (outcome g visits i) ∷ unless_stopped (outcome g visits i) (events g is (marking g visits i (outcome g visits i)))

abbrev pub unless_stops : Reached → (State → List Turn) → List Turn
unless_stops (goes_on s) f = f s
unless_stops (stops_at r i s) f = []

abbrev pub turn_of : Given → ℕ → State → Turn
turn_of g b s = cond (skips g s.kept b) (skipped_block b) (probed_block b (events g (positions g b) s.visits))

abbrev pub turns : Given → List ℕ → State → List Turn
turns g [] s = []
turns g (b ∷ bs) s = turn_of g b s ∷ unless_stops (turn g b s) (turns g bs)

-- ---- what a story tells
abbrev pub entries_of : List Event → List Scored
entries_of [] = []
entries_of (at i passed ∷ es) = entries_of es
entries_of (at i (stopped r) ∷ es) = entries_of es
entries_of (at i (found e) ∷ es) = e ∷ entries_of es

-- the starts of the evaluated postings
abbrev pub starts_of : Given → List Event → List ℕ
starts_of g [] = []
starts_of g (at i passed ∷ es) = starts_of g es
starts_of g (at i (stopped r) ∷ es) = starts_of g es
starts_of g (at i (found e) ∷ es) = start_at g i ∷ starts_of g es

-- the positions of the evaluated postings
abbrev pub places_of : List Event → List Place
places_of [] = []
places_of (at i passed ∷ es) = places_of es
places_of (at i (stopped r) ∷ es) = places_of es
places_of (at i (found e) ∷ es) = i ∷ places_of es

abbrev pub position_of : Event → Place
position_of (at i o) = i

abbrev pub block_of : Turn → ℕ
block_of (skipped_block b) = b
block_of (probed_block b es) = b

abbrev pub events_of : List Turn → List Event
events_of [] = []
events_of (skipped_block b ∷ ts) = events_of ts
events_of (probed_block b es ∷ ts) = es ++ events_of ts

abbrev pub skipped_in : List Turn → ℕ
skipped_in [] = 0
skipped_in (skipped_block b ∷ ts) = 1 + skipped_in ts
skipped_in (probed_block b es ∷ ts) = skipped_in ts

-- no two are the same
abbrev pub distinct : List ℕ → Bool
distinct [] = true
distinct (n ∷ ns) = not (among n ns) && distinct ns

-- 1 written at each of the starts
abbrev pub marked : List ℕ → List ℕ → List ℕ
marked visits [] = visits
marked visits (n ∷ ns) = marked (set visits n 1) ns

-- what stands after the turns: the entries pushed, the starts marked, the counts
abbrev pub after : Given → State → List Turn → State
after g s ts = record {
  kept = keep_all better g.k s.kept (entries_of (events_of ts));
  visits = marked s.visits (starts_of g (events_of ts));
  evaluated = s.evaluated + length (entries_of (events_of ts));
  skipped = s.skipped + skipped_in ts;
}
