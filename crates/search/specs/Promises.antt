-- What a search promises, told by its story, with no mention of how it goes about it.
use Rattle.std.specs.Prelude.{ℕ, ◌+◌, ◌<◌, ◌≡◌, true, false, cond, List, [], ◌∷◌, ◌++◌, map, length, get_or, take, ◌⊎◌}
use Rattle.sequences.specs.Lists.{EachOf, among}
use Rattle.search_probe.specs.Probed.{Lends, opened}
use Rattle.search.specs.Searched.{Question, given_for}
use Rattle.refusal.specs.declared.Refusal.{Refusal}
use Rattle.kept_list.specs.declared.Scored.{Scored}
use Rattle.kept_list.specs.Keep.{k_best}
use Rattle.kept_list.specs.Worst.{no_higher}
use Rattle.kept_list.specs.Entry.{better}
use Rattle.search_probe.specs.Probing.{Place, worst, Given, State, Outcome, stopped, found, outcome, Reached, goes_on, stops_at, skips, positions, left}
use Rattle.search.specs.Trace.{Event, at, Turn, skipped_block, probed_block, entries_of, starts_of, places_of, position_of, block_of, events_of, skipped_in, distinct, marked}
use Rattle.search.specs.InOrder.{stops_in}
use Rattle.search.specs.Fates.{Posting, Evaluated, InSkipped, VisitedBefore, StoppedBefore}
use Rattle.search.specs.Dots.{DotOf, Stop}

pub record Promises (g : Given) (bs : List ℕ) (s : State) (r : Reached) : Type 0 where
  -- what happened: the turns, each skipped or probed, with what each posting of a probed block gave
  pub story : List Turn
  -- the blocks have their turns in the order given, all of them if nothing stops the search
  pub in_order : map block_of story ≡ take (length story) bs
  pub all_blocks : (t : State) → r ≡ goes_on t → map block_of story ≡ bs
  -- a block is skipped exactly when k are kept at its turn and its score < factor x worst
  pub skipped_when : (p : List Turn) (b : ℕ) (q : List Turn) → story ≡ p ++ (skipped_block b ∷ q) → skips g (k_best better g.k (s.kept ++ entries_of (events_of p))) b ≡ true
  pub probed_when : (p : List Turn) (b : ℕ) (es : List Event) (q : List Turn) → story ≡ p ++ (probed_block b es ∷ q) → skips g (k_best better g.k (s.kept ++ entries_of (events_of p))) b ≡ false
  -- the worst kept score: at each moment no kept score stands below it in the total order, and once k are kept it never falls
  pub worst_is_lowest : (p q : List Turn) → story ≡ p ++ q → EachOf (λ e. no_higher (worst (k_best better g.k (s.kept ++ entries_of (events_of p)))) e.score ≡ true) (k_best better g.k (s.kept
      ++ entries_of (events_of p)))
  pub worst_stays : (p m q : List Turn) → story ≡ p ++ (m ++ q) → length (k_best better g.k (s.kept ++ entries_of (events_of p))) ≡ g.k
      → no_higher (worst (k_best better g.k (s.kept ++ entries_of (events_of p)))) (worst (k_best better g.k (s.kept ++ entries_of (events_of (p ++ m))))) ≡ true
  -- the postings of a probed block are reached one by one in order, all of them if nothing stops the search
  pub reached_in_order : (p : List Turn) (b : ℕ) (es : List Event) (q : List Turn) → story ≡ p ++ (probed_block b es ∷ q) → map position_of es ≡ take (length es) (positions g b)
  pub reached_all : (p : List Turn) (b : ℕ) (es : List Event) (q : List Turn) → story ≡ p ++ (probed_block b es ∷ q) → stops_in es ≡ false → map position_of es ≡ positions g b
  pub went_on : (p : List Turn) (b : ℕ) (es : List Event) (u : Turn) (q : List Turn) → story ≡ p ++ (probed_block b es ∷ u ∷ q) → stops_in es ≡ false
  pub goes_through : (t : State) → r ≡ goes_on t → (p : List Turn) (b : ℕ) (es : List Event) (q : List Turn) → story ≡ p ++ (probed_block b es ∷ q) → stops_in es ≡ false
  -- each gives what its visit byte and its reading say at that moment: passed if visited, else 13, 14 or its score
  pub gives : (p : List Turn) (b : ℕ) (x : List Event) (i : Place) (o : Outcome) (y : List Event) (q : List Turn) → story ≡ p ++ (probed_block b (x ++ (at i o ∷ y)) ∷ q)
      → outcome g (marked s.visits (starts_of g (events_of p ++ x))) i ≡ o
  -- the evaluated starts were unvisited at first, and no two are the same: over the whole search no start is evaluated twice, nor a posting
  pub unvisited : (n : ℕ) → among n (starts_of g (events_of story)) ≡ true → (n < length s.visits) × (get_or s.visits n 0 ≡ 0)
  pub different : distinct (starts_of g (events_of story)) ≡ true
  pub once : distinct (places_of (events_of story)) ≡ true
  -- a posting that was not evaluated is in a skipped block, or its start was visited before it was reached, or the search stopped before it
  pub not_evaluated : (p : Posting g bs) → (Evaluated g bs story p → ⊥) → InSkipped g bs story p ⊎ (VisitedBefore g bs s story p ⊎ StoppedBefore g bs r story p)
  -- what is kept are the k best of the entries brought in and of all evaluated
  pub keeps_best : (left r).kept ≡ k_best better g.k (s.kept ++ entries_of (events_of story))
  -- the evaluated starts are marked 1, and no other byte changes
  pub marks : (left r).visits ≡ marked s.visits (starts_of g (events_of story))
  pub marks_at : (n : ℕ) → n < length s.visits → get_or (left r).visits n 0 ≡ cond (among n (starts_of g (events_of story))) 1 (get_or s.visits n 0)
  -- the counts are those of the story
  pub counts_evaluated : (left r).evaluated ≡ s.evaluated + length (entries_of (events_of story))
  pub counts_skipped : (left r).skipped ≡ s.skipped + skipped_in story
  -- a search that stops, stops at the last posting it reached
  pub stops_last : (n : Refusal) (i : Place) (t : State) → r ≡ stops_at n i t → (p : List Turn) × (b : ℕ) × (x : List Event) × (story ≡ p ++ (probed_block b (x ++ (at i (stopped n) ∷ [])) ∷ []))

-- ---- what a search promises besides, of its question
pub record SearchPromises (q : Question) (l : Lends) (blocks : List ℕ) (r : Reached) : Type 0 where
  pub sweeps : Promises (given_for q) blocks (opened q.terms l) r
  -- the entry of an evaluated posting is its packed number with the dot product of its range's terms with the query
  pub evaluates : (p : List Turn) (b : ℕ) (x : List Event) (i : Place) (e : Scored) (y : List Event) (u : List Turn) → sweeps.story ≡ p ++ (probed_block b (x ++ (at i (found e) ∷ y)) ∷ u)
      → (e.packed ≡ get_or q.postings i 0) × DotOf q.terms (get_or q.postings i 0) e.score
  -- the range of a posting that stops it reaches past the documents' terms (13), or its terms do not hold (14)
  pub stops_for : (n : Refusal) (i : Place) (t : State) → r ≡ stops_at n i t → Stop q.terms (get_or q.postings i 0) n
