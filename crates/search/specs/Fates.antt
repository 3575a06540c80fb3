-- What can become of a posting of the list: it is evaluated, or it lies in a skipped block, or its start was visited before, or the search
-- stopped before it.
use Rattle.std.specs.Prelude.{ℕ, ◌≡◌, true, List, [], ◌∷◌, ◌++◌, map, ◌⊎◌, get_or}
use Rattle.sequences.specs.Lists.{among}
use Rattle.refusal.specs.declared.Refusal.{Refusal}
use Rattle.kept_list.specs.declared.Scored.{Scored}
use Rattle.search_probe.specs.Probing.{Place, Given, State, Outcome, passed, stopped, found, start_at, Reached, stops_at, positions}
use Rattle.search.specs.Trace.{Event, at, Turn, skipped_block, probed_block, starts_of, position_of, block_of, events_of}

-- a posting of the list: a position in a block, the blocks being in probing order
pub record Posting (g : Given) (bs : List ℕ) : Type 0 where
  pub blocks_before : List ℕ
  pub block : ℕ
  pub blocks_after : List ℕ
  pub in_list : bs ≡ blocks_before ++ (block ∷ blocks_after)
  pub places_before : List Place
  pub place : Place
  pub places_after : List Place
  pub in_block : positions g block ≡ places_before ++ (place ∷ places_after)

-- the story reaches a place of a block: these turns and these events came before, and this was its outcome
pub record Reaches (story : List Turn) (bs : List ℕ) (b : ℕ) (is : List Place) (i : Place) (o : Outcome) : Type 0 where
  pub turns_before : List Turn
  pub turns_after : List Turn
  pub events_before : List Event
  pub events_after : List Event
  pub told : story ≡ turns_before ++ (probed_block b (events_before ++ (at i o ∷ events_after)) ∷ turns_after)
  pub after_blocks : map block_of turns_before ≡ bs
  pub after_places : map position_of events_before ≡ is

-- its block was skipped, when its turn came
pub record Skips (story : List Turn) (bs : List ℕ) (b : ℕ) : Type 0 where
  pub turns_before : List Turn
  pub turns_after : List Turn
  pub told : story ≡ turns_before ++ (skipped_block b ∷ turns_after)
  pub after_blocks : map block_of turns_before ≡ bs

-- place j of block c, which comes after the blocks cs and the places js, comes before place i of block b or is that place
abbrev pub NoLater : List ℕ → ℕ → List Place → Place → List ℕ → ℕ → List Place → Place → Type 0
NoLater cs c js j bs b is i = ((ds : List ℕ) × (bs ≡ cs ++ (c ∷ ds))) ⊎ ((bs ≡ cs) × (b ≡ c) × (ks : List Place) × (is ++ (i ∷ []) ≡ js ++ (j ∷ ks)))

-- the search stopped in a block before its own, or in its own at a place before it or at it
pub record Stops (story : List Turn) (r : Reached) (bs : List ℕ) (b : ℕ) (is : List Place) (i : Place) : Type 0 where
  pub reason : Refusal
  pub stop_place : Place
  pub stop_block : ℕ
  pub then : State
  pub stops : r ≡ stops_at reason stop_place then
  pub turns_before : List Turn
  pub events_before : List Event
  pub told : story ≡ turns_before ++ (probed_block stop_block (events_before ++ (at stop_place (stopped reason) ∷ [])) ∷ [])
  pub no_later : NoLater (map block_of turns_before) stop_block (map position_of events_before) stop_place bs b is i

-- ---- the four of a posting
module _ (g : Given) (bs : List ℕ) where
  abbrev pub Evaluated : List Turn → Posting g bs → Type 0
  Evaluated story p = (e : Scored) × Reaches story p.blocks_before p.block p.places_before p.place (found e)

  abbrev pub InSkipped : List Turn → Posting g bs → Type 0
  InSkipped story p = Skips story p.blocks_before p.block

  -- the byte of its start was not 0 at first, or its start is that of a posting evaluated before it
  abbrev pub VisitedBefore : State → List Turn → Posting g bs → Type 0
  VisitedBefore s story p =
      (m : Reaches story p.blocks_before p.block p.places_before p.place passed)
      × ((get_or s.visits (start_at g p.place) 0 ≡ 0 → ⊥) ⊎ (among (start_at g p.place) (starts_of g (events_of m.turns_before ++ m.events_before)) ≡ true))

  abbrev pub StoppedBefore : Reached → List Turn → Posting g bs → Type 0
  StoppedBefore r story p = Stops story r p.blocks_before p.block p.places_before p.place
