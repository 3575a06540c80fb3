-- What is told of a posting, beside what became of it in the search's story. Document 01, "Search".
use Rattle.std.specs.Prelude.{ℕ, ◌≡◌, false, List, ◌↔◌, get_or, Float, Ok}
use Rattle.std.specs.Float.{nan, binary32}
use Rattle.std.specs.Float.Ieee.{mul}
use Rattle.sequences.specs.Lists.{EachOf, among}
use Rattle.refusal.specs.First.{first_of}
use Rattle.search_probe.specs.declared.Answer.{Answer}
use Rattle.search_probe.specs.declared.Answer.TheVariants.{Found}
use Rattle.search_probe.specs.Probing.{Place, Given, State, Outcome, passed, stopped, found, positions, sweep, worst}
use Rattle.search_probe.specs.Probed.{Terms, Lends, given, tests, opened, listed, probed}
use Rattle.search.specs.Trace.{Turn, turns, after}
use Rattle.search.specs.Fates.{Posting, Reaches, Evaluated, InSkipped, VisitedBefore, StoppedBefore}
use Rattle.explain.specs.declared.Fate.{Fate}
use Rattle.explain.specs.declared.Fate.TheVariants as tells
use Rattle.explain.specs.Reasons.{fate_of}

-- a search of so many turns: what is asked, the list, the blocks' scores and the order of their turns, and what is lent at its beginning
pub record Search : Type 0 where
  pub k : ℕ
  pub factor : Float
  pub terms : Terms
  pub postings : List ℕ
  pub block_offsets : List ℕ
  pub block_scores : List Float
  pub block_order : List ℕ
  pub count : ℕ
  pub lent : Lends

-- ---- what is told
abbrev pub told : Search → Place → Fate
told q i = (fate_of q.k q.factor q.terms q.postings q.block_offsets q.block_scores q.block_order q.count i q.lent).fate

-- ---- what is true: the search's story
abbrev pub given_of : Search → Given
given_of q = given q.k q.factor q.terms q.postings q.block_offsets q.block_scores

abbrev pub blocks_of : Search → List ℕ
blocks_of q = listed q.block_order q.count

abbrev pub began_with : Search → State
began_with q = opened q.terms q.lent

abbrev pub story_of : Search → List Turn
story_of q = turns (given_of q) (blocks_of q) (began_with q)

-- a search that came to its end
abbrev pub answered : Search → Answer
answered q = (probed q.k q.factor q.terms q.postings q.block_offsets q.block_scores (blocks_of q) q.lent).answer

pub record Ended (q : Search) : Type 0 where
  pub kept : ℕ
  pub evaluated : ℕ
  pub skipped : ℕ
  pub found : answered q ≡ Found kept evaluated skipped

-- a place in a block of the turns
abbrev pub PostingOf : Search → Type 0
PostingOf q = Posting (given_of q) (blocks_of q)

-- no block whose turn comes earlier has it
abbrev pub InFirst : (q : Search) → PostingOf q → Type 0
InFirst q p = EachOf (λ b. among p.place (positions (given_of q) b) ≡ false) p.blocks_before

-- the block's score, and the factor times the worst score kept after the turns before it
pub record SkippedBy (q : Search) (p : PostingOf q) (score bar : Float) : Type 0 where
  pub skips : InSkipped (given_of q) (blocks_of q) (story_of q) p
  pub score-is : score ≡ get_or q.block_scores p.block nan
  pub bar_is : bar ≡ mul binary32 q.factor (worst (after (given_of q) (began_with q) skips.turns_before).kept)

-- ---- what is told is what is true
pub record TellsTrue (q : Search) : Type 0 where
  -- in no block is told of a place exactly when no block of the turns has it
  pub in_no_block : (i : Place) → (told q i ≡ tells.InNoBlock) ↔ ((p : PostingOf q) → p.place ≡ i → ⊥)
  -- of any other it is told what became of it in the first block that has it
  pub in_a_block : (i : Place) → (told q i ≡ tells.InNoBlock → ⊥) → (p : PostingOf q) × (p.place ≡ i) × InFirst q p
  -- skipped exactly when the story has its block skipped, with the block's score and the bar that it had to reach
  pub skipped : (p : PostingOf q) → InFirst q p → (score bar : Float) → (told q p.place ≡ tells.Skipped score bar) ↔ SkippedBy q p score bar
  -- visited before exactly when the story passes it over, its start being visited at first or evaluated earlier in the story
  pub visited_before : (p : PostingOf q) → InFirst q p → (told q p.place ≡ tells.VisitedBefore) ↔ VisitedBefore (given_of q) (blocks_of q) (began_with q) (story_of q) p
  -- read exactly when the story evaluates it
  pub read : (p : PostingOf q) → InFirst q p → (told q p.place ≡ tells.Read) ↔ Evaluated (given_of q) (blocks_of q) (story_of q) p
  -- not reached is told of none
  pub reached : (i : Place) → told q i ≡ tells.NotReached → ⊥

-- ---- a search that is accepted may stop: what is told of the postings that it came to is true, too
abbrev pub Begun : Search → Type 0
Begun q = first_of (tests q.k q.terms q.lent) ≡ Ok tt

abbrev pub ReachedAs : (q : Search) → PostingOf q → Outcome → Type 0
ReachedAs q p o = Reaches (story_of q) p.blocks_before p.block p.places_before p.place o

-- one that is read is evaluated, unless the search stops at it
abbrev pub told_of : Outcome → Fate
told_of passed = tells.VisitedBefore
told_of (stopped r) = tells.Read
told_of (found e) = tells.Read

pub record TellsReached (q : Search) : Type 0 where
  -- where its block is skipped
  pub skipped : (p : PostingOf q) → InFirst q p → (score bar : Float) → SkippedBy q p score bar → told q p.place ≡ tells.Skipped score bar
  -- where the story reaches it, by its outcome there
  pub reached : (p : PostingOf q) → InFirst q p → (o : Outcome) → ReachedAs q p o → told q p.place ≡ told_of o
  -- not reached is told only of one that the story does not reach, because the search stopped before it
  pub not_reached : (p : PostingOf q) → InFirst q p → told q p.place ≡ tells.NotReached
      → StoppedBefore (given_of q) (blocks_of q) (sweep (given_of q) (blocks_of q) (began_with q)) (story_of q) p × ((o : Outcome) → ReachedAs q p o → ⊥)
