-- Searches whose blocks have the same scores are the same, whatever else stands in the scores' buffers.
use Rattle.std.specs.Prelude.{ℕ, ◌+◌, ◌≡◌, refl, ◌&&◌, cond, List, [], ◌∷◌, length, get_or, set, eqb, Float}
use Rattle.std.proofs.Common.{ap, ◌∙◌}
use Rattle.std.specs.Float.{nan, binary32}
use Rattle.std.specs.Float.Ieee.{lt, mul}
use Rattle.sequences.specs.Lists.{EachOf}
use Rattle.kept_list.specs.Keep.{keep}
use Rattle.kept_list.specs.Entry.{better}
use Rattle.search_probe.specs.Probing.{Place, State, state, Outcome, passed, stopped, found, outcome, start_at, Reached, goes_on, stops_at, and_then, evaluate, probe, skips, positions, pass_over, turn}
use Rattle.search_probe.specs.Probing.{sweep, worst}
use Rattle.search_probe.specs.Probed.{Terms, given}
use Rattle.search.specs.Trace.{at, skipped_block, probed_block, unless_stopped, marking, events, unless_stops, turn_of, turns}

module _ (k : ℕ) (factor : Float) (t : Terms) (ps os : List ℕ) (xs ys : List Float) where
  -- the postings are read without a look at the blocks' scores
  probe-alike : (is : List Place) (s : State) → probe (given k factor t ps os xs) is s ≡ probe (given k factor t ps os ys) is s
  probe-alike [] s = refl
  probe-alike (i ∷ is) s = go (outcome (given k factor t ps os xs) s.visits i) (probe-alike is)
    where
      go : (o : Outcome) → ((s : State) → probe (given k factor t ps os xs) is s ≡ probe (given k factor t ps os ys) is s)
          → and_then (evaluate (given k factor t ps os xs) i s o) (probe (given k factor t ps os xs) is) ≡ and_then (evaluate (given k factor t ps os ys) i s o) (probe (given k factor t ps os ys) is)
      go passed h = h s
      go (stopped r) h = refl
      go (found e) h = h (state (keep better k e s.kept) (set s.visits (start_at (given k factor t ps os xs) i) 1) (s.evaluated + 1) s.skipped)

  events-alike : (is : List Place) (visits : List ℕ) → events (given k factor t ps os xs) is visits ≡ events (given k factor t ps os ys) is visits
  events-alike [] visits = refl
  events-alike (i ∷ is) visits = go (outcome (given k factor t ps os xs) visits i) (events-alike is)
    where
      go : (o : Outcome) → ((w : List ℕ) → events (given k factor t ps os xs) is w ≡ events (given k factor t ps os ys) is w)
          → at i o ∷ unless_stopped o (events (given k factor t ps os xs) is (marking (given k factor t ps os xs) visits i o)) ≡ at i o
          ∷ unless_stopped o (events (given k factor t ps os ys) is (marking (given k factor t ps os ys) visits i o))
      go passed h = ap (λ l. at i passed ∷ l) (h visits)
      go (stopped r) h = refl
      go (found e) h = ap (λ l. at i (found e) ∷ l) (h (set visits (start_at (given k factor t ps os xs) i) 1))

  module _ (b : ℕ) (s : State) (same : get_or xs b nan ≡ get_or ys b nan) where
    skips-alike : skips (given k factor t ps os xs) s.kept b ≡ skips (given k factor t ps os ys) s.kept b
    skips-alike = ap (λ x. eqb (length s.kept) k && lt x (mul binary32 factor (worst s.kept))) same

    turn-alike : turn (given k factor t ps os xs) b s ≡ turn (given k factor t ps os ys) b s
    turn-alike =
        ap (λ c. cond c (goes_on (pass_over s)) (probe (given k factor t ps os xs) (positions (given k factor t ps os xs) b) s)) skips-alike
        ∙ ap (λ r. cond (skips (given k factor t ps os ys) s.kept b) (goes_on (pass_over s)) r) (probe-alike (positions (given k factor t ps os xs) b) s)

    told-alike : turn_of (given k factor t ps os xs) b s ≡ turn_of (given k factor t ps os ys) b s
    told-alike =
        ap (λ c. cond c (skipped_block b) (probed_block b (events (given k factor t ps os xs) (positions (given k factor t ps os xs) b) s.visits))) skips-alike
        ∙ ap (λ es. cond (skips (given k factor t ps os ys) s.kept b) (skipped_block b) (probed_block b es)) (events-alike (positions (given k factor t ps os xs) b) s.visits)

  abbrev Alike : List ℕ → State → Type 0
  Alike bs s = (sweep (given k factor t ps os xs) bs s ≡ sweep (given k factor t ps os ys) bs s) × (turns (given k factor t ps os xs) bs s ≡ turns (given k factor t ps os ys) bs s)

  pub sweep-alike : (bs : List ℕ) (s : State) → EachOf (λ b. get_or xs b nan ≡ get_or ys b nan) bs → Alike bs s
  sweep-alike [] s e = (refl, refl)
  sweep-alike (b ∷ bs) s e =
      let rest = on (turn (given k factor t ps os ys) b s) (λ z. sweep-alike bs z e.1) in (
        ap (λ r. and_then r (sweep (given k factor t ps os xs) bs)) (turn-alike b s e.0) ∙ rest.0,
        ap (λ u. u ∷ unless_stops (turn (given k factor t ps os xs) b s) (turns (given k factor t ps os xs) bs)) (told-alike b s e.0)
            ∙ ap (λ r. turn_of (given k factor t ps os ys) b s ∷ unless_stops r (turns (given k factor t ps os xs) bs)) (turn-alike b s e.0)
            ∙ ap (λ ts. turn_of (given k factor t ps os ys) b s ∷ ts) rest.1,
      )
    where
      on : (r : Reached) → ((z : State) → Alike bs z)
          → (and_then r (sweep (given k factor t ps os xs) bs) ≡ and_then r (sweep (given k factor t ps os ys) bs)) × (unless_stops r (turns (given k factor t ps os xs) bs)
          ≡ unless_stops r (turns (given k factor t ps os ys) bs))
      on (goes_on z) h = h z
      on (stops_at n i z) h = (refl, refl)
