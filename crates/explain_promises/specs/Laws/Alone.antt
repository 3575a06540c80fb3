-- The first turns of a search taken alone, and the first places of a block probed as a block of their own.
use Rattle.std.specs.Prelude.{ℕ, ◌+◌, ◌≡◌, refl, set, Float}
use Rattle.std.proofs.Common.{ap, ◌∙◌, subst}
use mathlib.Core.List.{List, [], ◌∷◌, ◌++◌, map, head-eq_of_cons-eq, tail-eq_of_cons-eq}
use Rattle.kept_list.specs.Keep.{keep}
use Rattle.kept_list.specs.Entry.{better}
use Rattle.search_probe.specs.Probing.{Place, Given, State, state, Outcome, passed, stopped, found, outcome, start_at, Reached, goes_on, stops_at, and_then, evaluate, probe, skips, turn, sweep}
use Rattle.search_probe.specs.Probed.{Terms, given}
use Rattle.search.specs.Trace.{Event, at, Turn, unless_stopped, marking, events, unless_stops, turn_of, turns, starts_of, position_of, block_of, marked, after}
use Rattle.search.specs.Laws.Told.{nil-cut, turn-then, sweep-told}
use Rattle.search.specs.Laws.InOrder.{block-is}

-- the first turns of a story, taken alone, leave what stands after them in the story
pub turns_alone : (g : Given) (bs : List ℕ) (s : State) (p : List Turn) (u : Turn) (q : List Turn) → turns g bs s ≡ p ++ (u ∷ q) → sweep g (map block_of p) s ≡ goes_on (after g s p)
turns_alone g [] s p u q e = absurd (nil-cut p u q e)
turns_alone g (b ∷ bs) s [] u q e = ap goes_on (sweep-told g [] s)
turns_alone g (b ∷ bs) s (v ∷ p) u q e = go (turn g b s) refl (turns_alone g bs) (head-eq_of_cons-eq e) (tail-eq_of_cons-eq e)
  where
    go : (r : Reached) → turn g b s ≡ r → ((s : State) (p : List Turn) (u : Turn) (q : List Turn) → turns g bs s ≡ p ++ (u ∷ q) → sweep g (map block_of p) s ≡ goes_on (after g s p))
        → turn_of g b s ≡ v → unless_stops r (turns g bs) ≡ p ++ (u ∷ q) → sweep g (map block_of (v ∷ p)) s ≡ goes_on (after g s (v ∷ p))
    go (goes_on w) d h c f =
        subst (λ z. sweep g (map block_of (z ∷ p)) s ≡ goes_on (after g s (z ∷ p))) c
        (ap (λ z. sweep g (z ∷ map block_of p) s) (block-is g b s (skips g s.kept b))
        ∙ ap (λ r. and_then r (sweep g (map block_of p))) d
        ∙ h w p u q f
        ∙ ap goes_on (rw d at (turn-then g b s p)))
    go (stops_at r i w) d h c f = absurd (nil-cut p u q f)

-- a block's first places, whatever block they are probed as, give the events that they give in their own: so they mark the same starts
module _ (k : ℕ) (factor : Float) (t : Terms) (ps os cs : List ℕ) (xs ys : List Float) where
  abbrev Marks : State → List Event → Type 0
  Marks s x = (z : State) × (probe (given k factor t ps cs ys) (map position_of x) s ≡ goes_on z) × (z.visits ≡ marked s.visits (starts_of (given k factor t ps os xs) x))

  pub places-alone : (is : List Place) (s : State) (x : List Event) (v : Event) (y : List Event) → events (given k factor t ps os xs) is s.visits ≡ x ++ (v ∷ y) → Marks s x
  places-alone [] s x v y e = absurd (nil-cut x v y e)
  places-alone (i ∷ is) s [] v y e = (s, refl, refl)
  places-alone (i ∷ is) s (u ∷ x) v y e = go (outcome (given k factor t ps os xs) s.visits i) refl (places-alone is) (head-eq_of_cons-eq e) (tail-eq_of_cons-eq e)
    where
      go : (o : Outcome) → outcome (given k factor t ps os xs) s.visits i ≡ o
          → ((s : State) (x : List Event) (v : Event) (y : List Event) → events (given k factor t ps os xs) is s.visits ≡ x ++ (v ∷ y) → Marks s x)
          → at i o ≡ u → unless_stopped o (events (given k factor t ps os xs) is (marking (given k factor t ps os xs) s.visits i o)) ≡ x ++ (v ∷ y) → Marks s (u ∷ x)
      go passed q h c f =
          let w = h s x v y f in
          subst (λ u. Marks s (u ∷ x)) c (w.0, ap (λ o. and_then (evaluate (given k factor t ps cs ys) i s o) (probe (given k factor t ps cs ys) (map position_of x))) q ∙ w.1, w.2)
      go (stopped r) q h c f = absurd (nil-cut x v y f)
      go (found e) q h c f =
          let w = h (state (keep better k e s.kept) (set s.visits (start_at (given k factor t ps os xs) i) 1) (s.evaluated + 1) s.skipped) x v y f in
          subst (λ u. Marks s (u ∷ x)) c (w.0, ap (λ o. and_then (evaluate (given k factor t ps cs ys) i s o) (probe (given k factor t ps cs ys) (map position_of x))) q ∙ w.1, w.2)
