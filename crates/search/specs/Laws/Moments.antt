-- Each turn and each event of a story is right at its moment.
use Rattle.std.specs.Prelude.{ℕ, ◌≡◌, refl, Bool, true, false, cond, ◌↔◌, get_or, set, eqb}
use Rattle.std.proofs.Common.{arith, ap, ◌∙◌, subst, eq-eqb, ne_eqb}
use mathlib.Core.List.{List, [], ◌∷◌, ◌++◌, head-eq_of_cons-eq, tail-eq_of_cons-eq}
use Rattle.search_postings.specs.declared.RangeReading.{RangeReading}
use Rattle.search_postings.specs.declared.RangeReading.TheVariants.{ReachesPast, Breaks, Score}
use Rattle.search_probe.specs.Probing.{Place, Given, State, Outcome, passed, stopped, found, of_reading, outcome, packed_at, start_at, Reached, goes_on, stops_at, skips, positions, turn}
use Rattle.search.specs.Trace.{Event, at, Turn, skipped_block, probed_block, unless_stopped, marking, events, unless_stops, turn_of, turns, starts_of, marked, after}
use Rattle.search.specs.Laws.Told.{nil-cut, turn-then}

-- an event is what its posting gives, the visit bytes being what they are at that moment
abbrev pub EventRight : Given → List ℕ → Event → Type 0
EventRight g visits (at i o) = outcome g visits i ≡ o

-- passed exactly when the byte of its start is not 0
pub passed-iff : (g : Given) (visits : List ℕ) (i : Place) → (outcome g visits i ≡ passed) ↔ (get_or visits (start_at g i) 0 ≡ 0 → ⊥)
passed-iff g visits i = (there, back)
  where
    clash : (r : RangeReading) → of_reading (packed_at g i) r ≡ passed → ⊥
    clash ReachesPast h = let z : ◌≡◌ {A = ℕ} 0 1 = cc in omega arith
    clash Breaks h = let z : ◌≡◌ {A = ℕ} 0 1 = cc in omega arith
    clash (Score x) h = let z : ◌≡◌ {A = ℕ} 0 1 = cc in omega arith

    there : outcome g visits i ≡ passed → get_or visits (start_at g i) 0 ≡ 0 → ⊥
    there h z = let e : eqb (get_or visits (start_at g i) 0) 0 ≡ true = eq-eqb (get_or visits (start_at g i) 0) 0 z in clash (g.read (packed_at g i)) (rw e at h)

    back : (get_or visits (start_at g i) 0 ≡ 0 → ⊥) → outcome g visits i ≡ passed
    back h = let e : eqb (get_or visits (start_at g i) 0) 0 ≡ false = ne_eqb (get_or visits (start_at g i) 0) 0 h in rw e

-- a turn is what the skip test says, with what is kept at that moment
abbrev pub TurnRight : Given → State → Turn → Type 0
TurnRight g s (skipped_block b) = skips g s.kept b ≡ true
TurnRight g s (probed_block b es) = (skips g s.kept b ≡ false) × (es ≡ events g (positions g b) s.visits)

marking-is : (g : Given) (v : List ℕ) (i : Place) (o : Outcome) → marking g v i o ≡ marked v (starts_of g (at i o ∷ []))
marking-is g v i passed = refl
marking-is g v i (stopped r) = refl
marking-is g v i (found e) = refl

pub event-right : (g : Given) (is : List Place) (visits : List ℕ) (x : List Event) (v : Event) (y : List Event) → events g is visits ≡ x ++ (v ∷ y) → EventRight g (marked visits (starts_of g x)) v
event-right g [] visits x v y e = absurd (nil-cut x v y e)
event-right g (i ∷ is) visits [] v y e = subst (EventRight g visits) (head-eq_of_cons-eq e) refl
event-right g (i ∷ is) visits (u ∷ x) v y e = go (outcome g visits i) (event-right g is) (head-eq_of_cons-eq e) (tail-eq_of_cons-eq e)
  where
    go : (o : Outcome) → ((w : List ℕ) (x : List Event) (v : Event) (y : List Event) → events g is w ≡ x ++ (v ∷ y) → EventRight g (marked w (starts_of g x)) v)
        → at i o ≡ u → unless_stopped o (events g is (marking g visits i o)) ≡ x ++ (v ∷ y) → EventRight g (marked visits (starts_of g (u ∷ x))) v
    go passed h p q = subst (λ z. EventRight g (marked visits (starts_of g (z ∷ x))) v) p (h visits x v y q)
    go (stopped r) h p q = absurd (nil-cut x v y q)
    go (found e) h p q = subst (λ z. EventRight g (marked visits (starts_of g (z ∷ x))) v) p (h (set visits (start_at g i) 1) x v y q)

pub turn-right : (g : Given) (bs : List ℕ) (s : State) (p : List Turn) (t : Turn) (q : List Turn) → turns g bs s ≡ p ++ (t ∷ q) → TurnRight g (after g s p) t
turn-right g [] s p t q e = absurd (nil-cut p t q e)
turn-right g (b ∷ bs) s [] t q e = subst (TurnRight g (after g s [])) (head-eq_of_cons-eq e) (go (skips g s.kept b) refl)
  where
    go : (x : Bool) → skips g s.kept b ≡ x → TurnRight g (after g s []) (cond x (skipped_block b) (probed_block b (events g (positions g b) s.visits)))
    go true h = h
    go false h = (h, refl)
turn-right g (b ∷ bs) s (u ∷ p) t q e = go (turn g b s) refl (turn-right g bs) (head-eq_of_cons-eq e) (tail-eq_of_cons-eq e)
  where
    go : (r : Reached) → turn g b s ≡ r → ((s : State) (p : List Turn) (t : Turn) (q : List Turn) → turns g bs s ≡ p ++ (t ∷ q) → TurnRight g (after g s p) t)
        → turn_of g b s ≡ u → unless_stops r (turns g bs) ≡ p ++ (t ∷ q) → TurnRight g (after g s (u ∷ p)) t
    go (goes_on w) d h c f = subst (λ z. TurnRight g z t) (rw d at (turn-then g b s p) ∙ ap (λ z. after g s (z ∷ p)) c) (h w p t q f)
    go (stops_at r i w) d h c f = absurd (nil-cut p t q f)
