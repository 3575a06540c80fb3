-- Laws of InOrder: the turns and events of a story come in order, each once, up to a stop.
use Rattle.std.specs.Prelude.{ℕ, ◌+◌, ◌≡◌, refl, Bool, true, false, cond, length, set, take}
use Rattle.std.proofs.Common.{arith, sym, ap, ◌∙◌, true≢false}
use mathlib.Core.List.{List, [], ◌∷◌, ◌++◌, map, nil≢cons, head-eq_of_cons-eq, tail-eq_of_cons-eq}
use Rattle.kept_list.specs.Keep.{keep}
use Rattle.kept_list.specs.Entry.{better}
use Rattle.refusal.specs.declared.Refusal.{Refusal}
use Rattle.search_probe.specs.Probing.{Place, Given, State, state, Outcome, passed, stopped, found, outcome, start_at, Reached, goes_on, stops_at, and_then, evaluate, probe, skips, positions, turn}
use Rattle.search_probe.specs.Probing.{pass_over, sweep}
use Rattle.search.specs.Trace.{Event, at, Turn, skipped_block, probed_block, unless_stopped, marking, events, unless_stops, turn_of, turns, position_of, block_of}
use Rattle.search.specs.Laws.Told.{nil-cut}
use Rattle.search.specs.InOrder.{stops_in}

pub events-in-order : (g : Given) (is : List Place) (visits : List ℕ) → map position_of (events g is visits) ≡ take (length (events g is visits)) is
events-in-order g [] visits = refl
events-in-order g (i ∷ is) visits = go (outcome g visits i) (events-in-order g is)
  where
    go : (o : Outcome) → ((w : List ℕ) → map position_of (events g is w) ≡ take (length (events g is w)) is)
        → map position_of (at i o ∷ unless_stopped o (events g is (marking g visits i o))) ≡ take (length (at i o ∷ unless_stopped o (events g is (marking g visits i o)))) (i ∷ is)
    go passed h = ap (λ l. i ∷ l) (h visits)
    go (stopped r) h = refl
    go (found e) h = ap (λ l. i ∷ l) (h (set visits (start_at g i) 1))

pub events-all : (g : Given) (is : List Place) (visits : List ℕ) → stops_in (events g is visits) ≡ false → map position_of (events g is visits) ≡ is
events-all g [] visits h = refl
events-all g (i ∷ is) visits h = go (outcome g visits i) (events-all g is) h
  where
    go : (o : Outcome) → ((w : List ℕ) → stops_in (events g is w) ≡ false → map position_of (events g is w) ≡ is)
        → stops_in (at i o ∷ unless_stopped o (events g is (marking g visits i o))) ≡ false → map position_of (at i o ∷ unless_stopped o (events g is (marking g visits i o))) ≡ i ∷ is
    go passed f h = ap (λ l. i ∷ l) (f visits h)
    go (stopped r) f h = absurd (true≢false h)
    go (found e) f h = ap (λ l. i ∷ l) (f (set visits (start_at g i) 1) h)

probe-on : (g : Given) (is : List Place) (s t : State) → probe g is s ≡ goes_on t → stops_in (events g is s.visits) ≡ false
probe-on g [] s t e = refl
probe-on g (i ∷ is) s t e = go (outcome g s.visits i) (probe-on g is) e
  where
    go : (o : Outcome) → ((s t : State) → probe g is s ≡ goes_on t → stops_in (events g is s.visits) ≡ false)
        → and_then (evaluate g i s o) (probe g is) ≡ goes_on t → stops_in (at i o ∷ unless_stopped o (events g is (marking g s.visits i o))) ≡ false
    go passed h e = h s t e
    go (stopped r) h e = cc
    go (found f) h e = h (state (keep better g.k f s.kept) (set s.visits (start_at g i) 1) (s.evaluated + 1) s.skipped) t e

probe-off : (g : Given) (is : List Place) (s t : State) (r : Refusal) (j : Place) → probe g is s ≡ stops_at r j t → (x : List Event) × (events g is s.visits ≡ x ++ (at j (stopped r) ∷ []))
probe-off g [] s t r j e = absurd (no e)
  where
    no : goes_on s ≡ stops_at r j t → ⊥
    no e = let z : ◌≡◌ {A = ℕ} 0 1 = cc in omega arith
probe-off g (i ∷ is) s t r j e = go (outcome g s.visits i) (probe-off g is) e
  where
    go : (o : Outcome) → ((s t : State) (r : Refusal) (j : Place) → probe g is s ≡ stops_at r j t → (x : List Event) × (events g is s.visits ≡ x ++ (at j (stopped r) ∷ [])))
        → and_then (evaluate g i s o) (probe g is) ≡ stops_at r j t → (x : List Event) × (at i o ∷ unless_stopped o (events g is (marking g s.visits i o)) ≡ x ++ (at j (stopped r) ∷ []))
    go passed h e = let w = h s t r j e in (at i passed ∷ w.0, ap (λ l. at i passed ∷ l) w.1)
    go (stopped q) h e = ([], cc)
    go (found f) h e =
        let w = h (state (keep better g.k f s.kept) (set s.visits (start_at g i) 1) (s.evaluated + 1) s.skipped) t r j e in
        (at i (found f) ∷ w.0, ap (λ l. at i (found f) ∷ l) w.1)

pub block-is : (g : Given) (b : ℕ) (s : State) (x : Bool) → block_of (cond x (skipped_block b) (probed_block b (events g (positions g b) s.visits))) ≡ b
block-is g b s true = refl
block-is g b s false = refl

pub turns-in-order : (g : Given) (bs : List ℕ) (s : State) → map block_of (turns g bs s) ≡ take (length (turns g bs s)) bs
turns-in-order g [] s = refl
turns-in-order g (b ∷ bs) s = go (turn g b s) (turns-in-order g bs)
  where
    go : (r : Reached) → ((s : State) → map block_of (turns g bs s) ≡ take (length (turns g bs s)) bs)
        → map block_of (turn_of g b s ∷ unless_stops r (turns g bs)) ≡ take (length (turn_of g b s ∷ unless_stops r (turns g bs))) (b ∷ bs)
    go (goes_on t) h = let k = block-is g b s (skips g s.kept b) in let m = h t in cc
    go (stops_at r i t) h = let k = block-is g b s (skips g s.kept b) in cc

pub turns-all : (g : Given) (bs : List ℕ) (s t : State) → sweep g bs s ≡ goes_on t → map block_of (turns g bs s) ≡ bs
turns-all g [] s t e = refl
turns-all g (b ∷ bs) s t e = go (turn g b s) (turns-all g bs) e
  where
    go : (r : Reached) → ((s t : State) → sweep g bs s ≡ goes_on t → map block_of (turns g bs s) ≡ bs)
        → and_then r (sweep g bs) ≡ goes_on t → map block_of (turn_of g b s ∷ unless_stops r (turns g bs)) ≡ b ∷ bs
    go (goes_on w) h e = let k = block-is g b s (skips g s.kept b) in let m = h w t e in cc
    go (stops_at r i w) h e = cc

-- a turn after which the search went on has no stop in it
abbrev pub stops_in_turn : Turn → Bool
stops_in_turn (skipped_block b) = false
stops_in_turn (probed_block b es) = stops_in es

turn_on : (g : Given) (b : ℕ) (s t : State) → turn g b s ≡ goes_on t → stops_in_turn (turn_of g b s) ≡ false
turn_on g b s t e = go (skips g s.kept b) e
  where
    go : (x : Bool) → cond x (goes_on (pass_over s)) (probe g (positions g b) s) ≡ goes_on t → stops_in_turn (cond x (skipped_block b) (probed_block b (events g (positions g b) s.visits))) ≡ false
    go true e = refl
    go false e = probe-on g (positions g b) s t e

pub no-stop-before : (g : Given) (bs : List ℕ) (s : State) (p : List Turn) (t u : Turn) (q : List Turn) → turns g bs s ≡ p ++ (t ∷ u ∷ q) → stops_in_turn t ≡ false
no-stop-before g [] s p t u q e = absurd (nil-cut p t (u ∷ q) e)
no-stop-before g (b ∷ bs) s [] t u q e = go (turn g b s) refl (tail-eq_of_cons-eq e)
  where
    go : (r : Reached) → turn g b s ≡ r → unless_stops r (turns g bs) ≡ u ∷ q → stops_in_turn t ≡ false
    go (goes_on w) d f = ap stops_in_turn (sym (head-eq_of_cons-eq e)) ∙ turn_on g b s w d
    go (stops_at r i w) d f = absurd (nil≢cons f)
no-stop-before g (b ∷ bs) s (v ∷ p) t u q e = go (turn g b s) (no-stop-before g bs) (tail-eq_of_cons-eq e)
  where
    go : (r : Reached) → ((s : State) (p : List Turn) (t u : Turn) (q : List Turn) → turns g bs s ≡ p ++ (t ∷ u ∷ q) → stops_in_turn t ≡ false)
        → unless_stops r (turns g bs) ≡ p ++ (t ∷ u ∷ q) → stops_in_turn t ≡ false
    go (goes_on w) h f = h w p t u q f
    go (stops_at r i w) h f = absurd (nil-cut p t (u ∷ q) f)

pub no-stop-on : (g : Given) (bs : List ℕ) (s t : State) → sweep g bs s ≡ goes_on t → (p : List Turn) (u : Turn) (q : List Turn) → turns g bs s ≡ p ++ (u ∷ q) → stops_in_turn u ≡ false
no-stop-on g [] s t o p u q e = absurd (nil-cut p u q e)
no-stop-on g (b ∷ bs) s t o [] u q e = go (turn g b s) refl o
  where
    go : (r : Reached) → turn g b s ≡ r → and_then r (sweep g bs) ≡ goes_on t → stops_in_turn u ≡ false
    go (goes_on w) d f = ap stops_in_turn (sym (head-eq_of_cons-eq e)) ∙ turn_on g b s w d
    go (stops_at r i w) d f = cc
no-stop-on g (b ∷ bs) s t o (v ∷ p) u q e = go (turn g b s) (no-stop-on g bs) o (tail-eq_of_cons-eq e)
  where
    go : (r : Reached) → ((s t : State) → sweep g bs s ≡ goes_on t → (p : List Turn) (u : Turn) (q : List Turn) → turns g bs s ≡ p ++ (u ∷ q) → stops_in_turn u ≡ false)
        → and_then r (sweep g bs) ≡ goes_on t → unless_stops r (turns g bs) ≡ p ++ (u ∷ q) → stops_in_turn u ≡ false
    go (goes_on w) h o f = h w t o p u q f
    go (stops_at r i w) h o f = absurd (nil-cut p u q f)

-- a search that stops has the stop for its last event
pub turn-off : (g : Given) (b : ℕ) (s t : State) (r : Refusal) (i : Place) → turn g b s ≡ stops_at r i t → (x : List Event) × (turn_of g b s ≡ probed_block b (x ++ (at i (stopped r) ∷ [])))
turn-off g b s t r i e = go (skips g s.kept b) e
  where
    no : goes_on (pass_over s) ≡ stops_at r i t → ⊥
    no e = let z : ◌≡◌ {A = ℕ} 0 1 = cc in omega arith

    go : (x : Bool) → cond x (goes_on (pass_over s)) (probe g (positions g b) s) ≡ stops_at r i t
        → (y : List Event) × (cond x (skipped_block b) (probed_block b (events g (positions g b) s.visits)) ≡ probed_block b (y ++ (at i (stopped r) ∷ [])))
    go true e = absurd (no e)
    go false e = let w = probe-off g (positions g b) s t r i e in (w.0, ap (probed_block b) w.1)

pub stop-is-last : (g : Given) (bs : List ℕ) (s t : State) (r : Refusal) (i : Place) → sweep g bs s ≡ stops_at r i t
    → (p : List Turn) × (b : ℕ) × (x : List Event) × (turns g bs s ≡ p ++ (probed_block b (x ++ (at i (stopped r) ∷ [])) ∷ []))
stop-is-last g [] s t r i e = absurd (no e)
  where
    no : goes_on s ≡ stops_at r i t → ⊥
    no e = let z : ◌≡◌ {A = ℕ} 0 1 = cc in omega arith
stop-is-last g (b ∷ bs) s t r i e = go (turn g b s) refl (stop-is-last g bs) e
  where
    go : (y : Reached) → turn g b s ≡ y → ((s t : State) (r : Refusal) (i : Place) → sweep g bs s ≡ stops_at r i t → (p : List Turn) × (b : ℕ) × (x : List Event)
        × (turns g bs s ≡ p ++ (probed_block b (x ++ (at i (stopped r) ∷ [])) ∷ [])))
        → and_then y (sweep g bs) ≡ stops_at r i t
        → (p : List Turn) × (c : ℕ) × (x : List Event) × (turn_of g b s ∷ unless_stops y (turns g bs) ≡ p ++ (probed_block c (x ++ (at i (stopped r) ∷ [])) ∷ []))
    go (goes_on w) d h e = let k = h w t r i e in (turn_of g b s ∷ k.0, k.1, k.2, ap (λ l. turn_of g b s ∷ l) k.3)
    go (stops_at q j w) d h e = let k = turn-off g b s t r i (d ∙ e) in ([], b, k.0, ap (λ z. z ∷ []) k.1)
