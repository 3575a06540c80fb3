-- Each start is evaluated at most once, and its byte tells.
use Rattle.std.specs.Prelude.{ℕ, ◌<◌, ◌≡◌, refl, Bool, true, false, not, ◌&&◌, ◌||◌, cond, List, [], ◌∷◌, ◌++◌, map, length, get_or, set, eqb}
use Rattle.std.proofs.Common.{arith, sym, ap, ◌∙◌, subst, true≢false, length-set, get_or-set_same, get_or-set_other, eqb-true, eq-eqb}
use Rattle.std.proofs.lemmas.Bool.{eqb-false}
use Rattle.sequences.specs.Lists.{among}
use Rattle.refusal.specs.declared.Refusal.{Refusal}
use Rattle.refusal.specs.declared.Refusal.TheVariants.{PastTheTerms, WrongTerms}
use Rattle.kept_list.specs.declared.Scored.{Scored}
use Rattle.search_postings.specs.declared.RangeReading.{RangeReading}
use Rattle.search_postings.specs.declared.RangeReading.TheVariants.{ReachesPast, Breaks, Score}
use Rattle.search_probe.specs.Probing.{Place, Given, State, Outcome, passed, stopped, found, outcome, of_reading, packed_at, start_at, Reached, goes_on, stops_at, probe, skips, positions, pass_over, left}
use Rattle.search.specs.Trace.{Event, at, skipped_block, probed_block, unless_stopped, marking, events, unless_stops, turns, starts_of, places_of, events_of, distinct, marked}
use Rattle.search.specs.Laws.Told.{probe-told}
use Rattle.search.specs.Laws.Moments.{EventRight}

-- the start of a posting that can be scored has its byte
abbrev pub HasBytes : Given → List ℕ → Type 0
HasBytes g visits = (i : Place) (x : _) → g.read (packed_at g i) ≡ Score x → start_at g i < length visits

-- the events are right from some visit bytes on
abbrev pub AllRight : Given → List ℕ → List Event → Type 0
AllRight g visits [] = Unit {0}
AllRight g visits (v ∷ es) = EventRight g visits v × AllRight g (marked visits (starts_of g (v ∷ []))) es

right-append : (g : Given) (visits : List ℕ) (es fs : List Event) → AllRight g visits es → AllRight g (marked visits (starts_of g es)) fs → AllRight g visits (es ++ fs)
right-append g visits [] fs a b = b
right-append g visits (at i passed ∷ es) fs a b = (a.0, right-append g visits es fs a.1 b)
right-append g visits (at i (stopped r) ∷ es) fs a b = (a.0, right-append g visits es fs a.1 b)
right-append g visits (at i (found e) ∷ es) fs a b = (a.0, right-append g (set visits (start_at g i) 1) es fs a.1 b)

events-right : (g : Given) (is : List Place) (visits : List ℕ) → AllRight g visits (events g is visits)
events-right g [] visits = tt
events-right g (i ∷ is) visits = (refl, go (outcome g visits i) (events-right g is))
  where
    go : (o : Outcome) → ((w : List ℕ) → AllRight g w (events g is w)) → AllRight g (marked visits (starts_of g (at i o ∷ []))) (unless_stopped o (events g is (marking g visits i o)))
    go passed h = h visits
    go (stopped r) h = tt
    go (found e) h = h (set visits (start_at g i) 1)

pub all_right : (g : Given) (bs : List ℕ) (s : State) → AllRight g s.visits (events_of (turns g bs s))
all_right g [] s = tt
all_right g (b ∷ bs) s = go (skips g s.kept b) (all_right g bs)
  where
    go : (x : Bool) → ((s : State) → AllRight g s.visits (events_of (turns g bs s)))
        → AllRight g s.visits (events_of (cond x (skipped_block b) (probed_block b (events g (positions g b) s.visits)) ∷ unless_stops (cond x (goes_on (pass_over s)) (probe g (positions g b) s))
        (turns g bs)))
    go true h = h (pass_over s)
    go false h = right-append g s.visits (events g (positions g b) s.visits) (events_of (unless_stops (probe g (positions g b) s) (turns g bs))) (events-right g (positions g b) s.visits)
        (rest (probe g (positions g b) s) refl)
      where
        rest : (r : Reached) → probe g (positions g b) s ≡ r → AllRight g (marked s.visits (starts_of g (events g (positions g b) s.visits))) (events_of (unless_stops r (turns g bs)))
        rest (goes_on t) e = subst (λ w. AllRight g w (events_of (turns g bs t))) (ap (λ (z : State). z.visits) (ap left (sym e) ∙ probe-told g (positions g b) s)) (h t)
        rest (stops_at r i t) e = tt

-- a posting that was evaluated had a byte, and it was 0
found-fresh : (g : Given) (visits : List ℕ) (i : Place) (e : Scored) → HasBytes g visits → outcome g visits i ≡ found e → (get_or visits (start_at g i) 0 ≡ 0) × (start_at g i < length visits)
found-fresh g visits i e room h = go (eqb (get_or visits (start_at g i) 0) 0) refl h
  where
    clash : passed ≡ found e → ⊥
    clash h = let z : ◌≡◌ {A = ℕ} 0 1 = cc in omega arith

    stop-clash : (r : Refusal) → stopped r ≡ found e → ⊥
    stop-clash r h = let z : ◌≡◌ {A = ℕ} 0 1 = cc in omega arith

    within : (r : RangeReading) → g.read (packed_at g i) ≡ r → of_reading (packed_at g i) r ≡ found e → start_at g i < length visits
    within ReachesPast q h = absurd (stop-clash PastTheTerms h)
    within Breaks q h = absurd (stop-clash WrongTerms h)
    within (Score x) q h = room i x q

    go : (b : Bool) → eqb (get_or visits (start_at g i) 0) 0 ≡ b → cond (not b) passed (of_reading (packed_at g i) (g.read (packed_at g i))) ≡ found e
        → (get_or visits (start_at g i) 0 ≡ 0) × (start_at g i < length visits)
    go true q h = (eqb-true (get_or visits (start_at g i) 0) 0 q, within (g.read (packed_at g i)) refl h)
    go false q h = absurd (clash h)

bytes-kept : (g : Given) (visits : List ℕ) (n : ℕ) → HasBytes g visits → HasBytes g (set visits n 1)
bytes-kept g visits n room i x q = rw (length-set visits n 1) (room i x q)

pub fresh : (g : Given) (visits : List ℕ) (es : List Event) → HasBytes g visits → AllRight g visits es
    → (n : ℕ) → among n (starts_of g es) ≡ true → (n < length visits) × (get_or visits n 0 ≡ 0)
fresh g visits [] room a n h = absurd (true≢false (sym h))
fresh g visits (at i passed ∷ es) room a n h = fresh g visits es room a.1 n h
fresh g visits (at i (stopped r) ∷ es) room a n h = fresh g visits es room a.1 n h
fresh g visits (at i (found e) ∷ es) room a n h = go (eqb n (start_at g i)) refl h (fresh g (set visits (start_at g i) 1) es (bytes-kept g visits (start_at g i) room) a.1 n)
  where
    go : (b : Bool) → eqb n (start_at g i) ≡ b → (b || among n (starts_of g es)) ≡ true
        → (among n (starts_of g es) ≡ true → (n < length (set visits (start_at g i) 1)) × (get_or (set visits (start_at g i) 1) n 0 ≡ 0)) → (n < length visits) × (get_or visits n 0 ≡ 0)
    go true q h f = let w = found-fresh g visits i e room a.0 in rw (eqb-true n (start_at g i) q) (w.1, w.0)
    go false q h f = let w = f h in (rw (length-set visits (start_at g i) 1) at w.0, sym (get_or-set_other visits (start_at g i) n 1 0 (eqb-false n (start_at g i) q)) ∙ w.1)

pub all-different : (g : Given) (visits : List ℕ) (es : List Event) → HasBytes g visits → AllRight g visits es → distinct (starts_of g es) ≡ true
all-different g visits [] room a = refl
all-different g visits (at i passed ∷ es) room a = all-different g visits es room a.1
all-different g visits (at i (stopped r) ∷ es) room a = all-different g visits es room a.1
all-different g visits (at i (found e) ∷ es) room a =
    go (among (start_at g i) (starts_of g es)) (fresh g (set visits (start_at g i) 1) es (bytes-kept g visits (start_at g i) room) a.1 (start_at g i))
    (all-different g (set visits (start_at g i) 1) es (bytes-kept g visits (start_at g i) room) a.1)
  where
    one : ◌≡◌ {A = ℕ} 1 0 → ⊥
    one h = omega arith

    go : (b : Bool) → (b ≡ true → (start_at g i < length (set visits (start_at g i) 1)) × (get_or (set visits (start_at g i) 1) (start_at g i) 0 ≡ 0))
        → distinct (starts_of g es) ≡ true → (not b && distinct (starts_of g es)) ≡ true
    go true f d = absurd (one (sym (get_or-set_same visits (start_at g i) 1 0 (found-fresh g visits i e room a.0).1) ∙ (f refl).1))
    go false f d = d

-- ---- postings whose starts differ are not the same
starts-of-places : (g : Given) (es : List Event) → starts_of g es ≡ map (start_at g) (places_of es)
starts-of-places g [] = refl
starts-of-places g (at i passed ∷ es) = starts-of-places g es
starts-of-places g (at i (stopped r) ∷ es) = starts-of-places g es
starts-of-places g (at i (found e) ∷ es) = ap (λ l. start_at g i ∷ l) (starts-of-places g es)

among-map : (f : ℕ → ℕ) (n : ℕ) (ns : List ℕ) → among (f n) (map f ns) ≡ false → among n ns ≡ false
among-map f n [] h = refl
among-map f n (m ∷ ms) h = go (eqb n m) refl (among-map f n ms)
  where
    same : eqb n m ≡ true → eqb (f n) (f m) ≡ true
    same e = eq-eqb (f n) (f m) (ap f (eqb-true n m e))

    go : (b : Bool) → eqb n m ≡ b → (among (f n) (map f ms) ≡ false → among n ms ≡ false) → (b || among n ms) ≡ false
    go true e k = absurd (true≢false (sym (ap (λ z. z || among (f n) (map f ms)) (same e)) ∙ h))
    go false e k = k (or-false (eqb (f n) (f m)) (among (f n) (map f ms)) h)
      where
        or-false : (a b : Bool) → (a || b) ≡ false → b ≡ false
        or-false true b h = absurd (true≢false h)
        or-false false b h = h

distinct-map : (f : ℕ → ℕ) (ns : List ℕ) → distinct (map f ns) ≡ true → distinct ns ≡ true
distinct-map f [] h = refl
distinct-map f (n ∷ ns) h = go (among (f n) (map f ns)) refl h (distinct-map f ns)
  where
    go : (b : Bool) → among (f n) (map f ns) ≡ b → (not b && distinct (map f ns)) ≡ true → (distinct (map f ns) ≡ true → distinct ns ≡ true) → (not (among n ns) && distinct ns) ≡ true
    go true e h k = absurd (true≢false (sym h))
    go false e h k = rw (among-map f n ns e) (k h)

pub places-differ : (g : Given) (es : List Event) → distinct (starts_of g es) ≡ true → distinct (places_of es) ≡ true
places-differ g es h = distinct-map (start_at g) (places_of es) (ap distinct (sym (starts-of-places g es)) ∙ h)

-- ---- the visit bytes, one by one
pub marked-at : (visits ns : List ℕ) (n : ℕ) → n < length visits → get_or (marked visits ns) n 0 ≡ cond (among n ns) 1 (get_or visits n 0)
marked-at visits [] n h = refl
marked-at visits (m ∷ ms) n h =
    marked-at (set visits m 1) ms n (rw (length-set visits m 1) h) ∙ go (eqb n m) refl
  where
    go : (b : Bool) → eqb n m ≡ b → cond (among n ms) 1 (get_or (set visits m 1) n 0) ≡ cond (b || among n ms) 1 (get_or visits n 0)
    go true q = let e : n ≡ m = eqb-true n m q in same (among n ms) (ap (λ j. get_or (set visits m 1) j 0) e ∙ get_or-set_same visits m 1 0 (rw (← e) h))
      where
        same : (b : Bool) → get_or (set visits m 1) n 0 ≡ 1 → cond b 1 (get_or (set visits m 1) n 0) ≡ 1
        same true k = refl
        same false k = k
    go false q = ap (λ j. cond (among n ms) 1 j) (get_or-set_other visits m n 1 0 (eqb-false n m q))
