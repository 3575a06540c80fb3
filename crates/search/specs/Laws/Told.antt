-- What a search leaves is what its story tells.
use Rattle.std.specs.Prelude.{ℕ, suc, ◌+◌, ◌≡◌, refl, Bool, true, false, cond, length, set}
use Rattle.std.proofs.Common.{arith, sym, ap, ◌∙◌, length-append, length-set}
use mathlib.Core.List.{List, [], ◌∷◌, ◌++◌, append_assoc, nil≢cons}
use Rattle.kept_list.specs.declared.Scored.{Scored}
use Rattle.kept_list.specs.Keep.{keep, keep_all}
use Rattle.kept_list.specs.Entry.{better}
use Rattle.search_probe.specs.Probing.{Place, Given, State, state, Outcome, passed, stopped, found, outcome, start_at, Reached, goes_on, stops_at, and_then, evaluate, probe, skips, positions, turn}
use Rattle.search_probe.specs.Probing.{pass_over, sweep, left}
use Rattle.search.specs.Trace.{Event, at, Turn, skipped_block, probed_block, unless_stopped, marking, events, unless_stops, turn_of, turns, entries_of, starts_of, events_of, skipped_in, marked, after}

module _ {A : Type 0} where
  pub nil-cut : (x : List A) (v : A) (y : List A) → Path (List A) [] (x ++ (v ∷ y)) → ⊥
  nil-cut [] v y e = nil≢cons e
  nil-cut (u ∷ x) v y e = nil≢cons e

keep_all-append : (k : ℕ) (es ps qs : List Scored) → keep_all better k es (ps ++ qs) ≡ keep_all better k (keep_all better k es ps) qs
keep_all-append k es [] qs = refl
keep_all-append k es (p ∷ ps) qs = keep_all-append k (keep better k p es) ps qs

marked_append : (v ns ms : List ℕ) → marked v (ns ++ ms) ≡ marked (marked v ns) ms
marked_append v [] ms = refl
marked_append v (n ∷ ns) ms = marked_append (set v n 1) ns ms

pub length_marked : (v ns : List ℕ) → length (marked v ns) ≡ length v
length_marked v [] = refl
length_marked v (n ∷ ns) = length_marked (set v n 1) ns ∙ length-set v n 1

pub entries-append : (es fs : List Event) → entries_of (es ++ fs) ≡ entries_of es ++ entries_of fs
entries-append [] fs = refl
entries-append (at i passed ∷ es) fs = entries-append es fs
entries-append (at i (stopped r) ∷ es) fs = entries-append es fs
entries-append (at i (found e) ∷ es) fs = ap (λ l. e ∷ l) (entries-append es fs)

pub events-append : (ts us : List Turn) → events_of (ts ++ us) ≡ events_of ts ++ events_of us
events-append [] us = refl
events-append (skipped_block b ∷ ts) us = events-append ts us
events-append (probed_block b es ∷ ts) us = ap (λ l. es ++ l) (events-append ts us) ∙ sym (append_assoc es (events_of ts) (events_of us))

pub starts-append : (g : Given) (es fs : List Event) → starts_of g (es ++ fs) ≡ starts_of g es ++ starts_of g fs
starts-append g [] fs = refl
starts-append g (at i passed ∷ es) fs = starts-append g es fs
starts-append g (at i (stopped r) ∷ es) fs = starts-append g es fs
starts-append g (at i (found e) ∷ es) fs = ap (λ l. start_at g i ∷ l) (starts-append g es fs)

pub marked-events : (g : Given) (v : List ℕ) (es fs : List Event) → marked v (starts_of g (es ++ fs)) ≡ marked (marked v (starts_of g es)) (starts_of g fs)
marked-events g v es fs = ap (marked v) (starts-append g es fs) ∙ marked_append v (starts_of g es) (starts_of g fs)

abbrev after_events : Given → State → List Event → State
after_events g s es = state (keep_all better g.k s.kept (entries_of es)) (marked s.visits (starts_of g es)) (s.evaluated + length (entries_of es)) s.skipped

same_count : (s : State) (n : ℕ) → n ≡ s.evaluated → s ≡ state s.kept s.visits n s.skipped
same_count s n h = ap (λ m. state s.kept s.visits m s.skipped) (sym h)

pub probe-told : (g : Given) (is : List Place) (s : State) → left (probe g is s) ≡ after_events g s (events g is s.visits)
probe-told g [] s = same_count s (s.evaluated + 0) (omega arith)
probe-told g (i ∷ is) s = go (outcome g s.visits i) (probe-told g is)
  where
    go : (o : Outcome) → ((s : State) → left (probe g is s) ≡ after_events g s (events g is s.visits))
        → left (and_then (evaluate g i s o) (probe g is)) ≡ after_events g s (at i o ∷ unless_stopped o (events g is (marking g s.visits i o)))
    go passed h = h s
    go (stopped r) h = same_count s (s.evaluated + 0) (omega arith)
    go (found e) h =
        let t = state (keep better g.k e s.kept) (set s.visits (start_at g i) 1) (s.evaluated + 1) s.skipped in
        let es = events g is t.visits in
        h t ∙ ap (λ m. state (keep_all better g.k t.kept (entries_of es)) (marked t.visits (starts_of g es)) m s.skipped) (more s.evaluated (length (entries_of es)))
      where
        more : (a b : ℕ) → a + 1 + b ≡ a + suc b
        more a b = omega arith

after-events : (g : Given) (s : State) (b : ℕ) (es : List Event) (ts : List Turn) → after g (after_events g s es) ts ≡ after g s (probed_block b es ∷ ts)
after-events g s b es ts =
    let fs = events_of ts in
    let a : keep_all better g.k s.kept (entries_of (es ++ fs)) ≡ keep_all better g.k (keep_all better g.k s.kept (entries_of es)) (entries_of fs) =
    ap (keep_all better g.k s.kept) (entries-append es fs) ∙ keep_all-append g.k s.kept (entries_of es) (entries_of fs) in
    let v : marked s.visits (starts_of g (es ++ fs)) ≡ marked (marked s.visits (starts_of g es)) (starts_of g fs) = marked-events g s.visits es fs in
    let n : s.evaluated + length (entries_of (es ++ fs)) ≡ s.evaluated + length (entries_of es) + length (entries_of fs) =
    omega (arith, ap length (entries-append es fs), length-append (entries_of es) (entries_of fs)) in
    sym (ap (λ l. state l (marked s.visits (starts_of g (es ++ fs))) (s.evaluated + length (entries_of (es ++ fs))) (s.skipped + skipped_in ts)) a
    ∙ ap (λ l. state (keep_all better g.k (keep_all better g.k s.kept (entries_of es)) (entries_of fs)) l (s.evaluated + length (entries_of (es ++ fs))) (s.skipped + skipped_in ts)) v
    ∙ ap (λ m. state (keep_all better g.k (keep_all better g.k s.kept (entries_of es)) (entries_of fs)) (marked (marked s.visits (starts_of g es)) (starts_of g fs)) m (s.skipped
    + skipped_in ts)) n)

-- a turn and what follows it
pub turn-then : (g : Given) (b : ℕ) (s : State) (ts : List Turn) → after g (left (turn g b s)) ts ≡ after g s (turn_of g b s ∷ ts)
turn-then g b s ts = go (skips g s.kept b)
  where
    more : (a b : ℕ) → a + 1 + b ≡ a + (1 + b)
    more a b = omega arith

    go : (t : Bool) → after g (left (cond t (goes_on (pass_over s)) (probe g (positions g b) s))) ts ≡ after g s (cond t (skipped_block b) (probed_block b (events g (positions g b) s.visits)) ∷ ts)
    go true = ap (λ m. state (keep_all better g.k s.kept (entries_of (events_of ts))) (marked s.visits (starts_of g (events_of ts))) (s.evaluated + length (entries_of (events_of ts))) m)
        (more s.skipped (skipped_in ts))
    go false = ap (λ t. after g t ts) (probe-told g (positions g b) s) ∙ after-events g s b (events g (positions g b) s.visits) ts

after_none : (g : Given) (s : State) → s ≡ after g s []
after_none g s = ap (λ n. state s.kept s.visits n s.skipped) (zero_more s.evaluated) ∙ ap (λ m. state s.kept s.visits (s.evaluated + 0) m) (zero_more s.skipped)
  where
    zero_more : (a : ℕ) → a ≡ a + 0
    zero_more a = omega arith

-- what a search leaves is what stands after its turns
pub sweep-told : (g : Given) (bs : List ℕ) (s : State) → left (sweep g bs s) ≡ after g s (turns g bs s)
sweep-told g [] s = after_none g s
sweep-told g (b ∷ bs) s = go (turn g b s) refl (sweep-told g bs)
  where
    go : (r : Reached) → turn g b s ≡ r → ((s : State) → left (sweep g bs s) ≡ after g s (turns g bs s))
        → left (and_then r (sweep g bs)) ≡ after g s (turn_of g b s ∷ unless_stops r (turns g bs))
    go (goes_on t) e h = h t ∙ rw e at (turn-then g b s (turns g bs t))
    go (stops_at r i t) e h = after_none g t ∙ rw e at (turn-then g b s [])
