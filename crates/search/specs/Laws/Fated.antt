-- Each posting of the list meets one of its four fates.
use Rattle.std.specs.Prelude.{ℕ, ◌+◌, ◌≡◌, refl, Bool, true, false, cond, ◌||◌, List, [], ◌∷◌, ◌++◌, map, ◌⊎◌, get_or, set, eqb}
use Rattle.std.proofs.Common.{sym, ap, ◌∙◌, subst, true≢false, inl, inr, get_or-set_other, eqb-true}
use Rattle.std.proofs.lemmas.Bool.{eqb-false}
use Rattle.sequences.specs.Lists.{among}
use Rattle.refusal.specs.declared.Refusal.{Refusal}
use Rattle.kept_list.specs.declared.Scored.{Scored}
use Rattle.kept_list.specs.Keep.{keep}
use Rattle.kept_list.specs.Entry.{better}
use Rattle.search_probe.specs.Probing.{Place, Given, State, state, Outcome, passed, stopped, found, outcome, start_at, Reached, goes_on, stops_at, and_then, evaluate, probe, skips, positions, turn}
use Rattle.search_probe.specs.Probing.{pass_over, sweep}
use Rattle.search.specs.Trace.{Event, at, Turn, skipped_block, probed_block, unless_stopped, marking, events, unless_stops, turn_of, turns, position_of, block_of, marked}
use Rattle.search.specs.Laws.InOrder.{turn-off, block-is}
use Rattle.search.specs.Fates.{Reaches, Skips, NoLater, Stops}

-- ---- within a block
data InBlock (es : List Event) (r : Reached) (is : List Place) (i : Place) : Type 0 where
  passes : (x y : List Event) → es ≡ x ++ (at i passed ∷ y) → map position_of x ≡ is → InBlock es r is i
  finds : (e : Scored) (x y : List Event) → es ≡ x ++ (at i (found e) ∷ y) → map position_of x ≡ is → InBlock es r is i
  halts : (n : Refusal) (j : Place) (t : State) (x : List Event) (js : List Place) → r ≡ stops_at n j t → es ≡ x ++ (at j (stopped n) ∷ []) → is ++ (i ∷ []) ≡ map position_of x ++ (j ∷ js)
      → InBlock es r is i

one_more : (es : List Event) (r : Reached) (is : List Place) (i k : Place) (o : Outcome) → InBlock es r is i → InBlock (at k o ∷ es) r (k ∷ is) i
one_more es r is i k o (passes x y e p) = passes (at k o ∷ x) y (ap (λ l. at k o ∷ l) e) (ap (λ l. k ∷ l) p)
one_more es r is i k o (finds s x y e p) = finds s (at k o ∷ x) y (ap (λ l. at k o ∷ l) e) (ap (λ l. k ∷ l) p)
one_more es r is i k o (halts n j t x js c e p) = halts n j t (at k o ∷ x) js c (ap (λ l. at k o ∷ l) e) (ap (λ l. k ∷ l) p)

in_block : (g : Given) (is : List Place) (i : Place) (js : List Place) (s : State) → InBlock (events g (is ++ (i ∷ js)) s.visits) (probe g (is ++ (i ∷ js)) s) is i
in_block g [] i js s = go (outcome g s.visits i)
  where
    go : (o : Outcome) → InBlock (at i o ∷ unless_stopped o (events g js (marking g s.visits i o))) (and_then (evaluate g i s o) (probe g js)) [] i
    go passed = passes [] (events g js s.visits) refl refl
    go (stopped n) = halts n i s [] [] refl refl refl
    go (found e) = finds e [] (events g js (set s.visits (start_at g i) 1)) refl refl
in_block g (k ∷ is) i js s = go (outcome g s.visits k) (in_block g is i js)
  where
    go : (o : Outcome) → ((s : State) → InBlock (events g (is ++ (i ∷ js)) s.visits) (probe g (is ++ (i ∷ js)) s) is i)
        → InBlock (at k o ∷ unless_stopped o (events g (is ++ (i ∷ js)) (marking g s.visits k o))) (and_then (evaluate g k s o) (probe g (is ++ (i ∷ js)))) (k ∷ is) i
    go passed h = one_more _ _ is i k passed (h s)
    go (stopped n) h = halts n k s [] (is ++ (i ∷ [])) refl refl refl
    go (found e) h = one_more _ _ is i k (found e) (h (state (keep better g.k e s.kept) (set s.visits (start_at g k) 1) (s.evaluated + 1) s.skipped))

-- ---- within the list
pub data Fate (story : List Turn) (r : Reached) (bs : List ℕ) (b : ℕ) (is : List Place) (i : Place) : Type 0 where
  is_evaluated : (e : Scored) → Reaches story bs b is i (found e) → Fate story r bs b is i
  is_skipped : Skips story bs b → Fate story r bs b is i
  is_passed : Reaches story bs b is i passed → Fate story r bs b is i
  is_stopped : Stops story r bs b is i → Fate story r bs b is i

past : (u : Turn) (story : List Turn) (c : ℕ) (bs : List ℕ) (b : ℕ) (is : List Place) (i : Place) (o : Outcome) → block_of u ≡ c → Reaches story bs b is i o → Reaches (u ∷ story) (c ∷ bs) b is i o
past u story c bs b is i o h m = record {
  turns_before = u ∷ m.turns_before;
  turns_after = m.turns_after;
  events_before = m.events_before;
  events_after = m.events_after;
  told = ap (λ l. u ∷ l) m.told;
  after_blocks = let p = m.after_blocks in cc;
  after_places = m.after_places;
}

later : (u : Turn) (story : List Turn) (r : Reached) (c : ℕ) (bs : List ℕ) (b : ℕ) (is : List Place) (i : Place) → block_of u ≡ c → Fate story r bs b is i → Fate (u ∷ story) r (c ∷ bs) b is i
later u story r c bs b is i h (is_evaluated e m) = is_evaluated e (past u story c bs b is i (found e) h m)
later u story r c bs b is i h (is_skipped m) = is_skipped (record {
  turns_before = u ∷ m.turns_before;
  turns_after = m.turns_after;
  told = ap (λ l. u ∷ l) m.told;
  after_blocks = let p = m.after_blocks in cc;
})
later u story r c bs b is i h (is_passed m) = is_passed (past u story c bs b is i passed h m)
later u story r c bs b is i h (is_stopped m) =
    is_stopped
    (record {
      reason = m.reason;
      stop_place = m.stop_place;
      stop_block = m.stop_block;
      then = m.then;
      stops = m.stops;
      turns_before = u ∷ m.turns_before;
      events_before = m.events_before;
      told = ap (λ l. u ∷ l) m.told;
      no_later = place m.no_later;
    })
  where
    place : NoLater (map block_of m.turns_before) m.stop_block (map position_of m.events_before) m.stop_place bs b is i → NoLater (block_of u ∷ map block_of m.turns_before) m.stop_block
        (map position_of m.events_before) m.stop_place (c ∷ bs) b is i
    place (inl w) = inl (w.0, let p = w.1 in cc)
    place (inr w) = inr ((let p = w.0 in cc), w.1, w.2, w.3)

pub fate : (g : Given) (bs : List ℕ) (b : ℕ) (cs : List ℕ) (is : List Place) (i : Place) (js : List Place) → positions g b ≡ is ++ (i ∷ js)
    → (s : State) → Fate (turns g (bs ++ (b ∷ cs)) s) (sweep g (bs ++ (b ∷ cs)) s) bs b is i
fate g [] b cs is i js h s = go (skips g s.kept b)
  where
    go : (x : Bool) → Fate (cond x (skipped_block b) (probed_block b (events g (positions g b) s.visits)) ∷ unless_stops (cond x (goes_on (pass_over s)) (probe g (positions g b) s)) (turns g cs))
        (and_then (cond x (goes_on (pass_over s)) (probe g (positions g b) s)) (sweep g cs)) [] b is i
    go true = is_skipped (record { turns_before = []; turns_after = turns g cs (pass_over s); told = refl; after_blocks = refl })
    go false = here (events g (positions g b) s.visits) (probe g (positions g b) s) (subst (λ l. InBlock (events g l s.visits) (probe g l s) is i) (sym h) (in_block g is i js s))
      where
        here : (es : List Event) (r : Reached) → InBlock es r is i → Fate (probed_block b es ∷ unless_stops r (turns g cs)) (and_then r (sweep g cs)) [] b is i
        here es r (passes x y e p) = is_passed (record {
          turns_before = [];
          turns_after = unless_stops r (turns g cs);
          events_before = x;
          events_after = y;
          told = ap (λ l. probed_block b l
              ∷ unless_stops r (turns g cs)) e;
          after_blocks = refl;
          after_places = p;
        })
        here es r (finds f x y e p) = is_evaluated f (record {
          turns_before = [];
          turns_after = unless_stops r (turns g cs);
          events_before = x;
          events_after = y;
          told = ap (λ l. probed_block b l
              ∷ unless_stops r (turns g cs)) e;
          after_blocks = refl;
          after_places = p;
        })
        here es r (halts n j t x ks c e p) =
            is_stopped
            (record {
              reason = n;
              stop_place = j;
              stop_block = b;
              then = t;
              stops = ap (λ z. and_then z (sweep g cs)) c;
              turns_before = [];
              events_before = x;
              told = ap (λ z. probed_block b es ∷ unless_stops z (turns g cs)) c ∙ ap (λ l. probed_block b l ∷ []) e;
              no_later = inr (refl, refl, ks, p);
            })
fate g (c ∷ bs) b cs is i js h s = go (turn g c s) refl (fate g bs b cs is i js h)
  where
    go : (r : Reached) → turn g c s ≡ r → ((s : State) → Fate (turns g (bs ++ (b ∷ cs)) s) (sweep g (bs ++ (b ∷ cs)) s) bs b is i)
        → Fate (turn_of g c s ∷ unless_stops r (turns g (bs ++ (b ∷ cs)))) (and_then r (sweep g (bs ++ (b ∷ cs)))) (c ∷ bs) b is i
    go (goes_on t) e f = later (turn_of g c s) (turns g (bs ++ (b ∷ cs)) t) (sweep g (bs ++ (b ∷ cs)) t) c bs b is i (block-is g c s (skips g s.kept c)) (f t)
    go (stops_at n j t) e f =
        let w = turn-off g c s t n j e in
        is_stopped
        (record {
          reason = n;
          stop_place = j;
          stop_block = c;
          then = t;
          stops = refl;
          turns_before = [];
          events_before = w.0;
          told = ap (λ u. u ∷ []) w.1;
          no_later = inl (bs, refl);
        })

-- ---- a byte that is not 0 was so before, or is that of a start marked since
unmarked : (visits ns : List ℕ) (n : ℕ) → get_or visits n 0 ≡ 0 → among n ns ≡ false → get_or (marked visits ns) n 0 ≡ 0
unmarked visits [] n z h = z
unmarked visits (m ∷ ms) n z h = go (eqb n m) refl h (unmarked (set visits m 1) ms n)
  where
    go : (b : Bool) → eqb n m ≡ b → (b || among n ms) ≡ false → (get_or (set visits m 1) n 0 ≡ 0 → among n ms ≡ false → get_or (marked (set visits m 1) ms) n 0 ≡ 0) → get_or (marked (set visits m 1) ms) n 0
        ≡ 0
    go true q h f = absurd (true≢false h)
    go false q h f = f (get_or-set_other visits m n 1 0 (eqb-false n m q) ∙ z) h

pub visited-since : (visits ns : List ℕ) (n : ℕ) → (get_or (marked visits ns) n 0 ≡ 0 → ⊥) → (get_or visits n 0 ≡ 0 → ⊥) ⊎ (among n ns ≡ true)
visited-since visits ns n h = go (eqb (get_or visits n 0) 0) refl (among n ns) refl
  where
    go : (b : Bool) → eqb (get_or visits n 0) 0 ≡ b → (c : Bool) → among n ns ≡ c → (get_or visits n 0 ≡ 0 → ⊥) ⊎ (c ≡ true)
    go false e c f = inl (eqb-false (get_or visits n 0) 0 e)
    go true e true f = inr refl
    go true e false f = absurd (h (unmarked visits ns n (eqb-true (get_or visits n 0) 0 e) f))
