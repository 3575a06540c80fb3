-- Laws of Promises: the skip test in plain words, that every accepted search keeps the promises, and what they say of the memory at exit.
use Rattle.std.specs.Prelude.{ℕ, ◌+◌, ◌≤◌, ◌≡◌, Bool, true, false, ◌&&◌, List, [], ◌∷◌, ◌++◌, map, length, get_or, take, eqb, ltb, ◌↔◌, ◌⊎◌, Ok}
use Rattle.std.proofs.Common.{sym, ap, ◌∙◌, subst, append_assoc, length-take-le, eqb-true, eq-eqb, ltb-true, arith, inl, inr}
use Rattle.std.specs.Float.{nan, binary32}
use Rattle.std.specs.Float.Ieee.{lt, mul}
use Rattle.std.proofs.lemmas.Bool.{not-false}
use Rattle.sequences.specs.Laws.Lists.{both}
use Rattle.refusal.specs.First.{first_of, Faultless}
use Rattle.refusal.specs.Laws.First.{faultless}
use Rattle.kept_list.specs.Lent.{entries, places}
use Rattle.kept_list.specs.Push.{well_kept}
use Rattle.search_probe.specs.Probed.{Lends, bytes_of, rest_of, laid, opened}
use Rattle.search.specs.Searched.{Question, given_for, swept, room, tests}
use Rattle.kept_list.specs.declared.Scored.{Scored}
use Rattle.kept_list.specs.Keep.{k_best, in_order}
use Rattle.kept_list.specs.Laws.Best.{k-best, sorted-k_best}
use Rattle.kept_list.specs.Worst.{no_higher}
use Rattle.kept_list.specs.Entry.{better}
use Rattle.kept_list.specs.Laws.Entry.{better-order}
use Rattle.search_probe.specs.Probing.{Place, packed_at, worst, Given, State, Outcome, passed, stopped, found, outcome, start_at, skips, positions, sweep, left}
use Rattle.search.specs.Trace.{Event, at, Turn, skipped_block, probed_block, turns, entries_of, starts_of, position_of, events_of, marked, after}
use Rattle.search_probe.specs.Laws.Worst.{worst-lowest, worst-never-falls}
use Rattle.search.specs.Laws.Told.{entries-append, events-append, sweep-told, marked-events}
use Rattle.search.specs.Laws.Moments.{passed-iff, event-right, turn-right}
use Rattle.search.specs.Laws.InOrder.{events-in-order, events-all, turns-in-order, turns-all, no-stop-before, no-stop-on, stop-is-last}
use Rattle.search.specs.InOrder.{stops_in}
use Rattle.search.specs.Laws.Once.{HasBytes, all_right, fresh, all-different, places-differ, marked-at}
use Rattle.search.specs.Fates.{Posting, Evaluated, InSkipped, VisitedBefore, StoppedBefore}
use Rattle.search.specs.Laws.Fated.{Fate, is_evaluated, is_skipped, is_passed, is_stopped, fate, visited-since}
use Rattle.search.specs.Laws.Dots.{Gives, outcome-gives}
use Rattle.search.specs.Laws.Accepted.{kept-sound, score-ends}
use Rattle.search.specs.Promises.{Promises, SearchPromises}
use Rattle.search_probe.specs.Laws.Laid.{laid_kept, laid-visits}

-- ---- the skip test in plain words
-- skipped exactly when k are kept and score < factor x worst kept score
pub skips-iff : (g : Given) (kept : List Scored) (b : ℕ)
    → (skips g kept b ≡ true) ↔ ((length kept ≡ g.k) × (lt (get_or g.block_scores b nan) (mul binary32 g.factor (worst kept)) ≡ true))
skips-iff g kept b = (
  (λ h. let s = both (eqb (length kept) g.k) (lt (get_or g.block_scores b nan) (mul binary32 g.factor (worst kept))) h in (eqb-true (length kept) g.k s.0, s.1)),
  (λ h. let e : eqb (length kept) g.k ≡ true = eq-eqb (length kept) g.k h.0 in rw (e, h.1)),
)

-- ---- a sweep keeps them
module _ (g : Given) (bs : List ℕ) (s : State) (sorted : in_order better s.kept ≡ true) (few : length s.kept ≤ g.k) (bytes : HasBytes g s.visits) where
  kept-after : (p : List Turn) → (after g s p).kept ≡ k_best better g.k (s.kept ++ entries_of (events_of p))
  kept-after p = k-best better better-order g.k s.kept (entries_of (events_of p)) sorted few

  gives_at : (p : List Turn) (b : ℕ) (x : List Event) (i : Place) (o : Outcome) (y : List Event) (q : List Turn) → turns g bs s ≡ p ++ (probed_block b (x ++ (at i o ∷ y)) ∷ q)
      → outcome g (marked s.visits (starts_of g (events_of p ++ x))) i ≡ o
  gives_at p b x i o y q e =
      subst (λ l. outcome g l i ≡ o) (sym (marked-events g s.visits (events_of p) x))
      (event-right g (positions g b) (after g s p).visits x (at i o) y (sym (turn-right g bs s p (probed_block b (x ++ (at i o ∷ y))) q e).1))

  never-falls-after : (p m : List Turn) → length (k_best better g.k (s.kept ++ entries_of (events_of p))) ≡ g.k
      → no_higher (worst (k_best better g.k (s.kept ++ entries_of (events_of p)))) (worst (k_best better g.k (s.kept ++ entries_of (events_of (p ++ m))))) ≡ true
  never-falls-after p m h =
      let es = s.kept ++ entries_of (events_of p) in
      let e : s.kept ++ entries_of (events_of (p ++ m)) ≡ es ++ entries_of (events_of m) =
      ap (λ l. s.kept ++ l) (ap entries_of (events-append p m) ∙ entries-append (events_of p) (events_of m)) ∙ sym (append_assoc s.kept (entries_of (events_of p)) (entries_of (events_of m))) in
      rw e (worst-never-falls g.k es (entries_of (events_of m)) h)

  fate-of : (p : Posting g bs) → Fate (turns g bs s) (sweep g bs s) p.blocks_before p.block p.places_before p.place
  fate-of p =
      subst (λ cs. Fate (turns g cs s) (sweep g cs s) p.blocks_before p.block p.places_before p.place) (sym p.in_list)
      (fate g p.blocks_before p.block p.blocks_after p.places_before p.place p.places_after p.in_block s)

  not-evaluated-so : (p : Posting g bs) → (Evaluated g bs (turns g bs s) p → ⊥)
      → InSkipped g bs (turns g bs s) p ⊎ (VisitedBefore g bs s (turns g bs s) p ⊎ StoppedBefore g bs (sweep g bs s) (turns g bs s) p)
  not-evaluated-so p n = go (fate-of p)
    where
      go : Fate (turns g bs s) (sweep g bs s) p.blocks_before p.block p.places_before p.place
          → InSkipped g bs (turns g bs s) p ⊎ (VisitedBefore g bs s (turns g bs s) p ⊎ StoppedBefore g bs (sweep g bs s) (turns g bs s) p)
      go (is_evaluated e m) = absurd (n (e, m))
      go (is_skipped m) = inl m
      go (is_passed m) =
          let ns = starts_of g (events_of m.turns_before ++ m.events_before) in
          let o = gives_at m.turns_before p.block m.events_before p.place passed m.events_after m.turns_after m.told in
          inr (inl (m, visited-since s.visits ns (start_at g p.place) ((passed-iff g (marked s.visits ns) p.place).0 o)))
      go (is_stopped m) = inr (inr m)

  pub sweep-promises : Promises g bs s (sweep g bs s)
  sweep-promises = record {
    story = turns g bs s;
    in_order = turns-in-order g bs s;
    all_blocks = turns-all g bs s;
    skipped_when = λ p b q e. subst (λ l. skips g l b ≡ true) (kept-after p) (turn-right g bs s p (skipped_block b) q e);
    probed_when = λ p b es q e. subst (λ l. skips g l b ≡ false) (kept-after p) (turn-right g bs s p (probed_block b es) q e).0;
    worst_is_lowest = λ p q e. let es = s.kept ++ entries_of (events_of p) in worst-lowest (k_best better g.k es) (sorted-k_best better better-order g.k es);
    worst_stays = λ p m q e. never-falls-after p m;
    reached_in_order = λ p b es q e. subst (λ l. map position_of l ≡ take (length l) (positions g b)) (sym (turn-right g bs s p (probed_block b es) q e).1) (events-in-order g (positions g b)
        (after g s p).visits);
    reached_all = λ p b es q e h. let k = (turn-right g bs s p (probed_block b es) q e).1 in ap (map position_of) k ∙ events-all g (positions g b) (after g s p).visits (ap stops_in (sym k) ∙ h);
    went_on = λ p b es u q e. no-stop-before g bs s p (probed_block b es) u q e;
    goes_through = λ t o p b es q e. no-stop-on g bs s t o p (probed_block b es) q e;
    gives = gives_at;
    unvisited = fresh g s.visits (events_of (turns g bs s)) bytes (all_right g bs s);
    different = all-different g s.visits (events_of (turns g bs s)) bytes (all_right g bs s);
    once = places-differ g (events_of (turns g bs s)) (all-different g s.visits (events_of (turns g bs s)) bytes (all_right g bs s));
    not_evaluated = not-evaluated-so;
    keeps_best = ap (λ (t : State). t.kept) (sweep-told g bs s) ∙ kept-after (turns g bs s);
    marks = ap (λ (t : State). t.visits) (sweep-told g bs s);
    marks_at = λ n h. ap (λ (t : State). get_or t.visits n 0) (sweep-told g bs s) ∙ marked-at s.visits (starts_of g (events_of (turns g bs s))) n h;
    counts_evaluated = ap (λ (t : State). t.evaluated) (sweep-told g bs s);
    counts_skipped = ap (λ (t : State). t.skipped) (sweep-told g bs s);
    stops_last = λ n i t e. stop-is-last g bs s t n i e;
  }

-- an accepted search keeps all of this, in whatever order its blocks have their turns
module _ (q : Question) (l : Lends) (b : Bool) (accepted : first_of (tests q l b) ≡ Ok tt) where
  faults : Faultless (tests q l b)
  faults = faultless (tests q l b) accepted

  kept-well : (in_order better (entries l.kept) ≡ true) × (length (entries l.kept) ≤ q.k)
  kept-well = kept-sound q.k l.kept (not-false (well_kept q.k l.kept) faults.1.1.1.1.0)

  has-bytes : HasBytes (given_for q) (bytes_of q.terms l.visits)
  has-bytes i x e =
      let r = both (places q.k l.kept) (ltb (length q.terms.components) (length l.visits) && b) (not-false (room q l b) faults.1.1.1.1.1.0) in
      let v = ltb-true (length q.terms.components) (length l.visits) (both (ltb (length q.terms.components) (length l.visits)) b r.1).0 in
      let s = score-ends q.terms (packed_at (given_for q) i) x e in
      let m : length q.terms.components + 1 ≤ length l.visits = omega arith in
      omega (arith, length-take-le (length q.terms.components + 1) l.visits m)

  pub search-promises : (blocks : List ℕ) → SearchPromises q l blocks (swept q blocks l)
  search-promises blocks = record {
    sweeps = sweeps;
    evaluates = λ p b x i e. meant p b x i (found e);
    stops_for = λ n i t e. let w = sweeps.stops_last n i t e in meant w.0 w.1 w.2 i (stopped n) [] [] w.3;
  }
    where
      sweeps : Promises (given_for q) blocks (opened q.terms l) (swept q blocks l)
      sweeps = sweep-promises (given_for q) blocks (opened q.terms l) kept-well.0 kept-well.1 has-bytes

      meant : (p : List Turn) (b : ℕ) (x : List Event) (i : Place) (o : Outcome) (y : List Event) (u : List Turn) → sweeps.story ≡ p ++ (probed_block b (x ++ (at i o ∷ y)) ∷ u)
          → Gives q.terms (get_or q.postings i 0) o
      meant p b x i o y u h =
          subst (Gives q.terms (get_or q.postings i 0)) (sweeps.gives p b x i o y u h)
          (outcome-gives q.terms (marked (bytes_of q.terms l.visits) (starts_of (given_for q) (events_of p ++ x))) (get_or q.postings i 0))

  -- the kept list where it lies at exit: the k best of the entries it began with and of all evaluated
  pub kept-at-exit : (blocks : List ℕ) → entries (laid q.terms l (swept q blocks l)).lent.kept ≡ k_best better q.k (entries l.kept
      ++ entries_of (events_of (search-promises blocks).sweeps.story))
  kept-at-exit blocks = laid_kept q.terms l (swept q blocks l) ∙ (search-promises blocks).sweeps.keeps_best

  -- the bytes of the starts as the story leaves them, and those past them as they were
  pub visits-at-exit : (blocks : List ℕ) → (laid q.terms l (swept q blocks l)).lent.visits ≡ (left (swept q blocks l)).visits ++ rest_of q.terms l.visits
  visits-at-exit blocks = laid-visits q.terms l (swept q blocks l)
