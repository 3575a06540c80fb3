-- What became of a posting in the story decides what is told of it.
use Rattle.refusal.specs.declared.Refusal.{Refusal}
use Rattle.std.specs.Prelude.{ℕ, ◌≡◌, refl, Bool, true, false, cond, List, [], ◌∷◌, ◌++◌, length, get_or, Result, Ok, Err}
use Rattle.std.proofs.Common.{arith, sym, ap, ◌∙◌, subst}
use Rattle.std.specs.Float.{nan, binary32}
use Rattle.std.specs.Float.Ieee.{mul}
use Rattle.refusal.specs.First.{first_of}
use Rattle.search_probe.specs.declared.Answer.TheVariants.{Found}
use Rattle.search_postings.specs.declared.RangeReading.{RangeReading}
use Rattle.search_postings.specs.declared.RangeReading.TheVariants.{ReachesPast, Breaks, Score}
use Rattle.search_probe.specs.Probing.{Place, Given, State, state, Outcome, passed, stopped, found, of_reading, outcome, packed_at, start_at, visited, Reached, goes_on, stops_at, probe, positions, sweep}
use Rattle.search_probe.specs.Probing.{worst}
use Rattle.search_probe.specs.Probed.{given, tests, laid, if_accepted, probed}
use Rattle.search.specs.Trace.{turns, at, skipped_block, probed_block, starts_of, events_of, marked, after}
use Rattle.search.specs.Laws.Told.{marked-events}
use Rattle.search.specs.Laws.Moments.{passed-iff, event-right, turn-right}
use Rattle.search.specs.Fates.{Evaluated, InSkipped, VisitedBefore, StoppedBefore}
use Rattle.search.specs.Laws.Fated.{Fate, is_evaluated, is_skipped, is_passed, is_stopped, fate, visited-since}
use Rattle.explain.specs.declared.Fate.TheVariants as tells
use Rattle.explain_promises.specs.Laws.Alone.{turns_alone, places-alone}
use Rattle.search.specs.Laws.Told.{length_marked}
use Rattle.explain_promises.specs.Laws.Again.{after-fits}
use Rattle.explain_promises.specs.Telling.{Search, told, given_of, blocks_of, began_with, story_of, Ended, PostingOf, InFirst, Begun, ReachedAs, told_of}
use Rattle.explain_promises.specs.Laws.AtTurn.{skipped-told, reached-told}

-- ---- the bytes that decide what is told are those that decide a posting's outcome
outcome-tells : (g : Given) (visits : List ℕ) (i : Place) → cond (visited visits (packed_at g i)) tells.VisitedBefore tells.Read ≡ told_of (outcome g visits i)
outcome-tells g visits i = go (visited visits (packed_at g i)) (g.read (packed_at g i))
  where
    go : (b : Bool) (r : RangeReading) → cond b tells.VisitedBefore tells.Read ≡ told_of (cond b passed (of_reading (packed_at g i) r))
    go true r = refl
    go false ReachesPast = refl
    go false Breaks = refl
    go false (Score x) = refl

-- ---- a search that came to its end was accepted, and nothing stopped it
pub ended-on : (q : Search) → Ended q → Begun q × (z : State) × (sweep (given_of q) (blocks_of q) (began_with q) ≡ goes_on z)
unfolding probed
ended-on q h = go (first_of (tests q.k q.terms q.lent)) refl (sweep (given_of q) (blocks_of q) (began_with q)) refl h.found
  where
    go : (v : Result (Unit {0}) Refusal) → first_of (tests q.k q.terms q.lent) ≡ v → (r : Reached) → sweep (given_of q) (blocks_of q) (began_with q) ≡ r
        → (if_accepted v (laid q.terms q.lent r) q.lent).answer ≡ Found h.kept h.evaluated h.skipped
        → Begun q × (z : State) × (sweep (given_of q) (blocks_of q) (began_with q) ≡ goes_on z)
    go (Ok _) a (goes_on z) e f = (a, z, e)
    go (Ok _) a (stops_at n j z) e f = absurd (let z : ◌≡◌ {A = ℕ} 0 1 = cc in omega arith)
    go (Err n) a r e f = absurd (let z : ◌≡◌ {A = ℕ} 0 1 = cc in omega arith)

module _ (q : Search) (accepted : Begun q) (p : PostingOf q) (first : InFirst q p) where
  -- its block was skipped
  pub skips-told : (m : InSkipped (given_of q) (blocks_of q) (story_of q) p)
      → told q p.place ≡ tells.Skipped (get_or q.block_scores p.block nan) (mul binary32 q.factor (worst (after (given_of q) (began_with q) m.turns_before).kept))
  skips-told m =
      let s = after (given_of q) (began_with q) m.turns_before in
      let there = subst (λ bs. sweep (given_of q) bs (began_with q) ≡ goes_on s) m.after_blocks (turns_alone (given_of q) (blocks_of q) (began_with q) m.turns_before (skipped_block p.block)
      m.turns_after m.told) in
      skipped-told q accepted p first s there (turn-right (given_of q) (blocks_of q) (began_with q) m.turns_before (skipped_block p.block) m.turns_after m.told)

  -- it was reached: its outcome in the story decides
  pub reaches-told : (o : Outcome) → ReachedAs q p o → told q p.place ≡ told_of o
  reaches-told o m =
      let g = given_of q in
      let s = after g (began_with q) m.turns_before in
      let block = probed_block p.block (m.events_before ++ (at p.place o ∷ m.events_after)) in
      let there = subst (λ bs. sweep g bs (began_with q) ≡ goes_on s) m.after_blocks (turns_alone g (blocks_of q) (began_with q) m.turns_before block m.turns_after m.told) in
      let right = turn-right g (blocks_of q) (began_with q) m.turns_before block m.turns_after m.told in
      let fits = after-fits q.k q.terms q.lent accepted g refl m.turns_before in
      let offsets = get_or q.block_offsets p.block 0 ∷ p.place ∷ [] in
      let block_scores = get_or q.block_scores p.block nan ∷ [] in
      let alone = given q.k q.factor q.terms q.postings offsets block_scores in
      let w = places-alone q.k q.factor q.terms q.postings q.block_offsets offsets q.block_scores block_scores (positions g p.block) (state s.kept s.visits 0 0)
      m.events_before (at p.place o) m.events_after (sym right.1) in
      let probes = subst (λ js. probe alone js (state s.kept s.visits 0 0) ≡ goes_on w.0) m.after_places w.1 in
      let marks = starts_of g m.events_before in
      reached-told q accepted p first s there fits w.0 right.0 probes (ap length w.2 ∙ length_marked s.visits marks ∙ fits.as_many)
      ∙ ap (λ v. cond (visited v (packed_at g p.place)) tells.VisitedBefore tells.Read) w.2
      ∙ outcome-tells g (marked s.visits marks) p.place
      ∙ ap told_of (event-right g (positions g p.block) s.visits m.events_before (at p.place o) m.events_after (sym right.1))

  -- its start was visited
  pub passed-told : ReachedAs q p passed → told q p.place ≡ tells.VisitedBefore
  passed-told = reaches-told passed

  -- it was evaluated
  pub found-told : Evaluated (given_of q) (blocks_of q) (story_of q) p → told q p.place ≡ tells.Read
  found-told m = reaches-told (found m.0) m.1

  -- one that was passed over was visited at first, or evaluated earlier in the story
  passed-so : ReachedAs q p passed → VisitedBefore (given_of q) (blocks_of q) (began_with q) (story_of q) p
  passed-so m =
      let g = given_of q in
      let v = (began_with q).visits in
      let right = turn-right g (blocks_of q) (began_with q) m.turns_before (probed_block p.block (m.events_before ++ (at p.place passed ∷ m.events_after))) m.turns_after m.told in
      let o = event-right g (positions g p.block) (after g (began_with q) m.turns_before).visits m.events_before (at p.place passed) m.events_after (sym right.1) in
      let so = subst (λ l. outcome g l p.place ≡ passed) (sym (marked-events g v (events_of m.turns_before) m.events_before)) o in
      let ns = starts_of g (events_of m.turns_before ++ m.events_before) in
      (m, visited-since v ns (start_at g p.place) ((passed-iff g (marked v ns) p.place).0 so))

  -- what became of it
  abbrev Became : Type 0
  Became = Fate (story_of q) (sweep (given_of q) (blocks_of q) (began_with q)) p.blocks_before p.block p.places_before p.place

  became : Became
  became =
      subst (λ bs. Fate (turns (given_of q) bs (began_with q)) (sweep (given_of q) bs (began_with q)) p.blocks_before p.block p.places_before p.place) (sym p.in_list)
      (fate (given_of q) p.blocks_before p.block p.blocks_after p.places_before p.place p.places_after p.in_block (began_with q))

  -- not reached is told of none that was reached, nor of one in a skipped block: so the search stopped before it
  told-reached : (o : Outcome) → told_of o ≡ tells.NotReached → ⊥
  told-reached passed h = let z : ◌≡◌ {A = ℕ} 0 1 = cc in omega arith
  told-reached (stopped r) h = let z : ◌≡◌ {A = ℕ} 0 1 = cc in omega arith
  told-reached (found e) h = let z : ◌≡◌ {A = ℕ} 0 1 = cc in omega arith

  pub unreached-so : told q p.place ≡ tells.NotReached → StoppedBefore (given_of q) (blocks_of q) (sweep (given_of q) (blocks_of q) (began_with q)) (story_of q) p × ((o : Outcome) → ReachedAs q p o → ⊥)
  unreached-so h = (go became, none)
    where
      none : (o : Outcome) → ReachedAs q p o → ⊥
      none o m = told-reached o (sym (reaches-told o m) ∙ h)

      go : Became → StoppedBefore (given_of q) (blocks_of q) (sweep (given_of q) (blocks_of q) (began_with q)) (story_of q) p
      go (is_evaluated e m) = absurd (none (found e) m)
      go (is_skipped m) = absurd (let e = skips-told m in let z : ◌≡◌ {A = ℕ} 0 1 = cc in omega arith)
      go (is_passed m) = absurd (none passed m)
      go (is_stopped m) = m

  -- what became of it, and what is told
  pub data Met : Type 0 where
    was_skipped : (m : InSkipped (given_of q) (blocks_of q) (story_of q) p)
        → told q p.place ≡ tells.Skipped (get_or q.block_scores p.block nan) (mul binary32 q.factor (worst (after (given_of q) (began_with q) m.turns_before).kept)) → Met
    was_visited : VisitedBefore (given_of q) (blocks_of q) (began_with q) (story_of q) p → told q p.place ≡ tells.VisitedBefore → Met
    was_evaluated : Evaluated (given_of q) (blocks_of q) (story_of q) p → told q p.place ≡ tells.Read → Met

  pub met : (z : State) → sweep (given_of q) (blocks_of q) (began_with q) ≡ goes_on z → Met
  met z on = go became
    where
      go : Became → Met
      go (is_evaluated e m) = was_evaluated (e, m) (found-told (e, m))
      go (is_skipped m) = was_skipped m (skips-told m)
      go (is_passed m) = was_visited (passed-so m) (passed-told m)
      go (is_stopped m) = absurd (let s = m.stops in let z : ◌≡◌ {A = ℕ} 0 1 = cc in omega arith)
