-- What is told of a posting of a search is what became of it: of all where it came to its end, of those that it came to where it stops.
use Rattle.std.specs.Prelude.{ℕ, suc, ◌+◌, ◌-◌, min, ◌≡◌, refl, Bool, false, cond, ◌⊎◌, leb, ltb, Float}
use Rattle.std.proofs.Common.{arith, sym, ◌∙◌, subst, true≢false, inl, inr, eq-eqb, leb-true, ltb-true}
use Rattle.std.proofs.Math.Path.{ap}
use Rattle.std.proofs.Math.ListN.{length, get_or}
use Rattle.sequences.specs.Lists.{EachOf, before, from}
use Rattle.sequences.specs.Laws.Lists.{both}
use Rattle.sequences.specs.Laws.Each.{each_to}
use Rattle.search_probe.specs.Probing.{Place}
use Rattle.search.specs.Fates.{Evaluated, VisitedBefore}
use Rattle.explain.specs.declared.Fate.TheVariants as tells
use Rattle.explain.specs.Turns.{turn_seen}
use Rattle.explain.specs.Reasons.{holds, turn_of, fated, at_turn, fate_at, fate_of}
use Rattle.explain_promises.specs.Laws.Cuts.{FirstIn, first_or_none, before-none, none_in, length_from, from_at}
use Rattle.explain_promises.specs.Telling.{Search, told, given_of, blocks_of, began_with, story_of, Ended, PostingOf, InFirst, SkippedBy, TellsTrue, Begun, TellsReached}
use Rattle.explain_promises.specs.Laws.AtTurn.{holds-is, held-here}
use Rattle.explain_promises.specs.Laws.Met.{ended-on, skips-told, reaches-told, passed-told, found-told, unreached-so, Met, was_skipped, was_visited, was_evaluated, met}

-- ---- a place in no block of the turns, and one in a first block
module _ (q : Search) (i : Place) where
  abbrev held_by : ℕ → Bool
  held_by = holds q.block_offsets (length q.postings) i

  none_told : EachOf (λ b. held_by b ≡ false) (blocks_of q) → told q i ≡ tells.InNoBlock
  unfolding fate_of fate_at turn_of
  none_told n =
      let e : length (before held_by (blocks_of q)) ≡ q.count = ap length (before-none held_by (blocks_of q) n) ∙ length_from (λ j. get_or q.block_order j j) 0 q.count in
      ap (λ b. (cond b (fated tells.InNoBlock q.lent) (at_turn q.k q.factor q.terms q.postings q.block_offsets i (turn_seen q.k q.factor q.terms q.postings q.block_offsets
      q.block_scores q.block_order (length (before held_by (blocks_of q))) q.lent))).fate) (eq-eqb (length (before held_by (blocks_of q))) q.count e)

  none-holds : EachOf (λ b. held_by b ≡ false) (blocks_of q) → (p : PostingOf q) → p.place ≡ i → ⊥
  none-holds n p e =
      true≢false
      (sym (held-here q p)
      ∙ ap (λ j. holds q.block_offsets (length q.postings) j p.block) e
      ∙ none_in held_by p.blocks_before p.block p.blocks_after (subst (EachOf (λ b. held_by b ≡ false)) p.in_list n))

  first_holds : FirstIn held_by (blocks_of q) → (p : PostingOf q) × (p.place ≡ i) × InFirst q p
  first_holds f =
      let a = get_or q.block_offsets f.here 0 in
      let e = min (get_or q.block_offsets (f.here + 1) 0) (length q.postings) in
      let h = both (leb a i) (ltb i e) f.passes in
      let x = leb-true a i h.0 in
      let y = ltb-true i e h.1 in (
        record {
          blocks_before = f.front;
          block = f.here;
          blocks_after = f.rest;
          in_list = f.cut;
          places_before = from a (i - a);
          place = i;
          places_after = from (suc i) (a + (e - a) - suc i);
          in_block = from_at a (e - a) i x (omega arith);
        },
        refl,
        each_to _ _ (λ b n. holds-is q i b ∙ n) f.front f.none_before,
      )

  found_in : EachOf (λ b. held_by b ≡ false) (blocks_of q) ⊎ FirstIn held_by (blocks_of q)
  found_in = first_or_none held_by (blocks_of q)

-- ---- a search that is accepted
module _ (q : Search) (accepted : Begun q) where
  skipped-back : (p : PostingOf q) (first : InFirst q p) (score bar : Float) → SkippedBy q p score bar → told q p.place ≡ tells.Skipped score bar
  skipped-back p first score bar m = let a = m.score-is in let b = m.bar_is in skips-told q accepted p first m.skips ∙ (cc)

  pub tells-reached : TellsReached q
  tells-reached = record { skipped = skipped-back; reached = λ p first. reaches-told q accepted p first; not_reached = λ p first. unreached-so q accepted p first }

-- ---- a search that came to its end
module _ (q : Search) (ended : Ended q) where
  accepted : Begun q
  accepted = (ended-on q ended).0

  met_by : (p : PostingOf q) (first : InFirst q p) → Met q accepted p first
  met_by p first = met q accepted p first (ended-on q ended).1 (ended-on q ended).2

  -- in a block it is told one of the three
  not_none : (p : PostingOf q) → InFirst q p → told q p.place ≡ tells.InNoBlock → ⊥
  not_none p first h = go (met_by p first)
    where
      go : Met q accepted p first → ⊥
      go (was_skipped m e) = let z : ◌≡◌ {A = ℕ} 0 1 = cc in omega arith
      go (was_visited m e) = let z : ◌≡◌ {A = ℕ} 0 1 = cc in omega arith
      go (was_evaluated m e) = let z : ◌≡◌ {A = ℕ} 0 1 = cc in omega arith

  not-unreached : (p : PostingOf q) → InFirst q p → told q p.place ≡ tells.NotReached → ⊥
  not-unreached p first h = go (met_by p first)
    where
      go : Met q accepted p first → ⊥
      go (was_skipped m e) = let z : ◌≡◌ {A = ℕ} 0 1 = cc in omega arith
      go (was_visited m e) = let z : ◌≡◌ {A = ℕ} 0 1 = cc in omega arith
      go (was_evaluated m e) = let z : ◌≡◌ {A = ℕ} 0 1 = cc in omega arith

  none_so : (i : Place) → told q i ≡ tells.InNoBlock → (p : PostingOf q) → p.place ≡ i → ⊥
  none_so i h p e = go (found_in q i)
    where
      go : EachOf (λ b. held_by q i b ≡ false) (blocks_of q) ⊎ FirstIn (held_by q i) (blocks_of q) → ⊥
      go (inl n) = none-holds q i n p e
      go (inr f) = let w = first_holds q i f in not_none w.0 w.2 (ap (told q) w.1 ∙ h)

  none-back : (i : Place) → ((p : PostingOf q) → p.place ≡ i → ⊥) → told q i ≡ tells.InNoBlock
  none-back i h = go (found_in q i)
    where
      go : EachOf (λ b. held_by q i b ≡ false) (blocks_of q) ⊎ FirstIn (held_by q i) (blocks_of q) → told q i ≡ tells.InNoBlock
      go (inl n) = none_told q i n
      go (inr f) = let w = first_holds q i f in absurd (h w.0 w.1)

  some_first : (i : Place) → (told q i ≡ tells.InNoBlock → ⊥) → (p : PostingOf q) × (p.place ≡ i) × InFirst q p
  some_first i h = go (found_in q i)
    where
      go : EachOf (λ b. held_by q i b ≡ false) (blocks_of q) ⊎ FirstIn (held_by q i) (blocks_of q) → (p : PostingOf q) × (p.place ≡ i) × InFirst q p
      go (inl n) = absurd (h (none_told q i n))
      go (inr f) = first_holds q i f

  always-reached : (i : Place) → told q i ≡ tells.NotReached → ⊥
  always-reached i h = go (found_in q i)
    where
      go : EachOf (λ b. held_by q i b ≡ false) (blocks_of q) ⊎ FirstIn (held_by q i) (blocks_of q) → ⊥
      go (inl n) = let e = none_told q i n in let z : ◌≡◌ {A = ℕ} 0 1 = cc in omega arith
      go (inr f) = let w = first_holds q i f in not-unreached w.0 w.2 (ap (told q) w.1 ∙ h)

  skipped-so : (p : PostingOf q) → InFirst q p → (score bar : Float) → told q p.place ≡ tells.Skipped score bar → SkippedBy q p score bar
  skipped-so p first score bar h = go (met_by p first)
    where
      go : Met q accepted p first → SkippedBy q p score bar
      go (was_skipped m e) = record { skips = m; score-is = cc; bar_is = cc }
      go (was_visited m e) = absurd (let z : ◌≡◌ {A = ℕ} 0 1 = cc in omega arith)
      go (was_evaluated m e) = absurd (let z : ◌≡◌ {A = ℕ} 0 1 = cc in omega arith)

  visited-so : (p : PostingOf q) → InFirst q p → told q p.place ≡ tells.VisitedBefore → VisitedBefore (given_of q) (blocks_of q) (began_with q) (story_of q) p
  visited-so p first h = go (met_by p first)
    where
      go : Met q accepted p first → VisitedBefore (given_of q) (blocks_of q) (began_with q) (story_of q) p
      go (was_skipped m e) = absurd (let z : ◌≡◌ {A = ℕ} 0 1 = cc in omega arith)
      go (was_visited m e) = m
      go (was_evaluated m e) = absurd (let z : ◌≡◌ {A = ℕ} 0 1 = cc in omega arith)

  read-so : (p : PostingOf q) → InFirst q p → told q p.place ≡ tells.Read → Evaluated (given_of q) (blocks_of q) (story_of q) p
  read-so p first h = go (met_by p first)
    where
      go : Met q accepted p first → Evaluated (given_of q) (blocks_of q) (story_of q) p
      go (was_skipped m e) = absurd (let z : ◌≡◌ {A = ℕ} 0 1 = cc in omega arith)
      go (was_visited m e) = absurd (let z : ◌≡◌ {A = ℕ} 0 1 = cc in omega arith)
      go (was_evaluated m e) = m

  pub tells-true : TellsTrue q
  tells-true = record {
    in_no_block = λ i. (none_so i, none-back i);
    in_a_block = some_first;
    skipped = λ p first score bar. (skipped-so p first score bar, skipped-back q accepted p first score bar);
    visited_before = λ p first. (visited-so p first, (λ m. passed-told q accepted p first m.0));
    read = λ p first. (read-so p first, found-told q accepted p first);
    reached = always-reached;
  }
