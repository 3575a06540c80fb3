-- What is told of a posting at its block's turn, from the state in which the turns before leave the search.
use Rattle.std.specs.Prelude.{Some, ℕ, ◌+◌, ◌-◌, ◌≤◌, ◌<◌, min, ◌≡◌, Bool, true, not, ◌&&◌, get_or, ltb, Ok}
use Rattle.std.proofs.Common.{arith, ◌∙◌, take_at, ne_eqb, le-leb, lt-ltb}
use Rattle.std.proofs.Math.Path.{sym, ap}
use Rattle.std.proofs.Math.Bool.{false, cond}
use mathlib.Core.List.{[], ◌∷◌, ◌++◌, map}
use Rattle.std.proofs.Math.ListN.{length, drop}
use Rattle.std.specs.Float.{nan}
use Rattle.std.specs.Float.Ieee.{binary32, mul}
use Rattle.sequences.specs.Lists.{before, from, among}
use Rattle.sequences.specs.Laws.Each.{each_to}
use Rattle.refusal.specs.First.{first_of}
use Rattle.kept_list.specs.Lent.{score_of}
use Rattle.search_held.specs.Blocks.{worst_held}
use Rattle.search_probe.specs.Probing.{Place, Given, State, state, goes_on, and_then, probe, skips, positions, pass_over, sweep, visited, worst}
use Rattle.search_probe.specs.Probed.{given, tests, rest_of, laid, if_accepted, opened, listed, probed}
use Rattle.search_probe.specs.Laws.Worst.{worst-laid}
use Rattle.explain.specs.declared.Turn.{Turn}
use Rattle.explain.specs.declared.Fate.TheVariants as tells
use Rattle.explain.specs.Turns.{turn_of_block, turn_at, seen, seen_then, turn_seen}
use Rattle.explain.specs.Reasons.{holds, turn_of, Fated, fated, fated_then, fated_in, at_turn, fate_at, fate_of}
use Rattle.explain_promises.specs.Laws.Cuts.{before-first, map-cut, from_cut, among-until}
use Rattle.explain_promises.specs.Laws.Again.{laid_down, Fits, accepted-again, opened-again}
use Rattle.explain_promises.specs.Telling.{Search, told, given_of, began_with, PostingOf, InFirst}

-- a block holds a position exactly when it is among the block's places
pub holds-is : (q : Search) (i : Place) (b : ℕ) → among i (positions (given_of q) b) ≡ holds q.block_offsets (length q.postings) i b
holds-is q i b = among-until (get_or q.block_offsets b 0) (min (get_or q.block_offsets (b + 1) 0) (length q.postings)) i

module _ (q : Search) (p : PostingOf q) where
  -- where the posting lies
  abbrev first_place : ℕ
  first_place = get_or q.block_offsets p.block 0

  abbrev end_place : ℕ
  end_place = min (get_or q.block_offsets (p.block + 1) 0) (length q.postings)

  pub places-before : p.places_before ≡ from first_place (p.place - first_place)
  places-before = (from_cut first_place (end_place - first_place) p.places_before p.place p.places_after p.in_block).0

  pub within : (first_place ≤ p.place) × (p.place < end_place)
  within =
      let c = from_cut first_place (end_place - first_place) p.places_before p.place p.places_after p.in_block in
      let a = c.1 in
      let b = c.2 in
      (a, omega arith)

  pub held-here : holds q.block_offsets (length q.postings) p.place p.block ≡ true
  held-here = ap (λ b. b && ltb p.place end_place) (le-leb first_place p.place within.0) ∙ lt-ltb p.place end_place within.1

module _ (q : Search) (accepted : first_of (tests q.k q.terms q.lent) ≡ Ok tt) (p : PostingOf q) (first : InFirst q p) (s : State) (there : sweep (given_of q) p.blocks_before (began_with q)
    ≡ goes_on s) where
  abbrev at : ℕ
  at = length p.blocks_before

  -- the turns up to its block's, in the order listed
  order-cut : (listed q.block_order at ≡ p.blocks_before) × (get_or q.block_order at at ≡ p.block) × (at < q.count)
  order-cut =
      let c = map-cut (λ i. get_or q.block_order i i) 0 q.count p.blocks_before p.block p.blocks_after p.in_list in
      let z : 0 + at ≡ at = omega arith in
      (c.0, ap (λ n. get_or q.block_order n n) (sym z) ∙ c.1, c.2)

  turn_is : turn_of q.block_offsets (length q.postings) q.block_order q.count p.place ≡ at
  unfolding turn_of
  turn_is =
      ap (λ bs. length (before (holds q.block_offsets (length q.postings) p.place) bs)) p.in_list
      ∙ ap length (before-first (holds q.block_offsets (length q.postings) p.place) p.blocks_before p.block p.blocks_after (each_to _ _ (λ b h. sym (holds-is q p.place b)
      ∙ h) p.blocks_before first) (held-here q p))

  abbrev turn_then : Turn
  turn_then = turn_of_block q.k q.factor p.block (get_or q.block_scores p.block nan) (length s.kept) (worst s.kept)

  turn-then : turn_at q.k q.factor q.block_scores q.block_order at (length s.kept) (map score_of s.kept ++ drop (length s.kept) q.lent.kept.scores) ≡ turn_then
  unfolding turn_at
  turn-then =
      let xs = map score_of s.kept ++ drop (length s.kept) q.lent.kept.scores in
      ap (λ b. turn_of_block q.k q.factor b (get_or q.block_scores b nan) (length s.kept) (worst_held (length s.kept) xs)) order-cut.1
      ∙ ap (turn_of_block q.k q.factor p.block (get_or q.block_scores p.block nan) (length s.kept)) (worst-laid s.kept (drop (length s.kept) q.lent.kept.scores))

  probed-before : probed q.k q.factor q.terms q.postings q.block_offsets q.block_scores (listed q.block_order at) q.lent ≡ laid q.terms q.lent (goes_on s)
  unfolding probed
  probed-before =
      ap (λ v. if_accepted v (laid q.terms q.lent (sweep (given_of q) (listed q.block_order at) (began_with q))) q.lent) accepted
      ∙ ap (λ bs. laid q.terms q.lent (sweep (given_of q) bs (began_with q))) order-cut.0
      ∙ ap (laid q.terms q.lent) there

  turn-seen : turn_seen q.k q.factor q.terms q.postings q.block_offsets q.block_scores q.block_order at q.lent ≡ seen (Some turn_then) (laid_down q.terms q.lent s)
  unfolding turn_seen seen_then
  turn-seen = ap (seen_then q.k q.factor q.block_scores q.block_order at) probed-before ∙ ap (λ u. seen (Some u) (laid_down q.terms q.lent s)) turn-then

  fate-at-turn : fate_of q.k q.factor q.terms q.postings q.block_offsets q.block_scores q.block_order q.count p.place q.lent
      ≡ at_turn q.k q.factor q.terms q.postings q.block_offsets p.place (seen (Some turn_then) (laid_down q.terms q.lent s))
  unfolding fate_of fate_at
  fate-at-turn =
      let l = order-cut.2 in
      let turned = at_turn q.k q.factor q.terms q.postings q.block_offsets p.place in
      ap (λ n. fate_at q.k q.factor q.terms q.postings q.block_offsets q.block_scores q.block_order q.count p.place n q.lent) turn_is
      ∙ ap (λ b. cond b (fated tells.InNoBlock q.lent) (turned (turn_seen q.k q.factor q.terms q.postings q.block_offsets q.block_scores q.block_order at q.lent)))
      (ne_eqb at q.count (λ e. omega arith))
      ∙ ap turned turn-seen

  -- the postings of its block before it probed as one block of their own, from what is held at the turn
  abbrev of_block : Fated
  of_block = fated_in q.k q.factor q.terms q.postings (get_or q.block_offsets p.block 0) (get_or q.block_scores p.block nan) p.place (laid_down q.terms q.lent s)

  told-by : (b : Bool) → skips (given_of q) s.kept p.block ≡ b
      → told q p.place ≡ (cond (not b) of_block (fated (tells.Skipped (get_or q.block_scores p.block nan) (mul binary32 q.factor (worst s.kept))) (laid_down q.terms q.lent s))).fate
  unfolding at_turn
  told-by b h =
      ap (λ (f : Fated). f.fate) (fate-at-turn ∙ ap (λ b. cond (not b) of_block (fated (tells.Skipped (get_or q.block_scores p.block nan) (mul binary32 q.factor (worst s.kept)))
      (laid_down q.terms q.lent s))) h)

  -- a block that is skipped
  pub skipped-told : skips (given_of q) s.kept p.block ≡ true → told q p.place ≡ tells.Skipped (get_or q.block_scores p.block nan) (mul binary32 q.factor (worst s.kept))
  skipped-told = told-by true

  abbrev alone : Given
  alone = given q.k q.factor q.terms q.postings (get_or q.block_offsets p.block 0 ∷ p.place ∷ []) (get_or q.block_scores p.block nan ∷ [])

  abbrev state_then : State
  state_then = state s.kept s.visits 0 0

  alone-is : (z : State) → skips (given_of q) s.kept p.block ≡ false → probe alone p.places_before state_then ≡ goes_on z → sweep alone (0 ∷ []) state_then ≡ goes_on z
  alone-is z h e =
      let w = within q p in
      let below = w.1 in
      let m : min p.place (length q.postings) ≡ p.place = omega arith in
      let o = get_or q.block_offsets p.block 0 in
      ap (λ b. and_then (cond b (goes_on (pass_over state_then)) (probe alone (from o (min p.place (length q.postings) - o)) state_then)) (sweep alone [])) h
      ∙ ap (λ n. and_then (probe alone (from o (n - o)) state_then) (sweep alone [])) m
      ∙ ap (λ js. and_then (probe alone js state_then) (sweep alone [])) (sym (places-before q p))
      ∙ ap (λ r. and_then r (sweep alone [])) e

  -- a block that is searched: its places before the posting come to a state, whose visit bytes decide
  pub reached-told : Fits q.k q.terms q.lent accepted s → (z : State) → skips (given_of q) s.kept p.block ≡ false → probe alone p.places_before state_then ≡ goes_on z
      → length z.visits ≡ length q.terms.components + 1 → told q p.place ≡ cond (visited z.visits (get_or q.postings p.place 0)) tells.VisitedBefore tells.Read
  unfolding fated_in fated_then probed
  reached-told fits z h e n =
      let l = laid_down q.terms q.lent s in
      told-by false h
      ∙ ap (λ v. (fated_then q.terms q.postings p.place (if_accepted v (laid q.terms l (sweep alone (0 ∷ []) (opened q.terms l))) l)).fate) (accepted-again q.k q.terms q.lent
      accepted s fits)
      ∙ ap (λ o. (fated_then q.terms q.postings p.place (laid q.terms l (sweep alone (0 ∷ []) o))).fate) (opened-again q.k q.terms q.lent accepted s fits)
      ∙ ap (λ r. (fated_then q.terms q.postings p.place (laid q.terms l r)).fate) (alone-is z h e)
      ∙ ap (λ v. cond (visited v (get_or q.postings p.place 0)) tells.VisitedBefore tells.Read) (take_at z.visits (rest_of q.terms l.visits) (length q.terms.components + 1) n)
