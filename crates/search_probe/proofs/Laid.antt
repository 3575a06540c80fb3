-- With room for k, the turns over lent memory are the sweep over its entries, laid down; what lies past them is unchanged.
use Rattle.std.specs.Prelude.{Ok, Err}
use Prim.Native.Nat.{ℕ, ◌+◌, ◌≤◌}
use native.Mathlib.Omega.{arith}
use mathlib.Core.Path.{◌≡◌, refl, sym, ap, ◌∙◌}
use mathlib.Core.Bool.{Bool, true, false, not, ◌&&◌, cond}
use mathlib.Core.List.{List, [], ◌∷◌, ◌++◌, map}
use lib.ListN.{length, get_or, set, drop}
use lib.Dec.{eqb}
use lib.Ieee.{nan, binary32, lt, mul}
use Rattle.kept_list.specs.declared.Scored.{Scored}
use Rattle.kept_list.specs.Keep.{keep}
use Rattle.kept_list.specs.Laws.Pushing.{length-keep}
use Rattle.kept_list.specs.Entry.{scored, better}
use Rattle.kept_list.specs.Lent.{Lent, score_of, entries, written, settled}
use Rattle.kept_list.specs.Laid.{RoomFor}
use Rattle.kept_list.specs.Laws.Laid.{entries-written, written_over, room-written, settled_is, written_same, length-beside}
use Rattle.search_postings.specs.declared.Counts.{Counts}
use Rattle.search_postings.specs.declared.RangeReading.{RangeReading}
use Rattle.search_postings.specs.declared.RangeReading.TheVariants.{ReachesPast, Breaks, Score}
use Rattle.search_postings.specs.Postings.{Lends, lends, Turned, turned, counts, stop_of, next, held_outcome, held_evaluate, held_probe}
use Rattle.search_blocks.specs.Turns.{held_skips, held_turn, block_at, held_sweep}
use Rattle.search_probe.specs.Probing.{Place, Given, State, state, passed, of_reading, packed_at, start_at, Reached, goes_on, stops_at, and_then, evaluate, probe, skips, positions, pass_over, sweep}
use Rattle.search_probe.specs.Probed.{Terms, left, rest_of, laid, answer_of}
use Rattle.search_probe.proofs.Counted.{unvisited-few, HasBytes, Fits, counts-on, found_at, found-counted, found-fits, FitsOn, probe-fits}
use Rattle.search_probe.specs.Laws.Worst.{worst-laid}

-- a state laid down
abbrev pub laid_state : Lent → State → Lends
laid_state l s = lends (written s.kept l) s.visits

abbrev counts_of : State → Counts
counts_of s = counts s.evaluated s.skipped

abbrev pub laid_turn : Lent → Reached → Turned
laid_turn l (goes_on s) = turned (Ok (counts_of s)) (laid_state l s)
laid_turn l (stops_at r i s) = turned (Err (stop_of r i)) (laid_state l s)

module _ (g : Given) (l : Lent) (room : RoomFor g.k l) where
  settled-laid : (e : Scored) (es : List Scored) → length es ≤ g.k → settled g.k e (written es l) ≡ written (keep better g.k e es) l
  settled-laid e es n =
      settled_is g.k e (written es l) (room-written g.k es l n room)
      ∙ ap (λ fs. written (keep better g.k e fs) (written es l)) (entries-written es l)
      ∙ written_over (keep better g.k e es) es l (omega (arith, length-keep better g.k e es))

  abbrev held_from : List Place → State → Turned
  held_from is s = held_probe g.k g.read g.postings is (counts_of s) (laid_state l s)

  probe-laid : (is : List Place) (s : State) → Fits g s → held_from is s ≡ laid_turn l (probe g is s)
  unfolding held_probe held_evaluate
  probe-laid [] s n = refl
  probe-laid (i ∷ is) s n = go (eqb (get_or s.visits (start_at g i) 0) 0) refl (g.read (packed_at g i)) refl (probe-laid is)
    where
      go : (b : Bool) → eqb (get_or s.visits (start_at g i) 0) 0 ≡ b → (r : RangeReading) → g.read (packed_at g i) ≡ r → ((s : State) → Fits g s → held_from is s ≡ laid_turn l (probe g is s))
          → next (held_outcome g.k (packed_at g i) i (counts_of s) (laid_state l s) (cond (not b) passed (of_reading (packed_at g i) r))) (held_probe g.k g.read g.postings is)
          ≡ laid_turn l (and_then (evaluate g i s (cond (not b) passed (of_reading (packed_at g i) r))) (probe g is))
      go false e r f h = h s n
      go true e ReachesPast f h = refl
      go true e Breaks f h = refl
      go true e (Score x) f h =
          ap (λ m. held_probe g.k g.read g.postings is (counts m s.skipped) (lends (settled g.k (scored (packed_at g i) x) (written s.kept l)) (set s.visits (start_at g i) 1)))
          (counts-on s.evaluated (found-counted g i x s n e f))
          ∙ ap (λ m. held_probe g.k g.read g.postings is (counts (s.evaluated + 1) s.skipped) (lends m (set s.visits (start_at g i) 1))) (settled-laid (scored (packed_at g i) x) s.kept n.few)
          ∙ h (found_at g i x s) (found-fits g i x s n e f)

  skips-laid : (es : List Scored) (b : ℕ) → held_skips g.k g.factor (get_or g.block_scores b nan) (length es) (map score_of es ++ drop (length es) l.scores) ≡ skips g es b
  unfolding held_skips
  skips-laid es b = ap (λ w. eqb (length es) g.k && lt (get_or g.block_scores b nan) (mul binary32 g.factor w)) (worst-laid es (drop (length es) l.scores))

  abbrev held_all : List ℕ → Counts → Lends → Turned
  held_all = held_sweep g.k g.factor g.read g.postings g.block_offsets g.block_scores

  -- as long as the blocks that are left can be counted
  abbrev LaidFrom : List ℕ → Type 0
  LaidFrom bs = (s : State) → Fits g s → s.skipped + length bs ≤ 18446744073709551615 → held_all bs (counts_of s) (laid_state l s) ≡ laid_turn l (sweep g bs s)

  sweep-laid : (bs : List ℕ) → LaidFrom bs
  unfolding held_sweep held_turn block_at
  sweep-laid [] s n m = refl
  sweep-laid (b ∷ bs) s n m =
      ap (λ k. next (cond (held_skips g.k g.factor (get_or g.block_scores b nan) (length s.kept) (laid_state l s).kept.scores) (turned (Ok (counts s.evaluated k)) (laid_state l s)) (held_from (positions g b) s)) (held_all bs))
      (counts-on s.skipped (omega arith))
      ∙ ap (λ x. next (cond x (turned (Ok (counts_of (pass_over s))) (laid_state l s)) (held_from (positions g b) s)) (held_all bs)) (skips-laid s.kept b)
      ∙ go (skips g s.kept b) (sweep-laid bs)
    where
      rest : (r : Reached) → FitsOn g s.skipped r → LaidFrom bs → next (laid_turn l r) (held_all bs) ≡ laid_turn l (and_then r (sweep g bs))
      rest (goes_on t) f h = h t f.0 (omega (arith, f.1))
      rest (stops_at r i t) f h = refl

      go : (x : Bool) → LaidFrom bs
          → next (cond x (turned (Ok (counts_of (pass_over s))) (laid_state l s)) (held_from (positions g b) s)) (held_all bs) ≡ laid_turn l (and_then (cond x (goes_on (pass_over s)) (probe g (positions g b) s)) (sweep g bs))
      go true h = h (pass_over s) (record { few = n.few; counted = n.counted; bytes = n.bytes }) (omega arith)
      go false h = ap (λ r. next r (held_all bs)) (probe-laid (positions g b) s n) ∙ rest (probe g (positions g b) s) (probe-fits g (positions g b) s n) h

  pub held-is : (v bs : List ℕ) → HasBytes g.read (length v) → length v ≤ 18446744073709551615 → length bs ≤ 18446744073709551615
      → held_all bs (counts 0 0) (lends l v) ≡ laid_turn l (sweep g bs (state (entries l) v 0 0))
  held-is v bs bytes fit m =
      ap (λ m. held_all bs (counts 0 0) (lends m v)) (sym (written_same l.size l.packed l.scores (omega arith) (omega arith)))
      ∙ sweep-laid bs (state (entries l) v 0 0)
      (record {
        few = omega (arith, length-beside l.size l.packed l.scores (omega arith) (omega arith));
        counted = omega (arith, unvisited-few v);
        bytes = bytes;
      })
      (omega arith)

-- the answer to what was reached, with the bytes that were not looked at
pub answer-laid : (t : Terms) (l : Lends) (r : Reached)
    → left (answer_of (laid_turn l.kept r).turn (laid_turn l.kept r).lent.kept.size) (lends (laid_turn l.kept r).lent.kept ((laid_turn l.kept r).lent.visits ++ rest_of t l.visits)) ≡ laid t l r
answer-laid t l (goes_on s) = refl
answer-laid t l (stops_at r i s) = refl
