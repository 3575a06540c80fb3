-- The steps of telling what became of a posting, over plain numbers and lists.
use Rattle.std.specs.Prelude.{Some, Option}
use Prim.Native.Nat.{ℕ, ◌+◌, min}
use native.Mathlib.Omega.{arith}
use mathlib.Core.Path.{◌≡◌, sym, ap, ◌∙◌}
use mathlib.Core.Bool.{Bool, true, false, not, cond}
use mathlib.Core.List.{List, [], ◌∷◌}
use lib.ListN.{length, get_or, take}
use lib.Dec.{eqb}
use lib.Ieee.{Float}
use borrow.Author.Tests.{eq-eqb, ne_eqb}
use Rattle.sequences.specs.Laws.Lists.{cut-is}
use Rattle.packing.specs.declared.UnpackedRange.{UnpackedRange}
use Rattle.packing.specs.Packing.{unpacked}
use Rattle.search_probe.specs.declared.Answer.{Answer}
use Rattle.search_probe.specs.declared.Answer.TheVariants.{Found}
use Rattle.search_probe.specs.Probed.{Terms, Lends, Left, bytes_of, listed, probed}
use Rattle.explain.specs.declared.Turn.{Turn}
use Rattle.explain.specs.declared.Probed.{Probed}
use Rattle.explain.specs.declared.Fate.{Fate}
use Rattle.explain.specs.declared.Fate.TheVariants.{InNoBlock, VisitedBefore, Read}
use Rattle.explain.specs.Turns.{seen, turn_seen}
use Rattle.explain.specs.Reasons.{turn_of, reached_fate, fated, fated_then, fated_in, searched, turn_fate, probed_of, probed_block, at_turn, fate_at, fate_of}

pub fate-reached : (a : Answer) (p : ℕ) (visits : List ℕ) (u : UnpackedRange) (v w : Bool) {n e s : ℕ}
    → a ≡ Found n e s → u ≡ unpacked p → v ≡ not (eqb (get_or visits u.start.0 0) 0) → v ≡ w → cond w VisitedBefore Read ≡ reached_fate a p visits
fate-reached a p visits u v w ha hu hv hw =
    ap (λ z. cond z VisitedBefore Read) (sym hw ∙ hv ∙ ap (λ (z : UnpackedRange). not (eqb (get_or visits z.start.0 0) 0)) hu) ∙ ap (λ x. reached_fate x p visits) (sym ha)

pub probed-is : (os : List ℕ) (turn : Option Turn) (t : Turn) (n : ℕ) → turn ≡ Some t → n ≡ get_or os t.block.0 0 → probed_of n t.score ≡ probed_block os turn
probed-is os turn t n h hn = ap (λ z. probed_of z t.score) hn ∙ ap (probed_block os) (sym h)

pub fated-in : (k : ℕ) (f : Float) (t : Terms) (ps : List ℕ) (first : ℕ) (score : Float) (i : ℕ) (l : Lends) (r : Left) (p : ℕ) (g : Fate)
    → r ≡ probed k f t ps (first ∷ i ∷ []) (score ∷ []) (listed [] 1) l → p ≡ get_or ps i 0 → (n : ℕ) → n ≡ min (length r.lent.visits) (length t.components + 1)
    → g ≡ reached_fate r.answer p (take n r.lent.visits) → fated g r.lent ≡ fated_in k f t ps first score i l
unfolding fated_in fated_then
fated-in k f t ps first score i l r p g hr hp n hn hg =
    ap (λ z. fated z r.lent) (hg ∙ ap (reached_fate r.answer p) (cut-is r.lent.visits (length t.components + 1) n (let z : n ≡ min (length t.components + 1) (length r.lent.visits) = omega (arith, hn) in z)) ∙ ap (λ z. reached_fate r.answer z (bytes_of t r.lent.visits)) hp)
    ∙ ap (fated_then t ps i) hr

module _ (k : ℕ) (f : Float) (t : Terms) (ps os : List ℕ) (block_scores : List Float) (order : List ℕ) (turns i : ℕ) (l : Lends) (at : ℕ) (ha : at ≡ turn_of os (length ps) order turns i) where
  pub fate-none : at ≡ turns → fated InNoBlock l ≡ fate_of k f t ps os block_scores order turns i l
  unfolding fate_of fate_at
  fate-none h = ap (λ z. cond z (fated InNoBlock l) (at_turn k f t ps os i (turn_seen k f t ps os block_scores order at l))) (sym (eq-eqb at turns h)) ∙ ap (λ z. fate_at k f t ps os block_scores order turns i z l) ha

  fate-some : (at ≡ turns → ⊥) → at_turn k f t ps os i (turn_seen k f t ps os block_scores order at l) ≡ fate_of k f t ps os block_scores order turns i l
  unfolding fate_of fate_at
  fate-some h = ap (λ z. cond z (fated InNoBlock l) (at_turn k f t ps os i (turn_seen k f t ps os block_scores order at l))) (sym (ne_eqb at turns h)) ∙ ap (λ z. fate_at k f t ps os block_scores order turns i z l) ha

  pub fate-turn : (at ≡ turns → ⊥) → (s : Option Turn) (m : Lends) (b : Bool) (g : Fate) → seen s m ≡ turn_seen k f t ps os block_scores order at l → b ≡ searched s → b ≡ false → g ≡ turn_fate s
      → fated g m ≡ fate_of k f t ps os block_scores order turns i l
  unfolding at_turn
  fate-turn h s m b g hs hb hf hg =
      ap (λ z. fated z m) hg
      ∙ ap (λ z. cond z (fated_in k f t ps (probed_block os s).first (probed_block os s).score i m) (fated (turn_fate s) m)) (sym hf ∙ hb)
      ∙ ap (at_turn k f t ps os i) hs ∙ fate-some h

  pub fate-probed : (at ≡ turns → ⊥) → (s : Option Turn) (m : Lends) (b : Bool) (d : Probed) (g : Fate) (m' : Lends) → seen s m ≡ turn_seen k f t ps os block_scores order at l → b ≡ searched s → b ≡ true
      → d ≡ probed_block os s → fated g m' ≡ fated_in k f t ps d.first d.score i m → fated g m' ≡ fate_of k f t ps os block_scores order turns i l
  unfolding at_turn
  fate-probed h s m b d g m' hs hb ht hd hg =
      hg ∙ ap (λ (z : Probed). fated_in k f t ps z.first z.score i m) hd
      ∙ ap (λ z. cond z (fated_in k f t ps (probed_block os s).first (probed_block os s).score i m) (fated (turn_fate s) m)) (sym ht ∙ hb)
      ∙ ap (at_turn k f t ps os i) hs ∙ fate-some h
