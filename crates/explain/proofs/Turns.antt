-- The steps of seeing a turn, over plain numbers and lists.
use Rattle.std.specs.Prelude.{Option}
use Prim.Native.Nat.{ℕ, suc, ◌+◌, ◌-◌, ◌≤◌, ◌<◌, min}
use mathlib.Core.Path.{◌≡◌, sym, ap, ◌∙◌}
use mathlib.Core.Bool.{Bool, true, false, ◌&&◌, cond}
use mathlib.Core.List.{List, [], ◌∷◌, map}
use lib.ListN.{length, get_or}
use lib.Dec.{eqb, leb, ltb}
use lib.Ieee.{Float, nan, binary32, mul}
use native.Mathlib.Omega.{arith}
use native.Mathlib.Numerals.{add-one}
use native.Mathlib.Nat.{sub-zero}
use Rattle.sequences.specs.Lists.{from, before}
use Rattle.number_types.specs.declared.BlockNumber.{BlockNumber}
use Rattle.search_steps.specs.Skips.{skips_at}
use Rattle.search_held.specs.Blocks.{worst_held}
use Rattle.search_probe.specs.Probed.{Terms, Lends, Left, listed, probed}
use Rattle.explain.specs.declared.Turn.{Turn}
use Rattle.explain.specs.Turns.{turn_of_block, turn_at, seen_by, seen, seen_then, turn_seen}
use Rattle.explain.specs.Reasons.{holds, turn_of}

turn_with : BlockNumber → Bool → Float → Float → Bool → Turn
turn_with b f x y s = record { block = b; full = f; score = x; bar = y; skipped = s }

pub turn_is : (k : ℕ) (f : Float) (block_scores : List Float) (order : List ℕ) (at n : ℕ) (scores : List Float) (b : BlockNumber) (x w : Float) (s : Bool)
    → b.0 ≡ get_or order at at → x ≡ get_or block_scores b.0 nan → w ≡ worst_held n scores → s ≡ skips_at k f x n w
    → ◌≡◌ {A = Turn} (record { block = b; full = eqb n k; score = x; bar = mul binary32 f w; skipped = s }) (turn_at k f block_scores order at n scores)
unfolding turn_at turn_with
turn_is k f block_scores order at n scores b x w s hb hx hw hs =
    ap (turn_with b (eqb n k) x (mul binary32 f w)) hs
    ∙ ap (λ z. turn_of_block k f b.0 z n w) hx
    ∙ ap (λ z. turn_of_block k f b.0 (get_or block_scores b.0 nan) n z) hw
    ∙ ap (λ z. turn_of_block k f z (get_or block_scores z nan) n (worst_held n scores)) hb

pub turn-seen : (k : ℕ) (f : Float) (t : Terms) (ps os : List ℕ) (block_scores : List Float) (order : List ℕ) (at : ℕ) (l : Lends) (r : Left) (u : Turn) (s : Option Turn)
    → r ≡ probed k f t ps os block_scores (listed order at) l → u ≡ turn_at k f block_scores order at r.lent.kept.size r.lent.kept.scores → s ≡ seen_by r.answer u
    → seen s r.lent ≡ turn_seen k f t ps os block_scores order at l
unfolding turn_seen seen_then
turn-seen k f t ps os block_scores order at l r u s hr hu hs = ap (λ z. seen z r.lent) (hs ∙ ap (seen_by r.answer) hu) ∙ ap (seen_then k f block_scores order at) hr

pub holds-is : (os : List ℕ) (n i b first end last : ℕ) → first ≡ get_or os b 0 → end ≡ get_or os (b + 1) 0 → last ≡ min end n → (leb first i && ltb i last) ≡ holds os n i b
holds-is os n i b first end last hf he hl = ap (λ z. leb z i && ltb i last) hf ∙ ap (λ z. leb (get_or os b 0) i && ltb i z) (hl ∙ ap (λ z. min z n) he)

-- ---- the first turn whose block holds a position: the turns passed, and those before the first of the rest
module _ (os : List ℕ) (n : ℕ) (order : List ℕ) (turns i : ℕ) where
  abbrev pub left_from : ℕ → List ℕ
  left_from t = map (λ j. get_or order j j) (from t (turns - t))

  abbrev pub Passed : ℕ → Type 0
  Passed t = t + length (before (holds os n i) (left_from t)) ≡ turn_of os n order turns i

  next : (t : ℕ) → t < turns → left_from t ≡ get_or order t t ∷ left_from (t + 1)
  next t h = let z : turns - t ≡ suc (turns - (t + 1)) = omega arith in rw (z, add-one t)

  pub turn-first : Passed 0
  unfolding turn_of
  turn-first = let z : turns - 0 ≡ turns = sub-zero turns in rw z (omega arith)

  pub turn-here : (t b : ℕ) (h : Bool) → t < turns → Passed t → b ≡ get_or order t t → h ≡ holds os n i b → h ≡ true → t ≡ turn_of os n order turns i
  turn-here t b h l p hb hh ht =
      let z : holds os n i (get_or order t t) ≡ true = ap (holds os n i) (sym hb) ∙ sym hh ∙ ht in
      let e : length (before (holds os n i) (left_from t)) ≡ 0 = ap (λ x. length (before (holds os n i) x)) (next t l) ∙ ap (λ x. length (cond x [] (get_or order t t ∷ before (holds os n i) (left_from (t + 1))))) z in
      omega (arith, e, p)

  pub turn_on : (t b : ℕ) (h : Bool) → t < turns → Passed t → b ≡ get_or order t t → h ≡ holds os n i b → h ≡ false → Passed (t + 1)
  turn_on t b h l p hb hh ht =
      let z : holds os n i (get_or order t t) ≡ false = ap (holds os n i) (sym hb) ∙ sym hh ∙ ht in
      let e : length (before (holds os n i) (left_from t)) ≡ suc (length (before (holds os n i) (left_from (t + 1)))) = ap (λ x. length (before (holds os n i) x)) (next t l) ∙ ap (λ x. length (cond x [] (get_or order t t ∷ before (holds os n i) (left_from (t + 1))))) z in
      omega (arith, e, p)

  pub turn-none : (t : ℕ) → turns ≤ t → Passed t → t ≡ turn_of os n order turns i
  turn-none t l p =
      let z : turns - t ≡ 0 = omega arith in
      let e : length (before (holds os n i) (left_from t)) ≡ 0 = ap (λ x. length (before (holds os n i) (map (λ j. get_or order j j) (from t x)))) z in
      omega (arith, e, p)
