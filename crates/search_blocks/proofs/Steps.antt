-- The skip test, a block's turn and the turns one after another, by the tests that were passed.
use Rattle.std.specs.Prelude.{Result, Ok, Err}
use Prim.Native.Nat.{ℕ, suc, ◌+◌, ◌-◌, ◌≤◌, ◌<◌}
use native.Mathlib.Omega.{arith}
use native.Mathlib.Nat.{sub-zero}
use native.Mathlib.Numerals.{add-one}
use mathlib.Core.Path.{◌≡◌, sym, ap, ◌∙◌}
use mathlib.Core.Bool.{Bool, true, false}
use mathlib.Core.List.{List, [], ◌∷◌, map}
use lib.ListN.{get_or}
use lib.Ieee.{Float}
use Rattle.sequences.specs.Lists.{from}
use Rattle.search_steps.specs.Skips.{skips_at}
use Rattle.search_held.specs.declared.Block.{Block}
use Rattle.search_postings.specs.declared.Counts.{Counts}
use Rattle.search_postings.specs.declared.Stop.{Stop}
use Rattle.search_postings.specs.declared.RangeReading.{RangeReading}
use Rattle.search_postings.specs.Postings.{Lends, Turned, turned, one_more, counts, held_probe}
use Rattle.search_blocks.specs.Turns.{listed, worst_held, held_skips, places_of, held_turn, block_at, held_sweep}

-- ---- the worst kept score, and the skip test
module _ (k : ℕ) (f x : Float) (n : ℕ) (xs : List Float) where
  pub skips-by : (w : Float) (r b : Bool) → w ≡ worst_held n xs → r ≡ skips_at k f x n w → r ≡ b → held_skips k f x n xs ≡ b
  unfolding held_skips
  skips-by w r b p q h = ap (skips_at k f x n) (sym p) ∙ sym q ∙ h

-- ---- a block's turn
module _ (k : ℕ) (f : Float) (read : ℕ → RangeReading) (ps : List ℕ) (b : Block) (c : Counts) (l : Lends) where
  pub turn-skips : held_skips k f b.score l.kept.size l.kept.scores ≡ true → (n : ℕ) → n ≡ one_more c.skipped → turned (Ok (counts c.evaluated n)) l ≡ held_turn k f read ps b c l
  unfolding held_turn
  turn-skips h n o = rw (h, o)

  pub turn-probes : (t : Turned) → held_skips k f b.score l.kept.size l.kept.scores ≡ false → t ≡ held_probe k read ps (places_of ps b) c l → t ≡ held_turn k f read ps b c l
  unfolding held_turn
  turn-probes t h r = rw h r

-- ---- blocks, one after another: the first of those that are left has its turn
module _ (k : ℕ) (f : Float) (read : ℕ → RangeReading) (ps os : List ℕ) (xs : List Float) (b : ℕ) (rest all : List ℕ) (is : all ≡ b ∷ rest) (c : Counts) (l : Lends) (q : Block) (at : q ≡ block_at os xs b) where
  pub sweep-on : (t : Result Counts Stop) (m : Lends) (d : Counts) → t ≡ Ok d → turned t m ≡ held_turn k f read ps q c l → held_sweep k f read ps os xs rest d m ≡ held_sweep k f read ps os xs all c l
  unfolding held_sweep
  sweep-on t m d g e = rw (is, ← at, ← e, g)

  pub sweep-stop : (t : Result Counts Stop) (m : Lends) (s : Stop) → t ≡ Err s → turned t m ≡ held_turn k f read ps q c l → (r : Result Counts Stop) → r ≡ Err s → turned r m ≡ held_sweep k f read ps os xs all c l
  unfolding held_sweep
  sweep-stop t m s g e r h = rw (is, ← at, ← e, g, h)

pub sweep-end : (k : ℕ) (f : Float) (read : ℕ → RangeReading) (ps os : List ℕ) (xs : List Float) (all : List ℕ) (c : Counts) (l : Lends) → all ≡ [] → turned (Ok c) l ≡ held_sweep k f read ps os xs all c l
unfolding held_sweep
sweep-end k f read ps os xs all c l e = rw e

-- ---- what is left of the turns
abbrev pub listed_from : List ℕ → ℕ → ℕ → List ℕ
listed_from os i n = map (λ j. get_or os j j) (from i (n - i))

pub listed_next : (os : List ℕ) (i n : ℕ) → i < n → listed_from os i n ≡ get_or os i i ∷ listed_from os (i + 1) n
listed_next os i n h = let z : n - i ≡ suc (n - (i + 1)) = omega arith in rw (z, add-one i)

pub listed-none : (os : List ℕ) (i n : ℕ) → n ≤ i → listed_from os i n ≡ []
listed-none os i n h = let z : n - i ≡ 0 = omega arith in rw z

pub listed-all : (os : List ℕ) (n : ℕ) → listed_from os 0 n ≡ listed os n
listed-all os n = ap (λ m. map (λ j. get_or os j j) (from 0 m)) (sub-zero n)
