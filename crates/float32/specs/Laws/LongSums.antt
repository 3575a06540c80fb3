-- A sum of any number of terms stays finite: from 2 ^ 25 times the largest term on, adding one more rounds back.
use Rattle.std.specs.Prelude.{◌≡◌, ℕ, ◌+◌, ◌-◌, ◌*◌, ◌^◌, ◌<◌, ◌≤◌, Bool, false, not, ◌&&◌, T, List, [], ◌∷◌, pos, is_nan, nat_lt, refl, Float}
use Rattle.std.proofs.Common.{sym, subst, zero-le, le_trans, le_of_eq, lt_of_le_of_lt, mul-le-mul_right, mul-one, lit<, lit≤}
use native.Mathlib.Omega.{arith}
use Rattle.std.specs.Bool.{beq}
use mathlib.Core.List.{foldl}
use Rattle.std.specs.Float.{fin, binary32}
use Rattle.std.specs.Float.Ieee.{round, sum, add, size}
use Rattle.std.specs.Float.Ieee.Scale.{finite}
use Rattle.sequences.specs.Lists.{EachOf}
use Rattle.float32.specs.Laws.Rounded.{rounded}
use Rattle.float32.specs.Laws.Operations.{add-by}
use Rattle.float32.specs.Units.{one}
use Rattle.float32.specs.Laws.Units.{one-pos}
use Rattle.float32.specs.Laws.RoundedUnits.{round-value, rounded-mono}
use Rattle.float32.specs.Sums.{Within}
use Rattle.float32.specs.Laws.Sums.{within-finite, within-no-nan, wider, pick}

-- terms of at most 2 ^ j units: one more than 2 ^ 25 of them rounds to 2 ^ 25, which is below the infinities
pub record Holds (j : ℕ) : Type 0 where
  pub back : rounded ((2 ^ 25 + 1) * 2 ^ j) 1 ≤ 2 ^ 25 * 2 ^ j
  pub room : 2 ^ 25 * 2 ^ j < one * 2 ^ 128

module _ (j : ℕ) (holds : Holds j) where
  round-back : (s : Bool) (w : ℕ) → w ≤ (2 ^ 25 + 1) * 2 ^ j → Within (2 ^ 25 * 2 ^ j) (round binary32 s w one)
  round-back s w h =
      let l : rounded (w * one) one ≤ 2 ^ 25 * 2 ^ j = le_trans (rounded-mono (w * one) one ((2 ^ 25 + 1) * 2 ^ j) 1 one-pos (lit< tt) (le_trans (le_of_eq (mul-one (w * one)))
      (mul-le-mul_right one h))) holds.back in
      record { sign = s; size = rounded (w * one) one; value = round-value s w one (lt_of_le_of_lt l holds.room); small = l }

  sum_back : (s t : Bool) (a b : ℕ) → a + b ≤ (2 ^ 25 + 1) * 2 ^ j → Within (2 ^ 25 * 2 ^ j) (sum binary32 s a t b one)
  unfolding sum
  sum_back s t a b h = pick (beq s t) (round-back s (a + b) h) (pick (nat_lt a b) (round-back t (b - a) (less ((2 ^ 25 + 1) * 2 ^ j) h)) (round-back (s && nat_lt b a) (a - b)
      (less' ((2 ^ 25 + 1) * 2 ^ j) h)))
    where
      less : (b' : ℕ) → a + b ≤ b' → b - a ≤ b'
      less b' h = omega arith

      less' : (b' : ℕ) → a + b ≤ b' → a - b ≤ b'
      less' b' h = omega arith

  add_back : (x y : Float) → Within (2 ^ 25 * 2 ^ j) x → Within (1 * 2 ^ j) y → Within (2 ^ 25 * 2 ^ j) (add binary32 x y)
  add_back x y X Y =
      subst (Within (2 ^ 25 * 2 ^ j)) (sym (add-by binary32 x y X.sign Y.sign X.size Y.size one one-pos X.value Y.value))
      (sum_back X.sign Y.sign X.size Y.size (total X.size Y.size (2 ^ j) X.small Y.small))
    where
      total : (a b u : ℕ) → a ≤ 2 ^ 25 * u → b ≤ 1 * u → a + b ≤ (2 ^ 25 + 1) * u
      total a b u h k = omega arith

  sum-from : (acc : Float) (ps : List Float) → Within (2 ^ 25 * 2 ^ j) acc → EachOf (Within (1 * 2 ^ j)) ps → Within (2 ^ 25 * 2 ^ j) (foldl (add binary32) acc ps)
  sum-from acc [] w e = w
  sum-from acc (p ∷ ps) w e = sum-from (add binary32 acc p) ps (add_back acc p w e.0) e.1

  -- whatever the number of terms
  pub long-sum-within : (ps : List Float) → EachOf (Within (1 * 2 ^ j)) ps → Within (2 ^ 25 * 2 ^ j) (foldl (add binary32) (fin false 0 (pos 0)) ps)
  long-sum-within ps e = sum-from (fin false 0 (pos 0)) ps (record { sign = false; size = 0; value = (refl, nil one); small = zero-le }) e
    where
      nil : (o : ℕ) → 0 * 2 ^ 0 * o ≡ 0 * 1
      nil o = omega arith

-- ---- the two scores of document 01
-- products of bounded values are at most 2 ^ 64, which is 2 ^ 213 units
pub products-hold : Holds 213
unfolding one size
products-hold = record { back = lit≤ tt; room = lit< tt }

-- products of a value read back and a bounded one are at most 2 ^ 73, which is 2 ^ 222 units
pub read-products-hold : Holds 222
unfolding one size
read-products-hold = record { back = lit≤ tt; room = lit< tt }

pub summary-score-within : (ps : List Float) → EachOf (Within (1 * 2 ^ 222)) ps → Within (1 * 2 ^ 247) (foldl (add binary32) (fin false 0 (pos 0)) ps)
summary-score-within ps e = wider (2 ^ 25 * 2 ^ 222) (1 * 2 ^ 247) (foldl (add binary32) (fin false 0 (pos 0)) ps) (lit≤ tt) (long-sum-within 222 read-products-hold ps e)

pub score-finite : (ps : List Float) → EachOf (Within (1 * 2 ^ 213)) ps → T (finite (foldl (add binary32) (fin false 0 (pos 0)) ps))
score-finite ps e = within-finite (2 ^ 25 * 2 ^ 213) (foldl (add binary32) (fin false 0 (pos 0)) ps) (long-sum-within 213 products-hold ps e)

pub score-no-nan : (ps : List Float) → EachOf (Within (1 * 2 ^ 213)) ps → T (not (is_nan (foldl (add binary32) (fin false 0 (pos 0)) ps)))
score-no-nan ps e = within-no-nan (2 ^ 25 * 2 ^ 213) (foldl (add binary32) (fin false 0 (pos 0)) ps) (long-sum-within 213 products-hold ps e)

pub summary-score-finite : (ps : List Float) → EachOf (Within (1 * 2 ^ 222)) ps → T (finite (foldl (add binary32) (fin false 0 (pos 0)) ps))
summary-score-finite ps e = within-finite (2 ^ 25 * 2 ^ 222) (foldl (add binary32) (fin false 0 (pos 0)) ps) (long-sum-within 222 read-products-hold ps e)

pub summary-score-no-nan : (ps : List Float) → EachOf (Within (1 * 2 ^ 222)) ps → T (not (is_nan (foldl (add binary32) (fin false 0 (pos 0)) ps)))
summary-score-no-nan ps e = within-no-nan (2 ^ 25 * 2 ^ 222) (foldl (add binary32) (fin false 0 (pos 0)) ps) (long-sum-within 222 read-products-hold ps e)
