-- A part of a list that is written over, keys written one after another, and a frame in its place.
use Prim.Native.Nat.{ℕ, suc, ◌+◌, ◌-◌, ◌≤◌, ◌<◌}
use native.Mathlib.Omega.{arith}
use native.Mathlib.Numerals.{add-one}
use mathlib.Core.Path.{◌≡◌, sym, ap, ◌∙◌}
use mathlib.Core.Bool.{cond}
use mathlib.Core.List.{List, [], ◌∷◌, ◌++◌, append_assoc}
use lib.ListN.{length, get_or, set, take, drop, drop_of_length-le}
use lib.Seq.{sets, drop-cons}
use borrow.Rule.Slice.PartMut.{put_mid}
use Rattle.std.proofs.lemmas.List.{drop-drop}
use Rattle.std.proofs.lemmas.List.Edits.{sets-eq}
use borrow.Author.Tests.{lt-ltb, le-ltb}
use Rattle.build_kept_keys.specs.Frames.{frame, place_after}

-- ---- a part of a list, written over
pub part-written : (a k : ℕ) (xs ys zs : List ℕ) → k ≡ length zs → a + length zs ≤ length xs → ys ≡ zs → put_mid a k xs ys ≡ sets xs a zs
part-written a k xs ys zs e h w =
    ap (put_mid a k xs) w ∙ ap (λ n. put_mid a n xs zs) e ∙ ap (λ r. take a xs ++ (zs ++ r)) (drop-drop (length zs) a xs)
    ∙ sym (append_assoc (take a xs) zs (drop (a + length zs) xs)) ∙ sym (sets-eq zs xs a h)

-- ---- keys written one after another, place by place, for whoever counts places: what is left to write, written, is all written
pub write-start : (keys before : List ℕ) (from : ℕ) → sets before (from + 0) keys ≡ sets before from keys
write-start keys before from = ap (λ n. sets before n keys) (let w : from + 0 ≡ from = omega arith in w)

module _ (keys before now : List ℕ) (from i : ℕ) where
  pub write_step : (x : ℕ) → i < length keys → x ≡ get_or keys i 0 → sets now (from + i) (drop i keys) ≡ sets before from keys → sets (set now (from + i) x) (from + (i + 1)) (drop (i + 1) keys) ≡ sets before from keys
  write_step x h q e =
      let s : from + (i + 1) ≡ suc (from + i) = omega arith in
      (λ j. sets (set now (from + i) (q j)) (s j) (drop (add-one i j) keys))
      ∙ sym (ap (sets now (from + i)) (drop-cons keys i 0 h))
      ∙ e

  pub write-end : length keys ≤ i → sets now (from + i) (drop i keys) ≡ sets before from keys → now ≡ sets before from keys
  write-end h e = sym (ap (sets now (from + i)) (drop_of_length-le keys h)) ∙ e

-- ---- a block's frame
module _ (at : ℕ) (keys store : List ℕ) (p : ℕ) (e : p ≡ length store - at) where
  -- no place for it
  pub full-place : p ≤ length keys → length store ≡ place_after at (length keys) (length store)
  full-place h = sym (ap (λ z. cond z (at + 1 + length keys) (length store)) (le-ltb (length keys) (length store - at) (omega arith)))

  pub full-store : p ≤ length keys → store ≡ sets store at (frame (length store - at) keys)
  full-store h = sym (ap (λ z. sets store at (cond z (length keys ∷ keys) [])) (le-ltb (length keys) (length store - at) (omega arith)))

  -- it is written
  module _ (h : length keys < p) where
    pub frame-inside : at + 1 + length keys ≤ length store
    frame-inside = omega arith

    pub kept-place : at + 1 + length keys ≡ place_after at (length keys) (length store)
    kept-place = sym (ap (λ z. cond z (at + 1 + length keys) (length store)) (lt-ltb (length keys) (length store - at) (omega arith)))

    pub kept_store : (n : ℕ) → n ≡ length keys → (after : List ℕ) → after ≡ sets (set store at n) (at + 1) keys → after ≡ sets store at (frame (length store - at) keys)
    kept_store n z after w =
        w ∙ (λ j. sets (set store at (z j)) (add-one at j) keys)
        ∙ sym (ap (λ z. sets store at (cond z (length keys ∷ keys) [])) (lt-ltb (length keys) (length store - at) (omega arith)))
