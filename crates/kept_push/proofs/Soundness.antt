-- One pass over neighbours tells whether entries stand best first without a NaN.
use Prim.Native.Nat.{ℕ, zero, suc, ◌+◌, ◌-◌, ◌*◌, ◌≤◌, ◌<◌}
use native.Mathlib.Omega.{arith}
use native.Mathlib.Numerals.{add-one}
use mathlib.Core.Path.{◌≡◌, refl, sym, ap, ◌∙◌}
use mathlib.Core.Logic.{inl, inr}
use mathlib.Core.Bool.{Bool, true, false, not, ◌&&◌, and-true, and_assoc}
use mathlib.Core.List.{List, [], ◌∷◌}
use lib.ListN.{length, get_or, take, drop}
use lib.Dec.{T, ltb, eqb}
use lib.Ieee.{Float, nan, inf, fin, is_nan, eq, up, down, fits, binary32}
use borrow.Author.Tests.{lt-ltb, eq-eqb, not-true}
use Rattle.sequences.specs.Lists.{every}
use Rattle.sequences.specs.Laws.Lists.{both, decide, le-or-lt}
use Rattle.float32.specs.Key.{key_of}
use Rattle.float32.specs.Laws.Tests.{yes}
use Rattle.float32.specs.Laws.KeyLaws.{key-of-nan, key-number, only_nan}
use Rattle.kept_list.specs.declared.Scored.{Scored}
use Rattle.kept_list.specs.Keep.{no_later, in_order}
use Rattle.kept_list.specs.Order.{Order}
use Rattle.kept_list.specs.Laws.Sorted.{none-weak}
use Rattle.kept_list.specs.Entry.{better}
use Rattle.kept_list.specs.Laws.Entry.{better-order, better-of-lt}
use Rattle.kept_list.specs.Lent.{lent, entry_at, beside, entries}
use Rattle.kept_list.specs.Push.{is_number, sound}
use Rattle.kept_push.specs.Standing.{each_from, stands, falls, Fallen}

-- ---- each entry may stand right before the next: then the list is in order
module _ {A : Type 0} (better : A → A → Bool) (O : Order better) where
  abbrev pub steps_from : A → List A → Bool
  steps_from a [] = true
  steps_from a (e ∷ es) = no_later better a e && steps_from e es

  steps-order : (a : A) (es : List A) → in_order better (a ∷ es) ≡ steps_from a es
  steps-order a [] = refl
  steps-order a (e ∷ es) = go (no_later better a e) refl (in_order better (e ∷ es)) refl (steps-order e es)
    where
      go : (b : Bool) → no_later better a e ≡ b → (c : Bool) → in_order better (e ∷ es) ≡ c → in_order better (e ∷ es) ≡ steps_from e es
          → ((b && every (no_later better a) es) && in_order better (e ∷ es)) ≡ (b && steps_from e es)
      go false q c r i = refl
      go true q false r i = let z = none_of (every (no_later better a) es) in cc
        where
          none_of : (b : Bool) → (b && false) ≡ false
          none_of true = refl
          none_of false = refl
      go true q true r i =
          let s = both (every (no_later better e) es) (in_order better es) r in
          let w = none-weak better O a e es (not-true (better e a) q) s.0 in
          cc

-- ---- a NaN stands above every number, so in order it would stand first
abbrev Fit : Scored → Type 0
Fit e = T (fits binary32 e.score)

nan-above : (f g : Scored) → Fit f → is_number f ≡ true → is_nan g.score ≡ true → better g f ≡ true
unfolding better
nan-above f g p n m =
    let k : key_of g.score ≡ 4294967295 = ap key_of (sym (only_nan g.score m)) ∙ key-of-nan in
    let l = key-number f.score p (yes (is_number f) n) in
    let t : ltb (key_of f.score) (key_of g.score) ≡ true = lt-ltb (key_of f.score) (key_of g.score) (omega arith) in
    rw t

numbers-behind : (f : Scored) (gs : List Scored) → Fit f → is_number f ≡ true → every (no_later better f) gs ≡ true → every is_number gs ≡ true
numbers-behind f [] p n h = refl
numbers-behind f (g ∷ gs) p n h =
    let s = both (not (better g f)) (every (no_later better f) gs) h in
    let i = numbers-behind f gs p n s.1 in
    elim (decide (is_nan g.score)) [
      | inl m ↦ let t = nan-above f g p n m in cc
      | inr m ↦ rw (m, i)
    ]

sound-by : (f : Scored) (fs : List Scored) → Fit f → sound (f ∷ fs) ≡ (is_number f && steps_from better better-order f fs)
sound-by f fs p = go (is_number f) refl (in_order better (f ∷ fs)) refl ∙ ap (λ b. is_number f && b) (steps-order better better-order f fs)
  where
    go : (n : Bool) → is_number f ≡ n → (o : Bool) → in_order better (f ∷ fs) ≡ o → (in_order better (f ∷ fs) && (is_number f && every is_number fs)) ≡ (is_number f && in_order better (f ∷ fs))
    go false q false r = cc
    go false q true r = cc
    go true q false r = cc
    go true q true r = let i = numbers-behind f fs p q (both (every (no_later better f) fs) (in_order better fs) r).0 in cc

-- the test that a program has for a NaN
pub eq_self : (x : Float) → eq x x ≡ not (is_nan x)
unfolding eq is_nan
eq_self nan = refl
eq_self (inf true) = refl
eq_self (inf false) = refl
eq_self (fin true m e) = let h : eqb (m * up e * down e) (m * up e * down e) ≡ true = eq-eqb (m * up e * down e) (m * up e * down e) refl in rw h
eq_self (fin false m e) = let h : eqb (m * up e * down e) (m * up e * down e) ≡ true = eq-eqb (m * up e * down e) (m * up e * down e) refl in rw h

-- ---- places one after another
module _ (p : ℕ → Bool) (to : ℕ) where
  pub each_next : (ok t : Bool) (i : ℕ) → i < to → t ≡ p i → ((ok && t) && each_from p (i + 1) (to - (i + 1))) ≡ (ok && each_from p i (to - i))
  each_next ok t i l e = let z : to - i ≡ suc (to - suc i) = omega arith in rw (e, add-one i, z) (and_assoc ok (p i) (each_from p (suc i) (to - suc i)))

  pub each-end : (ok : Bool) (i : ℕ) (w : Bool) → to ≤ i → (ok && each_from p i (to - i)) ≡ w → ok ≡ w
  each-end ok i w l e = let z : to - i ≡ 0 = omega arith in sym (and-true ok) ∙ rw z at e

pub stands_by : (ps : List ℕ) (xs : List Float) (i : ℕ) (a e : Scored) (b : Bool) → a ≡ entry_at (i - 1) ps xs → e ≡ entry_at i ps xs → b ≡ better e a → not b ≡ stands ps xs i
stands_by ps xs i a e b p q r = ap not (r ∙ ap (better e) p ∙ ap (λ y. better y (entry_at (i - 1) ps xs)) q)

-- scores that fall belong to entries that stand
falls-stand : (ps : List ℕ) (xs : List Float) → ((k : ℕ) → T (fits binary32 (get_or xs k nan))) → (i n : ℕ) → each_from (falls xs) i n ≡ true → each_from (stands ps xs) i n ≡ true
falls-stand ps xs f i zero h = refl
falls-stand ps xs f i (suc n) h =
    let s = both (falls xs i) (each_from (falls xs) (suc i) n) h in
    let b = better-of-lt (entry_at (i - 1) ps xs) (entry_at i ps xs) (f (i - 1)) (f i) s.0 in
    rw (better-order.asym (entry_at (i - 1) ps xs) (entry_at i ps xs) b, falls-stand ps xs f (suc i) n s.1)

pub fallen-stand : (ps : List ℕ) (xs : List Float) (from to : ℕ) (r : Bool) → Fallen from to xs r → r ≡ true → true ≡ each_from (stands ps xs) from (to - from)
fallen-stand ps xs from to r c h = elim (le-or-lt to from) [
  | inl l ↦ let z : to - from ≡ 0 = omega arith in rw z
  | inr l ↦ sym (falls-stand ps xs (c.fit l) from (to - from) (sym c.answer ∙ h))
]

-- ---- the pass
drop-beside : (n i : ℕ) (ps : List ℕ) (xs : List Float) → i < n → n ≤ length ps → n ≤ length xs
    → drop i (beside (take n ps) (take n xs)) ≡ entry_at i ps xs ∷ drop (suc i) (beside (take n ps) (take n xs))
drop-beside zero i ps xs l h k = absurd (omega arith)
drop-beside (suc n) i [] xs l h k = absurd (omega arith)
drop-beside (suc n) i (p ∷ ps) [] l h k = absurd (omega arith)
drop-beside (suc n) zero (p ∷ ps) (x ∷ xs) l h k = refl
drop-beside (suc n) (suc i) (p ∷ ps) (x ∷ xs) l h k = drop-beside n i ps xs (omega arith) (omega arith) (omega arith)

drop-end : (n : ℕ) (ps : List ℕ) (xs : List Float) → drop n (beside (take n ps) (take n xs)) ≡ []
drop-end zero ps xs = refl
drop-end (suc n) [] xs = refl
drop-end (suc n) (p ∷ ps) [] = refl
drop-end (suc n) (p ∷ ps) (x ∷ xs) = drop-end n ps xs

module _ (n : ℕ) (ps : List ℕ) (xs : List Float) where
  -- what the entries from i on add to what was found so far
  abbrev from : ℕ → Bool → Bool
  from i ok = ok && steps_from better better-order (entry_at (i - 1) ps xs) (drop i (entries (lent n ps xs)))

  pub record Checking (ok : Bool) (i : ℕ) : Type 0 where
    pub started : 0 < i
    pub within : i ≤ n
    pub left : from i ok ≡ from 1 (is_number (entry_at 0 ps xs))

  pub check-start : 0 < n → (x : Float) → x ≡ get_or xs 0 nan → Checking (eq x x) 1
  check-start h x e = record { started = omega arith; within = omega arith; left = ap (λ b. from 1 b) (eq_self x ∙ ap (λ y. not (is_nan y)) e) }

  module _ (h : n ≤ length ps) (k : n ≤ length xs) where
    pub check-next : (ok : Bool) (i : ℕ) → Checking ok i → i < n → (a e : Scored) → a ≡ entry_at (i - 1) ps xs → e ≡ entry_at i ps xs → (b : Bool) → b ≡ better e a → Checking (ok && not b) (i + 1)
    check-next ok i c l a e p q b r = record {
      started = omega arith;
      within = omega arith;
      left = later (i + 1) i (add-one i) (omega arith) ∙ sym here ∙ c.left;
    }
      where
        here : from i ok ≡ ((ok && not b) && steps_from better better-order (entry_at i ps xs) (drop (suc i) (entries (lent n ps xs))))
        here =
            ap (λ r. ok && steps_from better better-order (entry_at (i - 1) ps xs) r) (drop-beside n i ps xs l h k)
            ∙ sym (and_assoc ok (not (better (entry_at i ps xs) (entry_at (i - 1) ps xs))) (steps_from better better-order (entry_at i ps xs) (drop (suc i) (entries (lent n ps xs)))))
            ∙ ap (λ z. (ok && not z) && steps_from better better-order (entry_at i ps xs) (drop (suc i) (entries (lent n ps xs)))) (sym (r ∙ ap (better e) p ∙ ap (λ y. better y (entry_at (i - 1) ps xs)) q))

        later : (m j : ℕ) → m ≡ suc i → m - 1 ≡ j
            → from m (ok && not b) ≡ ((ok && not b) && steps_from better better-order (entry_at j ps xs) (drop (suc i) (entries (lent n ps xs))))
        later m j u v = rw (v, u)

    many : (m : ℕ) (ok : Bool) (i : ℕ) → Checking ok i → i + m ≤ n → Checking (ok && each_from (stands ps xs) i m) (i + m)
    many zero ok i c l = let z : i + 0 ≡ i = omega arith in rw (and-true ok, z) c
    many (suc m) ok i c l =
        let z : i + 1 + m ≡ i + suc m = omega arith in
        let t = many m (ok && stands ps xs i) (i + 1) (check-next ok i c (omega arith) (entry_at (i - 1) ps xs) (entry_at i ps xs) refl refl (better (entry_at i ps xs) (entry_at (i - 1) ps xs)) refl) (omega arith) in
        rw (z, add-one i, and_assoc ok (stands ps xs i) (each_from (stands ps xs) (suc i) m)) at t

    -- several entries at a time
    pub check-part : (ok : Bool) (i to : ℕ) (r : Bool) → Checking ok i → i ≤ to → to ≤ n → r ≡ each_from (stands ps xs) i (to - i) → Checking (ok && r) to
    check-part ok i to r c l u e = let z : i + (to - i) ≡ to = omega arith in rw e (rw z at (many (to - i) ok i c (omega arith)))

    pub check-end : 0 < n → T (fits binary32 (get_or xs 0 nan)) → (ok : Bool) (i : ℕ) → Checking ok i → n ≤ i → ok ≡ sound (entries (lent n ps xs))
    check-end o f ok i c l =
        let z : i ≡ n = omega arith in
        sym (all i z) ∙ c.left ∙ sym (sound-by (entry_at 0 ps xs) (drop 1 (entries (lent n ps xs))) f) ∙ ap sound (sym (drop-beside n 0 ps xs o h k))
      where
        all_true : (b : Bool) → (b && true) ≡ b
        all_true true = refl
        all_true false = refl

        all : (i : ℕ) → i ≡ n → from i ok ≡ ok
        all i z = let q : drop i (entries (lent n ps xs)) ≡ [] = ap (λ m. drop m (entries (lent n ps xs))) z ∙ drop-end n ps xs in ap (λ r. ok && steps_from better better-order (entry_at (i - 1) ps xs) r) q ∙ all_true ok
