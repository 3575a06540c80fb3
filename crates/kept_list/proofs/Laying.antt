-- Values that go down by one, any number of them, and one laid in above them: laws for a slice of any kind of value.
use Prim.Native.Nat.{ℕ, zero, suc, ◌+◌, ◌-◌, ◌≤◌, ◌<◌}
use native.Mathlib.Omega.{arith}
use native.Mathlib.Numerals.{add-one}
use mathlib.Core.Path.{◌≡◌, refl, sym, ap, ◌∙◌}
use mathlib.Core.List.{List, [], ◌∷◌, ◌++◌, map, map-append, append_assoc}
use lib.ListN.{length, get_or, set, take, drop, length-append, length-drop, take-append-drop, get_or-append}
use lib.Seq.{slice, slice_empty, slice-cons, length-slice, length-take-le, take-suc, take-take, set_at, get_or-take}
use lib.Ieee.{Float}
use Rattle.sequences.specs.Laws.Lists.{take-map}
use Rattle.kept_list.specs.declared.Scored.{Scored}
use Rattle.kept_list.specs.Keep.{insert_after}
use Rattle.kept_list.specs.Entry.{better}
use Rattle.kept_list.specs.Lent.{lent, packed_of, score_of, entries, inserted}
use Rattle.kept_list.specs.Laws.Laid.{packed-beside, scores-beside, column, inserted-is}
use Rattle.kept_list.specs.Inserting.{moved_down}

-- v at the place r, and what stood from there up to `at` below it
abbrev laid_in : {B : Type 0} → B → ℕ → ℕ → List B → List B
laid_in v r at c = take r c ++ (v ∷ (slice r at c ++ drop (suc at) c))

pub moved_none : {B : Type 0} (at : ℕ) (c : List B) → c ≡ moved_down at at c
unfolding moved_down
moved_none at c = sym (ap (λ m. take (suc at) c ++ (m ++ drop (suc at) c)) (slice_empty at c) ∙ take-append-drop (suc at) c)

module _ {B : Type 0} (d : B) (at : ℕ) (c : List B) (h : at < length c) where
  pub moved_length : (r : ℕ) → r ≤ at → length (moved_down r at c) ≡ length c
  unfolding moved_down
  moved_length r l =
      omega
      (arith, length-append (take (suc r) c) (slice r at c ++ drop (suc at) c), length-append (slice r at c) (drop (suc at) c), length-take-le (suc r) c (omega arith), length-slice r at c (omega arith), length-drop (suc at) c)

  -- down to r nothing is changed
  pub moved-above : (r j : ℕ) → r ≤ at → j ≤ r → get_or (moved_down r at c) j d ≡ get_or c j d
  unfolding moved_down
  moved-above r j l m = get_or-append (take (suc r) c) (slice r at c ++ drop (suc at) c) d j (omega (arith, length-take-le (suc r) c (omega arith))) ∙ get_or-take (suc r) c j d (omega arith)

  -- what is written at r
  pub laid_in_lem : (v : B) (r : ℕ) → r ≤ at → set (moved_down r at c) r v ≡ laid_in v r at c
  unfolding moved_down
  laid_in_lem v r l =
      ap (λ t. set (t ++ (slice r at c ++ drop (suc at) c)) r v) (take-suc c r d (omega arith))
      ∙ ap (λ t. set t r v) (append_assoc (take r c) (get_or c r d ∷ []) (slice r at c ++ drop (suc at) c))
      ∙ set_at (take r c) (get_or c r d) (slice r at c ++ drop (suc at) c) v r (length-take-le r c (omega arith))

  -- one more goes down
  one : (j : ℕ) → suc j ≤ at → set (moved_down (suc j) at c) (suc j) (get_or c j d) ≡ moved_down j at c
  unfolding moved_down
  one j l = laid_in_lem (get_or c j d) (suc j) l ∙ ap (λ m. take (suc j) c ++ (m ++ drop (suc at) c)) (sym (slice-cons j at c d (omega arith) (omega arith)))

  pub moved-one : (s : List B) (r j : ℕ) (v : B) → r ≡ suc j → r ≤ at → s ≡ moved_down r at c → v ≡ get_or c j d → set s r v ≡ moved_down j at c
  moved-one s r j v q l e f = rw (e, f, q) (one j (omega arith))

-- eight at once, place by place
module _ {B : Type 0} (d : B) (i : ℕ) (c : List B) (h : i < length c) (n : 8 ≤ i) where
  abbrev at_above : ℕ → B
  at_above k = get_or c (i - k) d

  pub moved-eight
      : set (set (set (set (set (set (set (set c i (at_above 1)) (i - 1) (at_above 2)) (i - 2) (at_above 3)) (i - 3) (at_above 4)) (i - 4) (at_above 5)) (i - 5) (at_above 6)) (i - 6) (at_above 7)) (i - 7) (at_above 8)
      ≡ moved_down (i - 8) i c
  moved-eight =
      next 7 (omega arith) _ (next 6 (omega arith) _ (next 5 (omega arith) _ (next 4 (omega arith) _ (next 3 (omega arith) _ (next 2 (omega arith) _ (next 1 (omega arith) _
      (moved-one d i c h c i (i - 1) (at_above 1) (omega arith) (omega arith) (moved_none i c) refl)))))))
    where
      next : (k : ℕ) → k ≤ 7 → (s : List B) → s ≡ moved_down (i - k) i c → set s (i - k) (get_or c (i - (k + 1)) d) ≡ moved_down (i - (k + 1)) i c
      next k l s e = moved-one d i c h s (i - k) (i - (k + 1)) (get_or c (i - (k + 1)) d) (omega arith) (omega arith) e refl

-- what went down in two turns
module _ {B : Type 0} (d : B) (at : ℕ) (c : List B) (h : at < length c) where
  more : (i n r : ℕ) → i ≤ at → i ≡ n + r → moved_down r i (moved_down i at c) ≡ moved_down r at c
  more i zero r l q =
      let z : i ≡ r = omega arith in
      rw (← z) (sym (moved_none i (moved_down i at c)))
  more i (suc n) r l q =
      let s = moved_down i at c in
      let m : i < length s = omega (arith, moved_length d at c h i l) in
      sym (moved-one d i s m (moved_down (suc r) i s) (suc r) r (get_or c r d) refl (omega arith) refl (sym (moved-above d at c h i r l (omega arith))))
      ∙ moved-one d at c h (moved_down (suc r) i s) (suc r) r (get_or c r d) refl (omega arith) (more i n (suc r) l (omega arith)) refl

  pub moved_twice : (s : List B) (i r : ℕ) → i ≤ at → r ≤ i → s ≡ moved_down i at c → moved_down r i s ≡ moved_down r at c
  moved_twice s i r l m e = ap (moved_down r i) e ∙ more i (i - r) r l (omega arith)

-- ---- both slices: the entry laid in at its place is the entry among the others
drop-map : {A B : Type 0} (f : A → B) (n : ℕ) (l : List A) → drop n (map f l) ≡ map f (drop n l)
drop-map f zero l = refl
drop-map f (suc n) [] = refl
drop-map f (suc n) (x ∷ l) = drop-map f n l

column-laid : {B : Type 0} (f : Scored → B) (e : Scored) (es : List Scored) (r at : ℕ) (c : List B) → r ≤ at → map f es ≡ take at c → insert_after better e es ≡ take r es ++ (e ∷ drop r es)
    → column f e es at c ≡ laid_in (f e) r at c
column-laid f e es r at c l m g =
    ap (λ t. map f t ++ drop (suc at) c) g
    ∙ ap (λ t. t ++ drop (suc at) c) (map-append f (take r es) (e ∷ drop r es))
    ∙ append_assoc (map f (take r es)) (f e ∷ map f (drop r es)) (drop (suc at) c)
    ∙ ap (λ t. t ++ (f e ∷ (map f (drop r es) ++ drop (suc at) c))) (sym (take-map f r es) ∙ ap (take r) m ∙ take-take r at c l)
    ∙ ap (λ t. take r c ++ (f e ∷ (t ++ drop (suc at) c))) (sym (drop-map f r es) ∙ ap (drop r) m)

pub inserted-laid : (e : Scored) (at : ℕ) (ps : List ℕ) (xs : List Float) (r : ℕ) → at < length ps → at < length xs → r ≤ at
    → insert_after better e (entries (lent at ps xs)) ≡ take r (entries (lent at ps xs)) ++ (e ∷ drop r (entries (lent at ps xs)))
    → lent (at + 1) (laid_in e.packed r at ps) (laid_in e.score r at xs) ≡ inserted e (lent at ps xs)
inserted-laid e at ps xs r h k l g =
    ap (λ n. lent n (laid_in e.packed r at ps) (laid_in e.score r at xs)) (add-one at)
    ∙ ap (λ t. lent (suc at) t (laid_in e.score r at xs)) (sym (column-laid packed_of e (entries (lent at ps xs)) r at ps l (packed-beside at ps xs (omega arith) (omega arith)) g))
    ∙ ap (lent (suc at) (column packed_of e (entries (lent at ps xs)) at ps)) (sym (column-laid score_of e (entries (lent at ps xs)) r at xs l (scores-beside at ps xs (omega arith) (omega arith)) g))
    ∙ sym (inserted-is e at ps xs (omega arith) (omega arith))
