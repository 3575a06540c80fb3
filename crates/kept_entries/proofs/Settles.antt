-- A push without its refusals on a slice of entries, by its cases: what kept_list shows of the two slices.
use Prim.Native.Nat.{ℕ, ◌-◌, ◌≤◌, ◌<◌, min}
use native.Mathlib.Omega.{arith}
use native.Mathlib.Decide.{dec_le}
use mathlib.Core.Path.{◌≡◌, refl, sym, ap, ◌∙◌}
use mathlib.Core.Bool.{Bool, true, false, ◌&&◌, ◌||◌}
use mathlib.Core.Logic.{inl, inr}
use mathlib.Core.List.{List, map}
use lib.ListN.{length, get_or, length-map}
use lib.Dec.{leb, ltb, eqb}
use borrow.Author.Tests.{ltb-true, leb-true, eqb-true, lt-ltb, le-ltb, le-leb, lt-leb, eq-eqb}
use Rattle.sequences.specs.Laws.Lists.{both, decide}
use Rattle.kept_list.specs.declared.Scored.{Scored}
use Rattle.kept_list.specs.Entry.{better}
use Rattle.kept_list.specs.Place.{Starts}
use Rattle.kept_list.specs.Lent.{packed_of, score_of, settled}
use Rattle.kept_list.proofs.Settling.{Full, keeps-none, no_room, adds, not_full, at-k-stays, at-k-replaces}
use Rattle.kept_entries.specs.Entries.{no_entry, as_lent, goes_in}
use Rattle.kept_entries.proofs.Rising.{entry-is}

differ : true ≡ false → ⊥
differ z = let q : ◌≡◌ {A = ℕ} 0 1 = cc in omega arith

module _ (k n : ℕ) (e w : Scored) (ys : List Scored) (v : w ≡ get_or ys (min (k - 1) (length ys - 1)) no_entry) where
  ps_len : length (map packed_of ys) ≡ length ys
  ps_len = length-map ys packed_of

  xs-len : length (map score_of ys) ≡ length ys
  xs-len = length-map ys score_of

  -- ---- the cases: below k, at k with room, and the rest
  below_in : n < k → n < length ys → Starts k e (as_lent n ys) n
  below_in h r = adds k e n (map packed_of ys) (map score_of ys) h (rw (lt-leb (length (map packed_of ys)) n (omega (arith, ps_len)), lt-leb (length (map score_of ys)) n (omega (arith, xs-len))))

  below_out : n < k → length ys ≤ n → as_lent n ys ≡ settled k e (as_lent n ys)
  below_out h r = no_room k e n (map packed_of ys) (map score_of ys) h (rw (le-leb (length (map packed_of ys)) n (omega (arith, ps_len))))

  full : n ≡ k → k ≤ length ys → Full k n (map packed_of ys) (map score_of ys)
  full a r = record { at-k = a; held = omega (arith, ps_len); held_scores = omega (arith, xs-len) }

  worst : 0 < k → k ≤ length ys → get_or ys (k - 1) no_entry ≡ w
  worst z r = let q : min (k - 1) (length ys - 1) ≡ k - 1 = omega arith in ap (λ (i : ℕ). get_or ys i no_entry) (sym q) ∙ sym v

  short : k ≤ n → length ys < n → as_lent n ys ≡ settled k e (as_lent n ys)
  short h r = not_full k e n (map packed_of ys) (map score_of ys) h (go (ltb k n))
    where
      go : (b : Bool) → ((b || ltb (length (map packed_of ys)) n) || ltb (length (map score_of ys)) n) ≡ true
      go true = refl
      go false = rw (lt-ltb (length (map packed_of ys)) n (omega (arith, ps_len)))

  more : k < n → as_lent n ys ≡ settled k e (as_lent n ys)
  more h = not_full k e n (map packed_of ys) (map score_of ys) (omega arith) (rw (lt-ltb k n h))

  -- ---- what comes in
  pub goes : goes_in k n (length ys) w e ≡ true → Starts k e (as_lent n ys) (min n (k - 1))
  goes h = elim (decide (ltb n k && ltb n (length ys))) [
    | inl y ↦ let s = both (ltb n k) (ltb n (length ys)) y in
        let a : n < k = ltb-true n k s.0 in
        let q : min n (k - 1) ≡ n = omega arith in
        rw q (below_in a (ltb-true n (length ys) s.1))
    | inr y ↦ let s = both ((eqb n k && leb k (length ys)) && ltb 0 k) (better e w) (rw y at h) in
        let t = both (eqb n k && leb k (length ys)) (ltb 0 k) s.0 in
        let u = both (eqb n k) (leb k (length ys)) t.0 in
        let a : n ≡ k = eqb-true n k u.0 in
        let r : k ≤ length ys = leb-true k (length ys) u.1 in
        let z : 0 < k = ltb-true 0 k t.1 in
        let q : min n (k - 1) ≡ k - 1 = omega arith in
        rw q (at-k-replaces k e n (map packed_of ys) (map score_of ys) (k - 1) (omega arith) (full a r) w (sym (worst z r) ∙ entry-is ys (k - 1)) s.1)
  ]

  -- ---- what stays out
  pub stays : goes_in k n (length ys) w e ≡ false → as_lent n ys ≡ settled k e (as_lent n ys)
  stays h = go (dec_le k n) (dec_le n k)
    where
      go : Dec (k ≤ n) → Dec (n ≤ k) → as_lent n ys ≡ settled k e (as_lent n ys)
      go (no a) d = below (dec_le (length ys) n)
        where
          lt : n < k
          lt = omega arith

          below : Dec (length ys ≤ n) → as_lent n ys ≡ settled k e (as_lent n ys)
          below (yes r) = below_out lt r
          below (no r) = let x : ltb n k ≡ true = lt-ltb n k lt in let y : ltb n (length ys) ≡ true = lt-ltb n (length ys) (omega arith) in absurd (differ (rw (x, y) at h))
      go (yes a) (no d) = more (omega arith)
      go (yes a) (yes d) = at-k (dec_le k (length ys)) (dec_le k 0)
        where
          same : n ≡ k
          same = omega arith

          at-k : Dec (k ≤ length ys) → Dec (k ≤ 0) → as_lent n ys ≡ settled k e (as_lent n ys)
          at-k (no r) z = short a (omega arith)
          at-k (yes r) (yes z) = keeps-none k e n (map packed_of ys) (map score_of ys) (omega arith)
          at-k (yes r) (no z) =
              let p : 0 < k = omega arith in
              let f : better e w ≡ false = (rw (le-ltb n k a, eq-eqb n k same, le-leb k (length ys) r, lt-ltb 0 k p) at h) in
              at-k-stays k e n (map packed_of ys) (map score_of ys) (k - 1) (omega arith) (full same r) w (sym (worst p r) ∙ entry-is ys (k - 1)) f

last-no : (a b : Bool) → ((b && false) && a) ≡ false
last-no a true = refl
last-no a false = refl

first-no : (a c b : Bool) → (((b && false) && c) && a) ≡ false
first-no a c true = refl
first-no a c false = refl

-- with no place at all nothing is kept
pub empty : (k n : ℕ) (e : Scored) (ys : List Scored) → length ys ≡ 0 → as_lent n ys ≡ settled k e (as_lent n ys)
empty k n e ys z = stays k n e (get_or ys (min (k - 1) (length ys - 1)) no_entry) ys refl (none (dec_le k 0))
  where
    w : Scored
    w = get_or ys (min (k - 1) (length ys - 1)) no_entry

    none : Dec (k ≤ 0) → goes_in k n (length ys) w e ≡ false
    none d = go (ltb n k) d
      where
        go : (b : Bool) → Dec (k ≤ 0) → ((b && ltb n (length ys)) || (((eqb n k && leb k (length ys)) && ltb 0 k) && better e w)) ≡ false
        go true (yes h) = rw (le-ltb n (length ys) (omega arith), le-ltb 0 k h) (last-no (better e w) (eqb n k && leb k (length ys)))
        go false (yes h) = rw (le-ltb 0 k h) (last-no (better e w) (eqb n k && leb k (length ys)))
        go true (no h) = rw (le-ltb n (length ys) (omega arith), lt-leb k (length ys) (omega arith)) (first-no (better e w) (ltb 0 k) (eqb n k))
        go false (no h) = rw (lt-leb k (length ys) (omega arith)) (first-no (better e w) (ltb 0 k) (eqb n k))
