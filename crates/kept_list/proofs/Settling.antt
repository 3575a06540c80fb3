-- A push without its refusals, by its cases.
use Prim.Native.Nat.{ℕ, zero, suc, ◌≤◌, ◌<◌, min}
use native.Mathlib.Omega.{arith}
use mathlib.Core.Path.{◌≡◌, refl, sym, ap, ◌∙◌}
use mathlib.Core.Logic.{◌⊎◌, inl, inr}
use mathlib.Core.Bool.{Bool, true, false, ◌&&◌, ◌||◌}
use mathlib.Core.List.{List, [], ◌∷◌, ◌++◌}
use lib.ListN.{length}
use lib.Ieee.{Float}
use lib.Dec.{leb, ltb}
use borrow.Author.Tests.{le-leb, lt-leb, leb-true, leb-false, ltb-true, ltb-false}
use Rattle.sequences.specs.Laws.Lists.{neither}
use Rattle.kept_list.specs.declared.Scored.{Scored}
use Rattle.kept_list.specs.Keep.{keep}
use Rattle.kept_list.specs.Laws.Pushing.{keep-adds, keep-none, keep-replaces}
use Rattle.kept_list.specs.Entry.{better}
use Rattle.kept_list.specs.Laws.Laid.{beside_snoc, length-beside, written_same, settled-in}
use Rattle.std.specs.Prelude.{Option, Some, None}
use Rattle.kept_list.specs.Place.{Starts, Placed}
use Rattle.kept_list.specs.Lent.{Lent, lent, entry_at, entries, written, inserted, places, after, settled}

-- ---- tests
either : (a b : Bool) → (a || b) ≡ true → (a ≡ true) ⊎ (b ≡ true)
either true b e = inl refl
either false b e = inr e

module _ (k n : ℕ) (ps : List ℕ) (xs : List Float) where
  -- what the tests at k find where they let the push go on
  pub record Full : Type 0 where
    pub at-k : n ≡ k
    pub held : n ≤ length ps
    pub held_scores : n ≤ length xs

  pub full : k ≤ n → ((ltb k n || ltb (length ps) n) || ltb (length xs) n) ≡ false → Full
  full g h =
      let s = neither (ltb k n || ltb (length ps) n) (ltb (length xs) n) h in
      let t = neither (ltb k n) (ltb (length ps) n) s.0 in
      record { at-k = omega (arith, ltb-false k n t.0); held = ltb-false (length ps) n t.1; held_scores = ltb-false (length xs) n s.1 }

module _ (k : ℕ) (e : Scored) (n : ℕ) (ps : List ℕ) (xs : List Float) where
  settled-not : (leb n k && places (after k (lent n ps xs)) (lent n ps xs)) ≡ false → lent n ps xs ≡ settled k e (lent n ps xs)
  unfolding settled
  settled-not h = rw h

  pushes-in : n ≤ k → min (suc n) k ≤ length ps → min (suc n) k ≤ length xs → written (keep better k e (entries (lent n ps xs))) (lent n ps xs) ≡ settled k e (lent n ps xs)
  pushes-in h p x = sym (settled-in k e (lent n ps xs) h p x)

  too_many : k < n → lent n ps xs ≡ settled k e (lent n ps xs)
  too_many h = settled-not (rw (lt-leb n k h))

  few : n ≤ k → (length ps < min (suc n) k) ⊎ (length xs < min (suc n) k) → lent n ps xs ≡ settled k e (lent n ps xs)
  few h (inl p) = settled-not (rw (le-leb n k h, lt-leb (min (suc n) k) (length ps) p))
  few h (inr p) = settled-not (go (leb (min (suc n) k) (length ps)))
    where
      go : (b : Bool) → (leb n k && (b && leb (min (suc n) k) (length xs))) ≡ false
      go true = rw (le-leb n k h, lt-leb (min (suc n) k) (length xs) p)
      go false = rw (le-leb n k h)

  -- nothing is kept where k is 0
  pub keeps-none : k ≡ 0 → lent n ps xs ≡ settled k e (lent n ps xs)
  keeps-none z = go n refl
    where
      go : (m : ℕ) → n ≡ m → lent n ps xs ≡ settled k e (lent n ps xs)
      go zero y = let base : lent n ps xs ≡ written (keep better k e (entries (lent n ps xs))) (lent n ps xs) = rw (z, y) in base ∙ pushes-in (omega arith) (omega arith) (omega arith)
      go (suc m) y = too_many (omega arith)

  -- ---- below k
  pub no_room : n < k → (leb (length ps) n || leb (length xs) n) ≡ true → lent n ps xs ≡ settled k e (lent n ps xs)
  no_room h t = elim (either (leb (length ps) n) (leb (length xs) n) t) [
    | inl p ↦ few (omega arith) (inl (omega (arith, leb-true (length ps) n p)))
    | inr p ↦ few (omega arith) (inr (omega (arith, leb-true (length xs) n p)))
  ]

  pub adds : n < k → (leb (length ps) n || leb (length xs) n) ≡ false → Starts k e (lent n ps xs) n
  adds h t =
      let s = neither (leb (length ps) n) (leb (length xs) n) t in
      let p : n < length ps = leb-false (length ps) n s.0 in
      let x : n < length xs = leb-false (length xs) n s.1 in
      record {
        in-packed = p;
        in-scores = x;
        gives =
            ap (λ es. written es (lent n ps xs)) (sym (keep-adds better k e (entries (lent n ps xs)) (omega (arith, length-beside n ps xs (omega arith) (omega arith)))))
            ∙ pushes-in (omega arith) (omega arith) (omega arith);
      }

  -- ---- from k on
  pub not_full : k ≤ n → ((ltb k n || ltb (length ps) n) || ltb (length xs) n) ≡ true → lent n ps xs ≡ settled k e (lent n ps xs)
  not_full h t = elim (either (ltb k n || ltb (length ps) n) (ltb (length xs) n) t) [
    | inl u ↦ elim (either (ltb k n) (ltb (length ps) n) u) [
      | inl m ↦ too_many (ltb-true k n m)
      | inr p ↦ short (inl (ltb-true (length ps) n p))
    ]
    | inr p ↦ short (inr (ltb-true (length xs) n p))
  ]
    where
      at-k : n ≤ k → (length ps < n) ⊎ (length xs < n) → lent n ps xs ≡ settled k e (lent n ps xs)
      at-k m (inl p) = few m (inl (omega arith))
      at-k m (inr p) = few m (inr (omega arith))

      short : (length ps < n) ⊎ (length xs < n) → lent n ps xs ≡ settled k e (lent n ps xs)
      short p = go (leb n k) refl
        where
          go : (b : Bool) → leb n k ≡ b → lent n ps xs ≡ settled k e (lent n ps xs)
          go true q = at-k (leb-true n k q) p
          go false q = too_many (leb-false n k q)

-- at k, with the worst entry at j
module _ (k : ℕ) (e : Scored) (ps : List ℕ) (xs : List Float) (j : ℕ) (f : k ≡ suc j) (h : k ≤ length ps) (x : k ≤ length xs) where
  snoc : entries (lent k ps xs) ≡ entries (lent j ps xs) ++ (entry_at j ps xs ∷ [])
  snoc = rw f (beside_snoc j ps xs (omega arith) (omega arith))

  whole : length (entries (lent j ps xs) ++ (entry_at j ps xs ∷ [])) ≡ k
  whole = ap length (sym snoc) ∙ length-beside k ps xs h x

  stays : better e (entry_at j ps xs) ≡ false → lent k ps xs ≡ settled k e (lent k ps xs)
  stays b =
      sym (written_same k ps xs h x)
      ∙ ap (λ es. written es (lent k ps xs)) (snoc ∙ sym (keep-none better k e (entry_at j ps xs) (entries (lent j ps xs)) whole b) ∙ ap (keep better k e) (sym snoc))
      ∙ pushes-in k e k ps xs (omega arith) (omega arith) (omega arith)

  replaces : better e (entry_at j ps xs) ≡ true → inserted e (lent j ps xs) ≡ settled k e (lent k ps xs)
  replaces b =
      ap (λ es. written es (lent k ps xs)) (sym (keep-replaces better k e (entry_at j ps xs) (entries (lent j ps xs)) whole b) ∙ ap (keep better k e) (sym snoc))
      ∙ pushes-in k e k ps xs (omega arith) (omega arith) (omega arith)

module _ (k : ℕ) (e : Scored) (n : ℕ) (ps : List ℕ) (xs : List Float) (j : ℕ) (f : k ≡ suc j) (q : Full k n ps xs) (w : Scored) (v : w ≡ entry_at j ps xs) where
  pub at-k-stays : better e w ≡ false → lent n ps xs ≡ settled k e (lent n ps xs)
  at-k-stays b = rw q.at-k (stays k e ps xs j f (omega arith) (omega arith) (rw v at b))

  pub at-k-replaces : better e w ≡ true → Starts k e (lent n ps xs) j
  at-k-replaces b = record {
    in-packed = omega arith;
    in-scores = omega arith;
    gives = replaces k e ps xs j f (omega arith) (omega arith) (rw v at b) ∙ ap (λ m. settled k e (lent m ps xs)) (sym q.at-k);
  }

-- ---- by what was found
module _ (k : ℕ) (e : Scored) (l : Lent) (p : Option ℕ) (h : Placed k e l p) where
  pub found : (at : ℕ) → p ≡ Some at → Starts k e l at
  found at q = rw q at h

  pub found_none : p ≡ None → l ≡ settled k e l
  found_none q = rw q at h
