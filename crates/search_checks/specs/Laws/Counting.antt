-- Laws of Counting: ids strictly rise within each component where each one that does not lie above the one before it is the first of a
-- component.
use Rattle.std.specs.Prelude.{ℕ, zero, suc, ◌+◌, ◌-◌, ◌≤◌, ◌<◌, ◌≡◌, refl, Bool, true, false, ◌&&◌, cond, length, get_or, take, drop, leb, ltb, eqb}
use Rattle.std.proofs.Common.{sym, ap, ◌∙◌, ltb-true, ltb-false, le-ltb, lt-ltb, leb-true, eqb-true, eq-eqb, ne_eqb, length-drop, drop-drop, get_or-drop}
use native.Mathlib.Omega.{arith}
use Rattle.sequences.specs.Lists.{every, between, first_or, last_or, part, never_falls, strictly_rise}
use Rattle.sequences.specs.Laws.Lists.{both}
use mathlib.Core.List.{List, [], ◌∷◌}
use Rattle.std.proofs.Math.Seq.{drop-nil, drop-length}
use Rattle.search_checks.specs.Counting.{fall, falls, seam_at, seams}

-- no fall at all: strictly rising
rise-count : (xs : List ℕ) → eqb (falls xs) 0 ≡ strictly_rise xs
unfolding falls
rise-count [] = refl
rise-count (x ∷ []) = refl
rise-count (x ∷ y ∷ xs) = go (ltb x y) (rise-count (y ∷ xs))
  where
    go : (b : Bool) → eqb (falls (y ∷ xs)) 0 ≡ strictly_rise (y ∷ xs) → eqb (cond b 0 1 + falls (y ∷ xs)) 0 ≡ (b && strictly_rise (y ∷ xs))
    go true e = let z : 0 + falls (y ∷ xs) ≡ falls (y ∷ xs) = omega arith in rw z e
    go false e = ne_eqb (1 + falls (y ∷ xs)) 0 (λ h. omega arith)

-- a list cut in two: the falls of both parts, and the one between them
abbrev between-parts : ℕ → List ℕ → ℕ
between-parts k xs = cond (ltb 0 k && ltb k (length xs)) (fall (get_or xs (k - 1) 0) (get_or xs k 0)) 0

falls-two : (x y : ℕ) (xs : List ℕ) → falls (x ∷ y ∷ xs) ≡ fall x y + falls (y ∷ xs)
unfolding falls
falls-two x y xs = refl

shifted : (k x y : ℕ) (xs : List ℕ) → between-parts (suc (suc k)) (x ∷ y ∷ xs) ≡ between-parts (suc k) (y ∷ xs)
shifted k x y xs =
    let a : suc (suc k) - 1 ≡ suc k = omega arith in
    let b : suc k - 1 ≡ k = omega arith in
    rw (a, b, lt-ltb 0 (suc (suc k)) (omega arith), lt-ltb 0 (suc k) (omega arith), more (suc k) (suc (length xs)))
  where
    more : (a b : ℕ) → ltb (suc a) (suc b) ≡ ltb a b
    more a b = go (ltb a b) refl
      where
        go : (t : Bool) → ltb a b ≡ t → ltb (suc a) (suc b) ≡ t
        go true e = lt-ltb (suc a) (suc b) (omega (arith, ltb-true a b e))
        go false e = le-ltb (suc a) (suc b) (omega (arith, ltb-false a b e))

pub cut : (k : ℕ) (xs : List ℕ) → falls xs ≡ falls (take k xs) + (between-parts k xs + falls (drop k xs))
unfolding falls
cut zero xs = omega arith
cut (suc k) [] = rw (le-ltb (suc k) 0 (omega arith), lt-ltb 0 (suc k) (omega arith))
cut (suc zero) (x ∷ []) = refl
cut (suc (suc k)) (x ∷ []) = rw (le-ltb (suc (suc k)) 1 (omega arith), lt-ltb 0 (suc (suc k)) (omega arith))
cut (suc zero) (x ∷ y ∷ xs) = rw (lt-ltb 1 (suc (suc (length xs))) (omega arith)) (omega arith)
cut (suc (suc k)) (x ∷ y ∷ xs) =
    joined (falls-two x y xs) (cut (suc k) (y ∷ xs)) (shifted k x y xs) (falls-two x y (take k xs))
  where
    joined : falls (x ∷ y ∷ xs) ≡ fall x y + falls (y ∷ xs)
        → falls (y ∷ xs) ≡ falls (y ∷ take k xs) + (between-parts (suc k) (y ∷ xs) + falls (drop k xs))
        → between-parts (suc (suc k)) (x ∷ y ∷ xs) ≡ between-parts (suc k) (y ∷ xs)
        → falls (x ∷ y ∷ take k xs) ≡ fall x y + falls (y ∷ take k xs)
        → falls (x ∷ y ∷ xs) ≡ falls (x ∷ y ∷ take k xs) + (between-parts (suc (suc k)) (x ∷ y ∷ xs) + falls (drop k xs))
    joined a b c d = omega arith

-- two parts that share an id: the falls of both
pub falls-over : (k : ℕ) (xs : List ℕ) → falls xs ≡ falls (take (suc k) xs) + falls (drop k xs)
unfolding falls
falls-over k [] = rw (drop-nil k)
falls-over zero (x ∷ xs) = omega arith
falls-over (suc k) (x ∷ []) = rw (drop-nil k)
falls-over (suc k) (x ∷ y ∷ xs) = joined (falls-two x y xs) (falls-over k (y ∷ xs)) (falls-two x y (take k xs))
  where
    joined : falls (x ∷ y ∷ xs) ≡ fall x y + falls (y ∷ xs) → falls (y ∷ xs) ≡ falls (y ∷ take k xs) + falls (drop k (y ∷ xs)) → falls (x ∷ y ∷ take k xs) ≡ fall x y + falls (y ∷ take k xs)
        → falls (x ∷ y ∷ xs) ≡ falls (x ∷ y ∷ take k xs) + falls (drop k (y ∷ xs))
    joined a b c = omega arith

-- the first id is no fall
pub falls-few : (xs : List ℕ) → falls xs ≤ length xs - 1
unfolding falls
falls-few [] = omega arith
falls-few (x ∷ []) = omega arith
falls-few (x ∷ y ∷ xs) = go (ltb x y) (falls-few (y ∷ xs))
  where
    go : (b : Bool) → falls (y ∷ xs) ≤ suc (length xs) - 1 → cond b 0 1 + falls (y ∷ xs) ≤ suc (suc (length xs)) - 1
    go true h = omega arith
    go false h = omega arith

-- the falls within the parts between offsets
unfoldable inner : List ℕ → List ℕ → ℕ
inner ids [] = 0
inner ids (a ∷ []) = 0
inner ids (a ∷ b ∷ os) = falls (part a (b - a) ids) + inner ids (b ∷ os)

inner-none : (ids os : List ℕ) → eqb (inner ids os) 0 ≡ every strictly_rise (between os ids)
unfolding inner
inner-none ids [] = refl
inner-none ids (a ∷ []) = refl
inner-none ids (a ∷ b ∷ os) = none (falls (part a (b - a) ids)) (inner ids (b ∷ os)) ∙ rw (rise-count (part a (b - a) ids), inner-none ids (b ∷ os))
  where
    none : (m n : ℕ) → eqb (m + n) 0 ≡ (eqb m 0 && eqb n 0)
    none zero n = let z : 0 + n ≡ n = omega arith in rw z
    none (suc m) n = rw (ne_eqb (suc m + n) 0 (λ h. omega arith), ne_eqb (suc m) 0 (λ h. omega arith))

module _ (ids : List ℕ) where
  seam-cut : (a b : ℕ) → a ≤ b → falls (drop a ids) ≡ falls (part a (b - a) ids) + (seam_at ids a b + falls (drop b ids))
  seam-cut a b h =
      cut (b - a) (drop a ids)
      ∙ ap (λ n. falls (part a (b - a) ids) + (n + falls (drop (b - a) (drop a ids)))) same
      ∙ ap (λ l. falls (part a (b - a) ids) + (seam_at ids a b + falls l)) (drop-drop (b - a) a ids ∙ ap (λ n. drop n ids) back)
    where
      back : a + (b - a) ≡ b
      back = omega arith

      same : between-parts (b - a) (drop a ids) ≡ seam_at ids a b
      same = go (ltb a b) refl
        where
          go : (t : Bool) → ltb a b ≡ t → between-parts (b - a) (drop a ids) ≡ cond (t && ltb b (length ids)) (fall (get_or ids (b - 1) 0) (get_or ids b 0)) 0
          go true e =
              let l = ltb-true a b e in
              let p : a + (b - a - 1) ≡ b - 1 = omega arith in
              let q : ltb (b - a) (length ids - a) ≡ ltb b (length ids) = less (length ids) l in
              rw (lt-ltb 0 (b - a) (omega arith), length-drop a ids, q, get_or-drop a ids (b - a - 1) 0, get_or-drop a ids (b - a) 0, p, back)
            where
              less : (n : ℕ) → a < b → ltb (b - a) (n - a) ≡ ltb b n
              less n l = at (ltb b n) refl
                where
                  at : (t : Bool) → ltb b n ≡ t → ltb (b - a) (n - a) ≡ t
                  at true e = lt-ltb (b - a) (n - a) (omega (arith, ltb-true b n e))
                  at false e = le-ltb (b - a) (n - a) (omega (arith, ltb-false b n e))
          go false e = rw (le-ltb 0 (b - a) (omega (arith, ltb-false a b e)))

  all-cut : (a : ℕ) (os : List ℕ) → never_falls (a ∷ os) ≡ true → last_or a os ≡ length ids → falls (drop a ids) ≡ inner ids (a ∷ os) + seams ids (a ∷ os)
  unfolding inner seams falls
  all-cut a [] h e = rw (e, drop-length ids)
  all-cut a (b ∷ os) h e =
      let k = both (leb a b) (never_falls (b ∷ os)) h in
      sums (seam-cut a b (leb-true a b k.0)) (all-cut b os k.1 e)
    where
      sums : falls (drop a ids) ≡ falls (part a (b - a) ids) + (seam_at ids a b + falls (drop b ids)) → falls (drop b ids) ≡ inner ids (b ∷ os) + seams ids (b ∷ os)
          → falls (drop a ids) ≡ falls (part a (b - a) ids) + inner ids (b ∷ os) + (seam_at ids a b + seams ids (b ∷ os))
      sums p q = omega arith

  -- where the offsets go from 0 to the end of the ids: as many falls as seams, and none is within a component
  pub rise-by-count : (os : List ℕ) → eqb (first_or 1 os) 0 ≡ true → never_falls os ≡ true → eqb (last_or 0 os) (length ids) ≡ true → eqb (falls ids) (seams ids os) ≡ every strictly_rise (between os ids)
  rise-by-count [] f n l = let z : ◌≡◌ {A = ℕ} 1 0 = eqb-true 1 0 f in let no : ⊥ = omega arith in absurd no
  rise-by-count (a ∷ os) f n l =
      let z : a ≡ 0 = eqb-true a 0 f in
      let e : falls ids ≡ inner ids (a ∷ os) + seams ids (a ∷ os) = ap (λ n. falls (drop n ids)) (sym z) ∙ all-cut a os n (eqb-true (last_or a os) (length ids) l) in
      ap (λ n. eqb n (seams ids (a ∷ os))) e ∙ less (inner ids (a ∷ os)) (seams ids (a ∷ os)) ∙ inner-none ids (a ∷ os)
    where
      less : (m n : ℕ) → eqb (m + n) n ≡ eqb m 0
      less zero n = eq-eqb (0 + n) n (omega arith)
      less (suc m) n = rw (ne_eqb (suc m + n) n (λ h. omega arith), ne_eqb (suc m) 0 (λ h. omega arith))
