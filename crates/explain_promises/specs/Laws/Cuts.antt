-- A list cut at the first entry that passes a test, and numbers one after another cut at one of them.
use Rattle.std.specs.Prelude.{ℕ, zero, suc, ◌+◌, ◌-◌, ◌≤◌, ◌<◌, ◌≡◌, refl, Bool, true, false, ◌&&◌, ◌||◌, ◌⊎◌, length, eqb, leb, ltb}
use Rattle.std.proofs.Common.{arith, sym, ap, ◌∙◌, inl, inr, eqb-true, leb-true, leb-false, le-leb, ltb-true, ltb-false, lt-ltb, le-ltb}
use mathlib.Core.List.{List, [], ◌∷◌, ◌++◌, map, nil≢cons, head-eq_of_cons-eq, tail-eq_of_cons-eq}
use Rattle.std.proofs.lemmas.List.{length-map}
use Rattle.std.proofs.lemmas.Bool.{eqb-false, lt-leb}
use Rattle.sequences.specs.Lists.{EachOf, before, from, among}
use Rattle.sequences.specs.Laws.Lists.{from-length}

module _ {A : Type 0} (test : A → Bool) where
  -- where a list is cut: the entries before the first that passes, that one, and those after it
  pub record FirstIn (xs : List A) : Type 0 where
    pub front : List A
    pub here : A
    pub rest : List A
    pub cut : xs ≡ front ++ (here ∷ rest)
    pub none_before : EachOf (λ x. test x ≡ false) front
    pub passes : test here ≡ true

  pub first_or_none : (xs : List A) → EachOf (λ x. test x ≡ false) xs ⊎ FirstIn xs
  first_or_none [] = inl tt
  first_or_none (x ∷ xs) = go (test x) refl (first_or_none xs)
    where
      go : (b : Bool) → test x ≡ b → EachOf (λ x. test x ≡ false) xs ⊎ FirstIn xs → EachOf (λ x. test x ≡ false) (x ∷ xs) ⊎ FirstIn (x ∷ xs)
      go true e h = inr (record { front = []; here = x; rest = xs; cut = refl; none_before = tt; passes = e })
      go false e (inl h) = inl (e, h)
      go false e (inr h) = inr (record { front = x ∷ h.front; here = h.here; rest = h.rest; cut = ap (λ l. x ∷ l) h.cut; none_before = (e, h.none_before); passes = h.passes })

  pub before-first : (front : List A) (here : A) (rest : List A) → EachOf (λ x. test x ≡ false) front → test here ≡ true → before test (front ++ (here ∷ rest)) ≡ front
  before-first [] here rest n h = rw h
  before-first (x ∷ front) here rest n h = rw n.0 (ap (λ l. x ∷ l) (before-first front here rest n.1 h))

  pub before-none : (xs : List A) → EachOf (λ x. test x ≡ false) xs → before test xs ≡ xs
  before-none [] n = refl
  before-none (x ∷ xs) n = rw n.0 (ap (λ l. x ∷ l) (before-none xs n.1))

  pub none_in : (front : List A) (here : A) (rest : List A) → EachOf (λ x. test x ≡ false) (front ++ (here ∷ rest)) → test here ≡ false
  none_in [] here rest n = n.0
  none_in (x ∷ front) here rest n = none_in front here rest n.1

-- ---- numbers one after another
pub length_from : {B : Type 0} (f : ℕ → B) (a n : ℕ) → length (map f (from a n)) ≡ n
length_from f a n = length-map (from a n) f ∙ from-length a n

-- what is made of the numbers, cut somewhere
pub map-cut : {B : Type 0} (f : ℕ → B) (a n : ℕ) (xs : List B) (y : B) (ys : List B) → map f (from a n) ≡ xs ++ (y ∷ ys)
    → (map f (from a (length xs)) ≡ xs) × (f (a + length xs) ≡ y) × (length xs < n)
map-cut f a zero [] y ys e = absurd (nil≢cons e)
map-cut f a zero (x ∷ xs) y ys e = absurd (nil≢cons e)
map-cut f a (suc n) [] y ys e = (refl, ap f (omega arith) ∙ head-eq_of_cons-eq e, omega arith)
map-cut f a (suc n) (x ∷ xs) y ys e =
    let h = map-cut f (suc a) n xs y ys (tail-eq_of_cons-eq e) in
    let m : a + suc (length xs) ≡ suc a + length xs = omega arith in
    let l = h.2 in
    ((let d = head-eq_of_cons-eq e in let c = h.0 in cc), ap f m ∙ h.1, omega arith)

-- the numbers before i are those from the first one up to it
pub from_cut : (a n : ℕ) (xs : List ℕ) (i : ℕ) (ys : List ℕ) → from a n ≡ xs ++ (i ∷ ys) → (xs ≡ from a (i - a)) × (a ≤ i) × (i < a + n)
from_cut a zero [] i ys e = absurd (nil≢cons e)
from_cut a zero (x ∷ xs) i ys e = absurd (nil≢cons e)
from_cut a (suc n) [] i ys e =
    let h : a ≡ i = head-eq_of_cons-eq e in
    let z : i - a ≡ 0 = omega arith in
    (rw z, omega arith, omega arith)
from_cut a (suc n) (x ∷ xs) i ys e =
    let h = from_cut (suc a) n xs i ys (tail-eq_of_cons-eq e) in
    let l = h.1 in
    let m = h.2 in
    let z : i - a ≡ suc (i - suc a) = omega arith in
    (rw z (let d = head-eq_of_cons-eq e in let c = h.0 in cc), omega arith, omega arith)

pub from_at : (a n i : ℕ) → a ≤ i → i < a + n → from a n ≡ from a (i - a) ++ (i ∷ from (suc i) (a + n - suc i))
from_at a zero i h l = absurd (omega arith)
from_at a (suc n) i h l = go (eqb a i) refl (from_at (suc a) n i)
  where
    go : (b : Bool) → eqb a i ≡ b → (suc a ≤ i → i < suc a + n → from (suc a) n ≡ from (suc a) (i - suc a) ++ (i ∷ from (suc i) (suc a + n - suc i)))
        → a ∷ from (suc a) n ≡ from a (i - a) ++ (i ∷ from (suc i) (a + suc n - suc i))
    go true q f =
        let e : a ≡ i = eqb-true a i q in
        let z : i - a ≡ 0 = omega arith in
        let m : a + suc n - suc i ≡ n = omega arith in
        rw (z, m) (ap (λ j. j ∷ from (suc j) n) e)
    go false q f =
        let d = eqb-false a i q in
        let k : a < i = omega arith in
        let z : i - a ≡ suc (i - suc a) = omega arith in
        let m : a + suc n - suc i ≡ suc a + n - suc i = omega arith in
        rw (z, m) (ap (λ l. a ∷ l) (f (omega arith) (omega arith)))

-- i is among the numbers exactly when it is not below the first, and below the end
among-from : (a n i : ℕ) → among i (from a n) ≡ (leb a i && ltb i (a + n))
among-from a zero i = go (leb a i) refl
  where
    go : (b : Bool) → leb a i ≡ b → false ≡ (b && ltb i (a + 0))
    go true q = sym (le-ltb i (a + 0) (omega (arith, leb-true a i q)))
    go false q = refl
among-from a (suc n) i = go (eqb i a) refl (among-from (suc a) n i)
  where
    further : (i ≡ a → ⊥) → (b : Bool) → leb a i ≡ b → leb (suc a) i ≡ b
    further d true q = le-leb (suc a) i (omega (arith, leb-true a i q))
    further d false q = lt-leb (suc a) i (omega (arith, leb-false a i q))

    go : (b : Bool) → eqb i a ≡ b → among i (from (suc a) n) ≡ (leb (suc a) i && ltb i (suc a + n)) → (b || among i (from (suc a) n)) ≡ (leb a i && ltb i (a + suc n))
    go true q h =
        let e : i ≡ a = eqb-true i a q in
        sym (ap (λ b. b && ltb i (a + suc n)) (le-leb a i (omega arith)) ∙ lt-ltb i (a + suc n) (omega arith))
    go false q h =
        let m : suc a + n ≡ a + suc n = omega arith in
        h ∙ ap (λ b. b && ltb i (suc a + n)) (further (eqb-false i a q) (leb a i) refl) ∙ ap (λ e. leb a i && ltb i e) m

pub among-until : (a e i : ℕ) → among i (from a (e - a)) ≡ (leb a i && ltb i e)
among-until a e i = among-from a (e - a) i ∙ go (leb a i) refl (ltb i e) refl
  where
    go : (b : Bool) → leb a i ≡ b → (c : Bool) → ltb i e ≡ c → (b && ltb i (a + (e - a))) ≡ (b && c)
    go false q c r = refl
    go true q true r = lt-ltb i (a + (e - a)) (omega (arith, leb-true a i q, ltb-true i e r))
    go true q false r = le-ltb i (a + (e - a)) (omega (arith, leb-true a i q, ltb-false i e r))
