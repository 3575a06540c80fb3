-- Laws of Ranks: a centroid's rank is how many of a list are less; groups by rank are groups by number, in the same order.
use Rattle.std.specs.Prelude.{ℕ, zero, suc, ◌+◌, ◌≤◌, ◌<◌, ◌≡◌, Bool, ◌||◌, length, ltb, eqb}
use Rattle.std.proofs.Common.{arith, sym, ◌∙◌, true≢false, lt-ltb, le-ltb, eq-eqb, ne_eqb, ltb-true, ltb-false}
use Rattle.std.proofs.Math.Path.{refl, ap}
use Rattle.std.proofs.Math.Bool.{true, false, cond}
use mathlib.Core.List.{List, [], ◌∷◌, map}
use Rattle.sequences.specs.Lists.{EachOf, those, among, from, put_once, rising}
use Rattle.sequences.specs.Laws.Groups.{Against, less, same, more, against}
use Rattle.cluster_meaning.specs.Ranks.{Among}

abbrev pub rank_of : List ℕ → ℕ → ℕ
rank_of l x = length (those (λ y. ltb y x) l)

module _ (x y : ℕ) (h : x < y) where
  rank-le : (l : List ℕ) → rank_of l x ≤ rank_of l y
  rank-le [] = omega arith
  rank-le (z ∷ l) = go (ltb z x) refl (ltb z y) refl (rank-le l)
    where
      go : (b : Bool) → ltb z x ≡ b → (t : Bool) → ltb z y ≡ t → rank_of l x ≤ rank_of l y → length (cond b (z ∷ those (λ y. ltb y x) l) (those (λ y. ltb y x) l)) ≤ length (cond t (z
          ∷ those (λ w. ltb w y) l) (those (λ w. ltb w y) l))
      go true e true f i = omega arith
      go true e false f i = absurd (let a = ltb-true z x e in let b = ltb-false z y f in let w : ⊥ = omega arith in w)
      go false e true f i = omega arith
      go false e false f i = i

  pub rank_less : (l : List ℕ) → Among l x → rank_of l x < rank_of l y
  rank_less [] a = absurd (true≢false (sym a))
  rank_less (z ∷ l) a = go (against z x) a (rank_less l) (rank-le l)
    where
      go : Against z x → (eqb x z || among x l) ≡ true → (Among l x → rank_of l x < rank_of l y) → rank_of l x ≤ rank_of l y → rank_of (z ∷ l) x < rank_of (z ∷ l) y
      go (less p) a i j = rw (lt-ltb z x p, lt-ltb z y (omega arith)) (let k = i (rw (ne_eqb x z (λ e. omega arith)) at a) in omega arith)
      go (same p) a i j = rw (le-ltb z x (omega arith), lt-ltb z y (omega arith)) (omega arith)
      go (more p) a i j = rw (le-ltb z x (omega arith)) (at (ltb z y) (i (rw (ne_eqb x z (λ e. omega arith)) at a)))
        where
          at : (b : Bool) → rank_of l x < rank_of l y → rank_of l x < length (cond b (z ∷ those (λ w. ltb w y) l) (those (λ w. ltb w y) l))
          at true k = omega arith
          at false k = k

pub rank_below : (x : ℕ) (l : List ℕ) → Among l x → rank_of l x < length l
rank_below x [] a = absurd (true≢false (sym a))
rank_below x (z ∷ l) a = go (against z x) a (rank_below x l) (few l)
  where
    few : (l : List ℕ) → rank_of l x ≤ length l
    few [] = omega arith
    few (z ∷ l) = at (ltb z x) (few l)
      where
        at : (b : Bool) → rank_of l x ≤ length l → length (cond b (z ∷ those (λ w. ltb w x) l) (those (λ w. ltb w x) l)) ≤ suc (length l)
        at true i = omega arith
        at false i = omega arith

    go : Against z x → (eqb x z || among x l) ≡ true → (Among l x → rank_of l x < length l) → rank_of l x ≤ length l → rank_of (z ∷ l) x < suc (length l)
    go (less p) a i f = rw (lt-ltb z x p) (let k = i (rw (ne_eqb x z (λ e. omega arith)) at a) in omega arith)
    go (same p) a i f = rw (le-ltb z x (omega arith)) (omega arith)
    go (more p) a i f = rw (le-ltb z x (omega arith)) (omega arith)

-- ranks compare as the numbers do
module _ (l : List ℕ) (x y : ℕ) (a : Among l x) (b : Among l y) where
  pub rank-eqb : eqb (rank_of l x) (rank_of l y) ≡ eqb x y
  rank-eqb = go (against x y)
    where
      go : Against x y → eqb (rank_of l x) (rank_of l y) ≡ eqb x y
      go (less p) = let r = rank_less x y p l a in ne_eqb (rank_of l x) (rank_of l y) (λ e. omega arith) ∙ sym (ne_eqb x y (λ e. omega arith))
      go (same p) = eq-eqb (rank_of l x) (rank_of l y) (ap (rank_of l) p) ∙ sym (eq-eqb x y p)
      go (more p) = let r = rank_less y x p l b in ne_eqb (rank_of l x) (rank_of l y) (λ e. omega arith) ∙ sym (ne_eqb x y (λ e. omega arith))

  rank-ltb : ltb (rank_of l x) (rank_of l y) ≡ ltb x y
  rank-ltb = go (against x y)
    where
      go : Against x y → ltb (rank_of l x) (rank_of l y) ≡ ltb x y
      go (less p) = lt-ltb (rank_of l x) (rank_of l y) (rank_less x y p l a) ∙ sym (lt-ltb x y p)
      go (same p) = let e : rank_of l x ≡ rank_of l y = ap (rank_of l) p in le-ltb (rank_of l x) (rank_of l y) (omega arith) ∙ sym (le-ltb x y (omega arith))
      go (more p) = let r = rank_less y x p l b in le-ltb (rank_of l x) (rank_of l y) (omega arith) ∙ sym (le-ltb x y (omega arith))

module _ (l : List ℕ) where
  put-rank : (x : ℕ) (ks : List ℕ) → Among l x → EachOf (Among l) ks → put_once (rank_of l x) (map (rank_of l) ks) ≡ map (rank_of l) (put_once x ks)
  unfolding put_once
  put-rank x [] a e = refl
  put-rank x (k ∷ ks) a e = rw (rank-ltb l x k a e.0, rank-eqb l x k a e.0) (go (ltb x k) (eqb x k) (put-rank x ks a e.1))
    where
      go : (b t : Bool) → put_once (rank_of l x) (map (rank_of l) ks) ≡ map (rank_of l) (put_once x ks)
          → cond b (rank_of l x ∷ rank_of l k ∷ map (rank_of l) ks) (cond t (rank_of l k ∷ map (rank_of l) ks) (rank_of l k ∷ put_once (rank_of l x) (map (rank_of l) ks)))
          ≡ map (rank_of l) (cond b (x ∷ k ∷ ks) (cond t (k ∷ ks) (k ∷ put_once x ks)))
      go true t i = refl
      go false true i = refl
      go false false i = ap (λ m. rank_of l k ∷ m) i

  put-among : (x : ℕ) (ks : List ℕ) → Among l x → EachOf (Among l) ks → EachOf (Among l) (put_once x ks)
  unfolding put_once
  put-among x [] a e = (a, tt)
  put-among x (k ∷ ks) a e = go (ltb x k) (eqb x k) (put-among x ks a e.1)
    where
      go : (b t : Bool) → EachOf (Among l) (put_once x ks) → EachOf (Among l) (cond b (x ∷ k ∷ ks) (cond t (k ∷ ks) (k ∷ put_once x ks)))
      go true t i = (a, e)
      go false true i = e
      go false false i = (e.0, i)

  pub rising-among : (xs : List ℕ) → EachOf (Among l) xs → EachOf (Among l) (rising xs)
  unfolding rising
  rising-among [] e = tt
  rising-among (x ∷ xs) e = put-among x (rising xs) e.0 (rising-among xs e.1)

  pub rising-rank : (xs : List ℕ) → EachOf (Among l) xs → rising (map (rank_of l) xs) ≡ map (rank_of l) (rising xs)
  unfolding rising
  rising-rank [] e = refl
  rising-rank (x ∷ xs) e = ap (put_once (rank_of l x)) (rising-rank xs e.1) ∙ put-rank x (rising xs) e.0 (rising-among xs e.1)

-- ---- numbers below n, rising, are those of all numbers below n that are among them
those-ext : (p q : ℕ → Bool) (a n : ℕ) → ((k : ℕ) → a ≤ k → p k ≡ q k) → those p (from a n) ≡ those q (from a n)
those-ext p q a zero h = refl
those-ext p q a (suc n) h = let i = those-ext p q (suc a) n (λ k g. h k (omega arith)) in rw (h a (omega arith), i)

put-below : (x a : ℕ) (p : ℕ → Bool) (n : ℕ) → x < a → put_once x (those p (from a n)) ≡ x ∷ those p (from a n)
unfolding put_once
put-below x a p zero h = refl
put-below x a p (suc n) h = go (p a) (put-below x (suc a) p n (omega arith))
  where
    go : (b : Bool) → put_once x (those p (from (suc a) n)) ≡ x ∷ those p (from (suc a) n) → put_once x (cond b (a ∷ those p (from (suc a) n)) (those p (from (suc a) n))) ≡ x
        ∷ cond b (a ∷ those p (from (suc a) n)) (those p (from (suc a) n))
    go true i = rw (lt-ltb x a h)
    go false i = i

put-those : (x a n : ℕ) (p : ℕ → Bool) → a ≤ x → x < a + n → put_once x (those p (from a n)) ≡ those (λ k. eqb k x || p k) (from a n)
unfolding put_once
put-those x a zero p h g = absurd (let z : ⊥ = omega arith in z)
put-those x a (suc n) p h g = go (against a x) (put-those x (suc a) n p)
  where
    at : (b : Bool) → a ≡ x → put_once x (cond b (a ∷ those p (from (suc a) n)) (those p (from (suc a) n))) ≡ a ∷ those p (from (suc a) n)
    at true e = rw (le-ltb x a (omega arith), eq-eqb x a (sym e))
    at false e = put-below x (suc a) p n (omega arith) ∙ ap (λ z. z ∷ those p (from (suc a) n)) (sym e)

    past : (b : Bool) → a < x → put_once x (those p (from (suc a) n)) ≡ those (λ k. eqb k x || p k) (from (suc a) n)
        → put_once x (cond b (a ∷ those p (from (suc a) n)) (those p (from (suc a) n))) ≡ cond b (a ∷ those (λ k. eqb k x || p k) (from (suc a) n)) (those (λ k. eqb k x || p k) (from (suc a) n))
    past true e i = rw (le-ltb x a (omega arith), ne_eqb x a (λ q. omega arith)) (ap (λ l. a ∷ l) i)
    past false e i = i

    go : Against a x → (suc a ≤ x → x < suc a + n → put_once x (those p (from (suc a) n)) ≡ those (λ k. eqb k x || p k) (from (suc a) n))
        → put_once x (those p (from a (suc n))) ≡ those (λ k. eqb k x || p k) (from a (suc n))
    go (less e) i = rw (ne_eqb a x (λ q. omega arith)) (past (p a) e (i (omega arith) (omega arith)))
    go (same e) i = rw (eq-eqb a x e) (at (p a) e ∙ ap (λ l. a ∷ l) (those-ext p (λ k. eqb k x || p k) (suc a) n (λ k q. sym (ap (λ b. b || p k) (ne_eqb k x (λ r. omega arith))))))
    go (more e) i = absurd (let z : ⊥ = omega arith in z)

none_from : (a n : ℕ) → those (λ k. false) (from a n) ≡ []
none_from a zero = refl
none_from a (suc n) = none_from (suc a) n

pub rising-those : (n : ℕ) (ts : List ℕ) → EachOf (λ t. t < n) ts → rising ts ≡ those (λ k. among k ts) (from 0 n)
unfolding rising
rising-those n [] e = sym (none_from 0 n)
rising-those n (t ∷ ts) e = ap (put_once t) (rising-those n ts e.1) ∙ put-those t 0 n (λ k. among k ts) (omega arith) (omega (arith, e.0))
