-- Laws of `rising`, `groups` and `offsets_from`.
use Rattle.std.specs.Prelude.{ℕ, suc, ◌+◌, ◌-◌, ◌≤◌, ◌<◌, ◌≡◌, Bool, true, ◌||◌, cond, length, take, leb, eqb}
use native.Mathlib.Omega.{arith}
use Rattle.std.proofs.Math.Decide.{dec_le}
use Rattle.std.proofs.Math.Path.{refl, sym, ap}
use Rattle.std.proofs.Common.{◌∙◌, length-append, lt-ltb, le-ltb, le-leb, eq-eqb, ne_eqb, eqb-true}
use Rattle.std.proofs.Math.Bool.{false}
use mathlib.Core.List.{List, [], ◌∷◌, ◌++◌, map, map-append, append_assoc, append-nil}
use Rattle.std.proofs.lemmas.List.{length-map}
use Rattle.std.proofs.Math.Seq.{take-append_seam, drop-append_seam}
use Rattle.std.proofs.lemmas.Bool.{lt-leb}
use Rattle.sequences.specs.Lists.{EachOf, insert_by, sorted_by, those, last_or, joined, offsets_from, between, part, among, put_once, rising, with_key, groups}
use Rattle.sequences.specs.Groups.{RisesFrom}
use Rattle.sequences.specs.Laws.Each.{each_append}

pub data Against (a b : ℕ) : Type 0 where
  less : a < b → Against a b
  same : a ≡ b → Against a b
  more : b < a → Against a b

pub against : (a b : ℕ) → Against a b
against a b = go (dec_le a b) (dec_le b a)
  where
    go : Dec (a ≤ b) → Dec (b ≤ a) → Against a b
    go (yes h) (yes k) = same (omega arith)
    go (yes h) (no k) = less (omega arith)
    go (no h) k = more (omega arith)

put-less : (n x : ℕ) (xs : List ℕ) → n < x → put_once n (x ∷ xs) ≡ n ∷ x ∷ xs
unfolding put_once
put-less n x xs h = rw (lt-ltb n x h)

put_same : (n x : ℕ) (xs : List ℕ) → n ≡ x → put_once n (x ∷ xs) ≡ x ∷ xs
unfolding put_once
put_same n x xs h = rw (le-ltb n x (omega arith), eq-eqb n x h)

put-more : (n x : ℕ) (xs : List ℕ) → x < n → put_once n (x ∷ xs) ≡ x ∷ put_once n xs
unfolding put_once
put-more n x xs h = rw (le-ltb n x (omega arith), ne_eqb n x (λ e. omega arith))

put-rises : (b n : ℕ) (xs : List ℕ) → b ≤ n → RisesFrom b xs → RisesFrom b (put_once n xs)
unfolding put_once
put-rises b n [] h r = (h, tt)
put-rises b n (x ∷ xs) h r = go (put-rises (suc x) n xs) (against n x)
  where
    go : (suc x ≤ n → RisesFrom (suc x) xs → RisesFrom (suc x) (put_once n xs)) → Against n x → RisesFrom b (put_once n (x ∷ xs))
    go i (less p) = rw (put-less n x xs p) (h, (p, r.1))
    go i (same p) = rw (put_same n x xs p) r
    go i (more p) = rw (put-more n x xs p) (r.0, i p r.1)

pub rising-rises : (xs : List ℕ) → RisesFrom 0 (rising xs)
unfolding rising
rising-rises [] = tt
rising-rises (x ∷ xs) = put-rises 0 x (rising xs) (omega arith) (rising-rises xs)

pub or_swap : (a b c : Bool) → (a || (b || c)) ≡ (b || (a || c))
or_swap true true c = refl
or_swap true false c = refl
or_swap false true c = refl
or_swap false false c = refl

or-twice : (a c : Bool) → (a || c) ≡ (a || (a || c))
or-twice true c = refl
or-twice false c = refl

pub among-put : (m n : ℕ) (xs : List ℕ) → among m (put_once n xs) ≡ (eqb m n || among m xs)
unfolding put_once
among-put m n [] = refl
among-put m n (x ∷ xs) = go (among-put m n xs) (against n x)
  where
    go : among m (put_once n xs) ≡ (eqb m n || among m xs) → Against n x → among m (put_once n (x ∷ xs)) ≡ (eqb m n || (eqb m x || among m xs))
    go i (less p) = rw (put-less n x xs p)
    go i (same p) = rw (put_same n x xs p) (or-twice (eqb m x) (among m xs) ∙ ap (λ z. eqb m z || (eqb m x || among m xs)) (sym p))
    go i (more p) = rw (put-more n x xs p) (ap (λ z. eqb m x || z) i ∙ or_swap (eqb m x) (eqb m n) (among m xs))

pub among-rising : (m : ℕ) (xs : List ℕ) → among m (rising xs) ≡ among m xs
unfolding rising
among-rising m [] = refl
among-rising m (x ∷ xs) = among-put m x (rising xs) ∙ ap (λ z. eqb m x || z) (among-rising m xs)

pub not-among : (n b : ℕ) (ks : List ℕ) → n < b → RisesFrom b ks → among n ks ≡ false
not-among n b [] h r = refl
not-among n b (k ∷ ks) h r = let i = not-among n (suc k) ks (omega (arith, r.0)) r.1 in rw (ne_eqb n k (λ e. omega (arith, r.0)), i)

-- ---- groups
module _ {A : Type 0} where
  pub those-append : (p : A → Bool) (a b : List A) → those p (a ++ b) ≡ those p a ++ those p b
  those-append p [] b = refl
  those-append p (x ∷ a) b = go (p x) (those-append p a b)
    where
      go : (z : Bool) → those p (a ++ b) ≡ those p a ++ those p b → cond z (x ∷ those p (a ++ b)) (those p (a ++ b)) ≡ cond z (x ∷ those p a) (those p a) ++ those p b
      go true i = ap (λ l. x ∷ l) i
      go false i = i

module _ {A : Type 0} (key : A → ℕ) where
  -- the lower key first, or either way
  abbrev pub no_later : A → A → Bool
  no_later a b = leb (key a) (key b)

  abbrev pub gathered : List ℕ → List A → List A
  gathered ks xs = joined (map (λ k. with_key key k xs) ks)

  each-with : (P : A → Type 0) (k : ℕ) → ((x : A) → key x ≡ k → P x) → (xs : List A) → EachOf P (with_key key k xs)
  each-with P k f [] = tt
  each-with P k f (x ∷ xs) = go (eqb (key x) k) refl (each-with P k f xs)
    where
      go : (b : Bool) → eqb (key x) k ≡ b → EachOf P (with_key key k xs) → EachOf P (cond b (x ∷ with_key key k xs) (with_key key k xs))
      go true e i = (f x (eqb-true (key x) k e), i)
      go false e i = i

  each-gathered : (n : ℕ) (ks : List ℕ) (xs : List A) → RisesFrom n ks → EachOf (λ y. n ≤ key y) (gathered ks xs)
  each-gathered n [] xs r = tt
  each-gathered n (k ∷ ks) xs r =
      each_append (λ y. n ≤ key y) (with_key key k xs) (gathered ks xs) (each-with (λ y. n ≤ key y) k (λ x e. omega (arith, r.0)) xs) (weaker (gathered ks xs) (each-gathered (suc k) ks xs r.1))
    where
      weaker : (l : List A) → EachOf (λ y. suc k ≤ key y) l → EachOf (λ y. n ≤ key y) l
      weaker [] e = tt
      weaker (y ∷ l) e = (omega (arith, r.0, e.0), weaker l e.1)

  insert-front : (x : A) (l : List A) → EachOf (λ y. key x ≤ key y) l → insert_by no_later x l ≡ x ∷ l
  unfolding insert_by
  insert-front x [] e = refl
  insert-front x (y ∷ l) e = rw (le-leb (key x) (key y) e.0)

  insert-over : (x : A) (l r : List A) → EachOf (λ y. key y < key x) l → insert_by no_later x (l ++ r) ≡ l ++ insert_by no_later x r
  unfolding insert_by
  insert-over x [] r e = refl
  insert-over x (y ∷ l) r e = let i = insert-over x l r e.1 in rw (lt-leb (key x) (key y) e.0, i)

  pub with-other : (k : ℕ) (x : A) (xs : List A) → (key x ≡ k → ⊥) → with_key key k (x ∷ xs) ≡ with_key key k xs
  with-other k x xs n = rw (ne_eqb (key x) k n)

  pub with-same : (k : ℕ) (x : A) (xs : List A) → key x ≡ k → with_key key k (x ∷ xs) ≡ x ∷ with_key key k xs
  with-same k x xs e = rw (eq-eqb (key x) k e)

  gathered-skip : (b : ℕ) (ks : List ℕ) (x : A) (xs : List A) → key x < b → RisesFrom b ks → gathered ks (x ∷ xs) ≡ gathered ks xs
  gathered-skip b [] x xs h r = refl
  gathered-skip b (k ∷ ks) x xs h r =
      let i = gathered-skip (suc k) ks x xs (omega (arith, r.0)) r.1 in
      ap (λ l. l ++ gathered ks (x ∷ xs)) (with-other k x xs (λ e. omega (arith, r.0))) ∙ ap (λ l. with_key key k xs ++ l) i

  gathered-put : (b : ℕ) (ks : List ℕ) (x : A) (xs : List A) → RisesFrom b ks → (among (key x) ks ≡ false → with_key key (key x) xs ≡ [])
      → gathered (put_once (key x) ks) (x ∷ xs) ≡ insert_by no_later x (gathered ks xs)
  unfolding put_once insert_by
  gathered-put b [] x xs r a = append-nil (with_key key (key x) (x ∷ xs)) ∙ with-same (key x) x xs refl ∙ ap (λ l. x ∷ l) (a refl)
  gathered-put b (k ∷ ks) x xs r a = go (gathered-put (suc k) ks x xs r.1) (against (key x) k)
    where
      go : ((among (key x) ks ≡ false → with_key key (key x) xs ≡ []) → gathered (put_once (key x) ks) (x ∷ xs) ≡ insert_by no_later x (gathered ks xs))
          → Against (key x) k → gathered (put_once (key x) (k ∷ ks)) (x ∷ xs) ≡ insert_by no_later x (gathered (k ∷ ks) xs)
      go i (less p) =
          let none : with_key key (key x) xs ≡ [] = a (not-among (key x) (suc (key x)) (k ∷ ks) (omega arith) (p, r.1)) in
          ap (λ l. gathered l (x ∷ xs)) (put-less (key x) k ks p)
          ∙ ap (λ l. l ++ gathered (k ∷ ks) (x ∷ xs)) (with-same (key x) x xs refl ∙ ap (λ l. x ∷ l) none)
          ∙ ap (λ l. x ∷ l) (gathered-skip (suc (key x)) (k ∷ ks) x xs (omega arith) (p, r.1))
          ∙ sym (insert-front x (gathered (k ∷ ks) xs) (each-gathered (key x) (k ∷ ks) xs (omega arith, r.1)))
      go i (same p) =
          ap (λ l. gathered l (x ∷ xs)) (put_same (key x) k ks p)
          ∙ ap (λ l. l ++ gathered ks (x ∷ xs)) (with-same k x xs p)
          ∙ ap (λ l. x ∷ (with_key key k xs ++ l)) (gathered-skip (suc k) ks x xs (omega arith) r.1)
          ∙ sym (insert-front x (gathered (k ∷ ks) xs) (each-gathered (key x) (k ∷ ks) xs (omega arith, r.1)))
      go i (more p) =
          ap (λ l. gathered l (x ∷ xs)) (put-more (key x) k ks p)
          ∙ ap (λ l. l ++ gathered (put_once (key x) ks) (x ∷ xs)) (with-other k x xs (λ e. omega arith))
          ∙ ap (λ l. with_key key k xs ++ l) (i (λ n. a (ap (λ z. z || among (key x) ks) (ne_eqb (key x) k (λ e. omega arith)) ∙ n)))
          ∙ sym (insert-over x (with_key key k xs) (gathered ks xs) (each-with (λ y. key y < key x) k (λ y e. omega arith) xs))

  pub none-with : (n : ℕ) (xs : List A) → among n (map key xs) ≡ false → with_key key n xs ≡ []
  none-with n [] h = refl
  none-with n (x ∷ xs) h = go (against n (key x)) h (none-with n xs)
    where
      go : Against n (key x) → (eqb n (key x) || among n (map key xs)) ≡ false → (among n (map key xs) ≡ false → with_key key n xs ≡ []) → with_key key n (x ∷ xs) ≡ []
      go (less p) h i = with-other n x xs (λ e. omega arith) ∙ i (rw (ne_eqb n (key x) (λ e. omega arith)) at h)
      go (same p) h i = let z : true ≡ false = rw (eq-eqb n (key x) p) at h in cc
      go (more p) h i = with-other n x xs (λ e. omega arith) ∙ i (rw (ne_eqb n (key x) (λ e. omega arith)) at h)

  -- the groups, one after another, are the entries sorted by key, those of equal key as they came
  pub groups-sort : (xs : List A) → joined (groups key xs) ≡ sorted_by no_later xs
  unfolding rising sorted_by
  groups-sort [] = refl
  groups-sort (x ∷ xs) =
      gathered-put 0 (rising (map key xs)) x xs (rising-rises (map key xs)) (λ h. none-with (key x) xs (sym (among-rising (key x) (map key xs)) ∙ h))
      ∙ ap (insert_by no_later x) (groups-sort xs)

-- ---- offsets: they start at n, never fall, and end at n plus the length of all
abbrev pub NeverFalls : ℕ → List ℕ → Type 0
NeverFalls n [] = Unit {0}
NeverFalls n (x ∷ xs) = (n ≤ x) × NeverFalls x xs

module _ {A : Type 0} where
  pub offsets-rise : (n : ℕ) (ls : List (List A)) → NeverFalls n (offsets_from n ls)
  offsets-rise n [] = (omega arith, tt)
  offsets-rise n (l ∷ ls) = (omega arith, weaker (offsets_from (n + length l) ls) (offsets-rise (n + length l) ls))
    where
      weaker : (os : List ℕ) → NeverFalls (n + length l) os → NeverFalls n os
      weaker [] r = tt
      weaker (o ∷ os) r = (omega (arith, r.0), r.1)

  pub offsets-count : (n : ℕ) (ls : List (List A)) → length (offsets_from n ls) ≡ suc (length ls)
  offsets-count n [] = refl
  offsets-count n (l ∷ ls) = ap suc (offsets-count (n + length l) ls)

  pub offsets-last : (n : ℕ) (ls : List (List A)) → last_or 0 (offsets_from n ls) ≡ n + length (joined ls)
  offsets-last n ls = go 0 n ls
    where
      go : (d n : ℕ) (ls : List (List A)) → last_or d (offsets_from n ls) ≡ n + length (joined ls)
      go d n [] = omega arith
      go d n (l ∷ ls) = let i = go n (n + length l) ls in let e = length-append l (joined ls) in i ∙ omega arith

  between_cons : (a n : ℕ) (ls : List (List A)) (xs : List A) → between (a ∷ offsets_from n ls) xs ≡ part a (n - a) xs ∷ between (offsets_from n ls) xs
  between_cons a n [] xs = refl
  between_cons a n (l ∷ ls) xs = refl

  pub part-is : (front l r : List A) → part (length front) (length front + length l - length front) (front ++ (l ++ r)) ≡ l
  part-is front l r = ap (take (length front + length l - length front)) (drop-append_seam front (l ++ r)) ∙ ap (λ n. take n (l ++ r)) (size (length front) (length l)) ∙ take-append_seam l r
    where
      size : (a b : ℕ) → a + b - a ≡ b
      size a b = omega arith

  -- the lists are read back by their offsets
  pub between-offsets : (front : List A) (ls : List (List A)) → between (offsets_from (length front) ls) (front ++ joined ls) ≡ ls
  between-offsets front [] = refl
  between-offsets front (l ∷ ls) =
      between_cons (length front) (length front + length l) ls (front ++ (l ++ joined ls))
      ∙ ap (λ z. z ∷ between (offsets_from (length front + length l) ls) (front ++ (l ++ joined ls))) (part-is front l (joined ls))
      ∙ ap (λ n. l ∷ between (offsets_from n ls) (front ++ (l ++ joined ls))) (sym (length-append front l))
      ∙ ap (λ xs. l ∷ between (offsets_from (length (front ++ l)) ls) xs) (sym (append_assoc front l (joined ls)))
      ∙ ap (λ z. l ∷ z) (between-offsets (front ++ l) ls)

-- lists of the same lengths have the same offsets
pub offsets-map : {A B : Type 0} (f : A → B) (n : ℕ) (ls : List (List A)) → offsets_from n (map (map f) ls) ≡ offsets_from n ls
offsets-map f n [] = refl
offsets-map f n (l ∷ ls) = ap (λ os. n ∷ os) (ap (λ k. offsets_from (n + k) (map (map f) ls)) (length-map l f) ∙ offsets-map f (n + length l) ls)

pub joined-map : {A B : Type 0} (f : A → B) (ls : List (List A)) → joined (map (map f) ls) ≡ map f (joined ls)
joined-map f [] = refl
joined-map f (l ∷ ls) = ap (λ z. map f l ++ z) (joined-map f ls) ∙ sym (map-append f l (joined ls))
