-- Words on lists that the definitions of several crates share.
use Rattle.std.specs.Prelude.{ℕ, zero, suc, ◌+◌, ◌-◌, Bool, true, false, ◌&&◌, ◌||◌, cond, List, [], ◌∷◌, ◌++◌, map, length, take, drop, leb, ltb, eqb}

module _ {A : Type 0} where
  -- the entries that pass a test, as they come
  abbrev pub those : (A → Bool) → List A → List A
  those p [] = []
  those p (x ∷ xs) = cond (p x) (x ∷ those p xs) (those p xs)

  -- P holds of each entry
  abbrev pub EachOf : (A → Type 0) → List A → Type 0
  EachOf P [] = Unit {0}
  EachOf P (x ∷ xs) = P x × EachOf P xs

  -- each entry passes
  abbrev pub every : (A → Bool) → List A → Bool
  every p [] = true
  every p (x ∷ xs) = p x && every p xs

  -- the entries before the first that passes
  abbrev pub before : (A → Bool) → List A → List A
  before p [] = []
  before p (x ∷ xs) = cond (p x) [] (x ∷ before p xs)

  abbrev pub first_or : A → List A → A
  first_or d [] = d
  first_or d (x ∷ xs) = x

  abbrev pub last_or : A → List A → A
  last_or d [] = d
  last_or d (x ∷ xs) = last_or x xs

  -- n entries from a start on
  abbrev pub part : ℕ → ℕ → List A → List A
  part start n xs = take n (drop start xs)

  -- all lists in one
  abbrev pub joined : List (List A) → List A
  joined [] = []
  joined (l ∷ ls) = l ++ joined ls

  -- where each list starts in the joined list, counted from n, and then where the last one ends
  abbrev pub offsets_from : ℕ → List (List A) → List ℕ
  offsets_from n [] = n ∷ []
  offsets_from n (l ∷ ls) = n ∷ offsets_from (n + length l) ls

  -- the parts between offsets
  abbrev pub between : List ℕ → List A → List (List A)
  between [] xs = []
  between (a ∷ []) xs = []
  between (a ∷ b ∷ os) xs = part a (b - a) xs ∷ between (b ∷ os) xs

-- a, a + 1, .., n numbers
abbrev pub from : ℕ → ℕ → List ℕ
from a zero = []
from a (suc n) = a ∷ from (suc a) n

abbrev pub among : ℕ → List ℕ → Bool
among n [] = false
among n (x ∷ xs) = eqb n x || among n xs

-- each number is at least the one before it
abbrev pub never_falls : List ℕ → Bool
never_falls [] = true
never_falls (x ∷ []) = true
never_falls (x ∷ y ∷ xs) = leb x y && never_falls (y ∷ xs)

-- each number is more than the one before it
abbrev pub strictly_rise : List ℕ → Bool
strictly_rise [] = true
strictly_rise (x ∷ []) = true
strictly_rise (x ∷ y ∷ xs) = ltb x y && strictly_rise (y ∷ xs)

-- n among rising numbers, unless it is there
unfoldable pub put_once : ℕ → List ℕ → List ℕ
put_once n [] = n ∷ []
put_once n (x ∷ xs) = cond (ltb n x) (n ∷ x ∷ xs) (cond (eqb n x) (x ∷ xs) (x ∷ put_once n xs))

-- the numbers of a list, each once, rising
unfoldable pub rising : List ℕ → List ℕ
rising [] = []
rising (x ∷ xs) = put_once x (rising xs)

-- one group for each key present, keys rising; the entries of a group as they come
module _ {A : Type 0} (key : A → ℕ) where
  abbrev pub keys : List A → List ℕ
  keys xs = rising (map key xs)

  abbrev pub with_key : ℕ → List A → List A
  with_key k xs = those (λ x. eqb (key x) k) xs

  abbrev pub groups : List A → List (List A)
  groups xs = map (λ k. with_key k xs) (keys xs)

-- entries put in order; `no_later a b` says that a may stand before b
module _ {A : Type 0} (no_later : A → A → Bool) where
  -- x put in front of the first entry that it may stand before
  unfoldable pub insert_by : A → List A → List A
  insert_by x [] = x ∷ []
  insert_by x (y ∷ ys) = cond (no_later x y) (x ∷ y ∷ ys) (y ∷ insert_by x ys)

  -- the entries in order; entries that may stand either way keep theirs
  unfoldable pub sorted_by : List A → List A
  sorted_by [] = []
  sorted_by (x ∷ xs) = insert_by x (sorted_by xs)
