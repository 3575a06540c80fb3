-- What one turn of a scoring loop does to the walk of what is left.
use mathlib.Core.Path.{◌≡◌, refl, sym, ap, ◌∙◌}
use mathlib.Core.Bool.{Bool, true, false, cond}
use mathlib.Core.List.{List, [], ◌∷◌, ◌++◌, append_assoc, zip_with}
use mathlib.Core.Logic.{◌⊎◌, inl, inr}
use Prim.Native.Nat.{ℕ, zero, suc, ◌+◌, ◌-◌, ◌≤◌, ◌<◌, min}
use native.Mathlib.Omega.{arith}
use native.Mathlib.Nat.{min-eq_left, le_trans}
use native.Mathlib.Decide.{dec_le}
use native.Mathlib.Numerals.{add-one}
use lib.ListN.{length, get_or, take, drop, set, replicate, length-replicate, replicate-append-replicate, drop_of_length-le, get_or-eq_default}
use lib.Seq.{slice, slice-cons, drop-cons, set_at, take-nil, take_all}
use lib.Dec.{leb, ltb}
use lib.IntN.{pos}
use lib.Ieee.{Float, nan, fin, binary32, add, mul}
use borrow.Author.Tests.{ltb-true, ltb-false, lt-ltb, le-ltb, le-leb, lt-leb, leb-false, eq-eqb, ne_eqb}
use Rattle.sequences.specs.Lists.{before, between, part}
use Rattle.sequences.specs.Laws.Lists.{any-default}
use Rattle.documents.specs.Documents.{term, paired}
use Rattle.documents.specs.Sought.{belows, sought}
use Rattle.quantizing.specs.Quantizing.{read_back}
use Rattle.sparse_scores.specs.Layout.{Layout, arrays, entry, entries, entries_at, place_of}
use Rattle.sparse_scores.specs.Scores.{summary_count, scores_of, put_in}
use Rattle.sparse_scores.specs.Walk.{grown, grown_by, Spans}
use Rattle.sparse_scores.specs.Laws.Walk.{walked}
use Rattle.sparse_scores.specs.Laws.WalkLaws.{walk-scores}

-- ---- clearing, place by place, for whoever counts places
pub clear_step : {A : Type 0} (z : A) (scores : List A) (i : ℕ) → i < length scores → set (replicate i z ++ drop i scores) i z ≡ replicate (i + 1) z ++ drop (i + 1) scores
clear_step z scores i h =
    ap (λ l. set (replicate i z ++ l) i z) (drop-cons scores i z h)
    ∙ set_at (replicate i z) (get_or scores i z) (drop (suc i) scores) z i (length-replicate i z)
    ∙ sym (append_assoc (replicate i z) (z ∷ []) (drop (suc i) scores))
    ∙ rw (replicate-append-replicate i 1 z, add-one i)

-- ---- seeking
belows_place : (c : ℕ) (cs : List ℕ) → belows c cs ≡ place_of c cs
unfolding belows
belows_place c [] = refl
belows_place c (x ∷ cs) = go (ltb x c) refl (belows_place c cs)
  where
    go : (b : Bool) → ltb x c ≡ b → belows c cs ≡ place_of c cs → cond b (suc (belows c cs)) 0 ≡ place_of c (x ∷ cs)
    go true e i = rw (lt-leb c x (ltb-true x c e)) (ap suc i)
    go false e i = rw (le-leb c x (ltb-false x c e)) refl

-- the place sought by components is the layout's place of one
sought_place : (c from : ℕ) (cs : List ℕ) → sought cs from c ≡ from + place_of c (drop from cs)
unfolding sought
sought_place c from cs = ap (λ n. from + n) (belows_place c (drop from cs))

pub sought-first : (c r : ℕ) (cs : List ℕ) → r ≡ sought cs 0 c → r ≡ place_of c cs
sought-first c r cs e = let z : r ≡ 0 + place_of c cs = e ∙ sought_place c 0 cs in omega arith

-- what stands before a smaller component stands before c
pub place-from : (last c : ℕ) (cs : List ℕ) → last ≤ c → place_of last cs + place_of c (drop (place_of last cs) cs) ≡ place_of c cs
place-from last c [] h = refl
place-from last c (x ∷ cs) h = go (leb last x) refl (place-from last c cs h)
  where
    go : (b : Bool) → leb last x ≡ b → place_of last cs + place_of c (drop (place_of last cs) cs) ≡ place_of c cs
        → length (cond b [] (x ∷ before (λ y. leb last y) cs)) + place_of c (drop (length (cond b [] (x ∷ before (λ y. leb last y) cs))) (x ∷ cs)) ≡ place_of c (x ∷ cs)
    go true e i = omega arith
    go false e i = rw (lt-leb c x (omega (arith, leb-false last x e))) (omega arith)

pub placed : (last c at r : ℕ) (cs : List ℕ) → at ≡ place_of last cs → last ≤ c → r ≡ sought cs at c → r ≡ place_of c cs
placed last c at r cs e h k = k ∙ sought_place c at cs ∙ ap (λ n. n + place_of c (drop n cs)) e ∙ place-from last c cs h

pub first-place : (cs : List ℕ) → 0 ≡ place_of 0 cs
first-place [] = refl
first-place (x ∷ cs) = rw (le-leb 0 x (omega arith))

-- ---- the range of a component's entries
module _ {A : Type 0} where
  slice-part : (f t : ℕ) (l : List A) → slice f t l ≡ part f (t - f) l
  slice-part zero t l = let z : t - 0 ≡ t = omega arith in rw z
  slice-part (suc f) zero l = let z : 0 - suc f ≡ 0 = omega arith in rw z
  slice-part (suc f) (suc t) [] = sym (take-nil (suc t - suc f))
  slice-part (suc f) (suc t) (x ∷ l) = let z : suc t - suc f ≡ t - f = omega arith in rw z (slice-part f t l)

  between-at : (os : List ℕ) (l : List A) (p : ℕ) → p + 1 < length os → get_or (between os l) p [] ≡ part (get_or os p 0) (get_or os (p + 1) 0 - get_or os p 0) l
  between-at [] l p h = let z : ⊥ = omega arith in absurd z
  between-at (a ∷ []) l p h = let z : ⊥ = omega arith in absurd z
  between-at (a ∷ b ∷ os) l zero h = refl
  between-at (a ∷ b ∷ os) l (suc p) h = let z : suc p + 1 ≡ suc (p + 1) = omega arith in rw z (between-at (b ∷ os) l p (omega arith))

  between-past : (os : List ℕ) (l : List A) (p : ℕ) → length os ≤ p + 1 → get_or (between os l) p [] ≡ []
  between-past [] l p h = refl
  between-past (a ∷ []) l p h = refl
  between-past (a ∷ b ∷ os) l zero h = let z : ⊥ = omega arith in absurd z
  between-past (a ∷ b ∷ os) l (suc p) h = between-past (b ∷ os) l p (omega arith)

module _ (cs os : List ℕ) (place c : ℕ) where
  pub spans-past : length cs ≤ place → Spans cs os place c 0 0
  spans-past h es = rw (get_or-eq_default cs (suc c) h, ne_eqb (suc c) c (λ e. omega arith))

  pub spans-other : place < length cs → (get_or cs place 0 ≡ c → ⊥) → Spans cs os place c 0 0
  spans-other h k es = rw (any-default cs place (suc c) 0 h, ne_eqb (get_or cs place 0) c k)

  pub spans-short : place < length cs → get_or cs place 0 ≡ c → length os ≤ place + 1 → Spans cs os place c 0 0
  spans-short h k l es = rw (any-default cs place (suc c) 0 h, eq-eqb (get_or cs place 0) c k) (sym (between-past os es place l))

  pub spans-here : place < length cs → get_or cs place 0 ≡ c → place + 1 < length os → Spans cs os place c (get_or os place 0) (get_or os (place + 1) 0)
  spans-here h k l es = rw (any-default cs place (suc c) 0 h, eq-eqb (get_or cs place 0) c k) (slice-part (get_or os place 0) (get_or os (place + 1) 0) es ∙ sym (between-at os es place l))

-- ---- one entry, and one after another
module _ (n : ℕ) (ms ss : List Float) (v : Float) where
  pub grown-in : (s k : ℕ) (scores : List Float) → s < n
      → set scores s (add binary32 (get_or scores s nan) (mul binary32 (read_back (get_or ms s nan) (get_or ss s nan) k) v)) ≡ grown n ms ss v (entry s k) scores
  unfolding grown
  grown-in s k scores h = rw (lt-ltb s n h)

  pub grown-out : (s k : ℕ) (scores : List Float) → n ≤ s → scores ≡ grown n ms ss v (entry s k) scores
  unfolding grown
  grown-out s k scores h = rw (le-ltb s n h)

  module _ (ids codes : List ℕ) where
    entries-at : (is ks : List ℕ) (i : ℕ) → i < length is → i < length ks → get_or (entries is ks) i (entry 0 0) ≡ entry (get_or is i 0) (get_or ks i 0)
    unfolding entries zip_with
    entries-at [] ks i h k = let z : ⊥ = omega arith in absurd z
    entries-at (a ∷ is) [] i h k = let z : ⊥ = omega arith in absurd z
    entries-at (a ∷ is) (b ∷ ks) zero h k = refl
    entries-at (a ∷ is) (b ∷ ks) (suc i) h k = entries-at is ks i (omega arith) (omega arith)

    entries-long : (is ks : List ℕ) (t : ℕ) → t ≤ length is → t ≤ length ks → t ≤ length (entries is ks)
    unfolding entries zip_with
    entries-long [] ks t h k = omega arith
    entries-long (a ∷ is) [] t h k = omega arith
    entries-long (a ∷ is) (b ∷ ks) zero h k = omega arith
    entries-long (a ∷ is) (b ∷ ks) (suc t) h k = let i = entries-long is ks t (omega arith) (omega arith) in omega arith

    pub turn : (i t : ℕ) (scores next : List Float) → i < t → t ≤ length ids → t ≤ length codes → next ≡ grown n ms ss v (entry (get_or ids i 0) (get_or codes i 0)) scores
        → grown_by n ms ss v (slice (i + 1) t (entries ids codes)) next ≡ grown_by n ms ss v (slice i t (entries ids codes)) scores
    unfolding grown_by
    turn i t scores next h a b e = rw (add-one i, slice-cons i t (entries ids codes) (entry 0 0) h (entries-long ids codes t a b), entries-at ids codes i (omega arith) (omega arith), e)

    pub last_turn : (i t : ℕ) (scores : List Float) → t ≤ i → grown_by n ms ss v (slice i t (entries ids codes)) scores ≡ scores
    unfolding grown_by
    last_turn i t scores h = rw (drop_of_length-le (take t (entries ids codes)) (le_trans (short t (entries ids codes)) h))
      where
        short : {A : Type 0} (t : ℕ) (l : List A) → length (take t l) ≤ t
        short zero l = omega arith
        short (suc t) [] = omega arith
        short (suc t) (x ∷ l) = let i = short t l in omega arith

-- ---- a term of the query, and one after another
module _ (ids codes : List ℕ) where
  few : (is ks : List ℕ) → length (entries is ks) ≤ min (length is) (length ks)
  unfolding entries zip_with
  few [] ks = omega arith
  few (a ∷ is) [] = omega arith
  few (a ∷ is) (b ∷ ks) = let i = few is ks in omega arith

  -- a range that ends past the entries ends with them
  clipped : (f t : ℕ) → slice f (min t (min (length ids) (length codes))) (entries ids codes) ≡ slice f t (entries ids codes)
  clipped f t = ap (drop f) (go (dec_le t (min (length ids) (length codes))))
    where
      go : Dec (t ≤ min (length ids) (length codes)) → take (min t (min (length ids) (length codes))) (entries ids codes) ≡ take t (entries ids codes)
      go (yes h) = rw (min-eq_left h)
      go (no h) =
          let k = few ids codes in
          take_all (min t (min (length ids) (length codes))) (entries ids codes) (omega arith) ∙ sym (take_all t (entries ids codes) (omega arith))

  pub term-added : (n place c : ℕ) (v : Float) (cs os : List ℕ) (ms ss : List Float) (f t e k : ℕ) (scores next : List Float) → Spans cs os place c f t → k ≡ min (length ids) (length codes) → e ≡ min t k
      → next ≡ grown_by n ms ss v (slice f e (entries ids codes)) scores → next ≡ grown_by n ms ss v (entries_at (arrays cs os ids codes ms ss) place c) scores
  unfolding entries_at
  term-added n place c v cs os ms ss f t e k scores next s p q r =
      r ∙ ap (λ es. grown_by n ms ss v es scores) (ap (λ z. slice f z (entries ids codes)) (q ∙ ap (min t) p) ∙ clipped f t ∙ s (entries ids codes))

-- the pairs from a place on, and how many there are, for whoever counts places
module _ (qs : List ℕ) (ws : List Float) where
  paired_at : (cs : List ℕ) (vs : List Float) (i : ℕ) → i < length cs → i < length vs → drop i (paired cs vs) ≡ term (get_or cs i 0) (get_or vs i nan) ∷ drop (i + 1) (paired cs vs)
  unfolding paired zip_with
  paired_at [] vs i h k = let z : ⊥ = omega arith in absurd z
  paired_at (c ∷ cs) [] i h k = let z : ⊥ = omega arith in absurd z
  paired_at (c ∷ cs) (v ∷ vs) zero h k = refl
  paired_at (c ∷ cs) (v ∷ vs) (suc i) h k = let z : suc i + 1 ≡ suc (i + 1) = omega arith in rw z (paired_at cs vs i (omega arith) (omega arith))

  paired-few : (cs : List ℕ) (vs : List Float) → length (paired cs vs) ≤ min (length cs) (length vs)
  unfolding paired zip_with
  paired-few [] vs = omega arith
  paired-few (c ∷ cs) [] = omega arith
  paired-few (c ∷ cs) (v ∷ vs) = let i = paired-few cs vs in omega arith

-- one pair of the query more, where what is left of its two lists is known
pub query-turn : (n : ℕ) (l : Layout) (cs : List ℕ) (c : ℕ) (v : Float) (qs left : List ℕ) (ws rest : List Float) (place : ℕ) (scores next : List Float) → qs ≡ c ∷ left → ws ≡ v ∷ rest → cs ≡ l.summary_components → place ≡ place_of c cs
    → next ≡ grown_by n l.minimums l.steps v (entries_at l place c) scores
    → walked n l (paired left rest) next ≡ walked n l (paired qs ws) scores
unfolding walked paired zip_with
query-turn n l cs c v qs left ws rest place scores next a b s p e = rw (a, b) (ap (walked n l (paired left rest)) (e ∙ ap (λ z. grown_by n l.minimums l.steps v (entries_at l z c) scores) (p ∙ ap (place_of c) s)))

pub query-end : (n : ℕ) (l : Layout) (qs : List ℕ) (ws : List Float) (scores : List Float) → (qs ≡ []) ⊎ (ws ≡ []) → walked n l (paired qs ws) scores ≡ scores
unfolding walked paired zip_with
query-end n l qs ws scores (inl a) = rw a refl
query-end n l [] ws scores (inr b) = refl
query-end n l (q ∷ qs) ws scores (inr b) = rw b refl

pub all-scored : (qs : List ℕ) (ws : List Float) (l : Layout) (n a : ℕ) (buffer clear scores : List Float) → a ≡ summary_count l → n ≡ min a (length buffer) → clear ≡ replicate n (fin false 0 (pos 0)) ++ drop n buffer
    → scores ≡ walked n l (paired qs ws) clear → scores ≡ put_in (scores_of l (paired qs ws)) buffer
all-scored qs ws l n a buffer clear scores p q c e =
    let z : n ≡ min (summary_count l) (length buffer) = q ∙ ap (λ k. min k (length buffer)) p in
    e ∙ ap (walked n l (paired qs ws)) c ∙ ap (λ k. walked k l (paired qs ws) (replicate k (fin false 0 (pos 0)) ++ drop k buffer)) z ∙ walk-scores l (paired qs ws) buffer
