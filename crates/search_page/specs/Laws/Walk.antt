-- The sieve passes over no term that counts, and looking up from where the last look ended misses none.
use Rattle.std.specs.Prelude.{◌≡◌, Bool, ◌&&◌, cond, length, get_or, drop, set, replicate, ltb, Float}
use Rattle.std.proofs.Math.Path.{refl, ap}
use Rattle.std.proofs.Common.{sym, ◌∙◌, true≢false, mod-lt, arith, length-set, length-drop, get_or-drop, get_or-set_same, get_or-set_other, lit<}
use mathlib.Core.List.{List, [], ◌∷◌, foldl, zip_with}
use Rattle.std.proofs.Math.Bool.{true, false}
use Prim.Native.Nat.{ℕ, zero, suc, ◌+◌, ◌-◌, ◌≤◌, ◌<◌, ◌%◌}
use borrow.Author.Tests.{lt-ltb, eq-eqb, ne_eqb, ltb-true, ltb-false, eqb-true, eqb-false}
use Rattle.std.proofs.lemmas.List.{length-replicate}
use Rattle.std.proofs.Math.Dec.{eqb}
use Rattle.std.specs.Float.{nan, binary32}
use Rattle.std.specs.Float.Ieee.{add, mul}
use Rattle.sequences.specs.Lists.{strictly_rise}
use Rattle.sequences.specs.Laws.Lists.{both}
use Rattle.documents.specs.Documents.{term, paired, values_at}
use Rattle.documents.specs.Laws.Documents.{strictly-rise-at}
use Rattle.search_page.specs.declared.Sum.{Sum}
use Rattle.search_page.specs.Laws.Score.{Above, of_page, walked_from}
use Rattle.documents.specs.Sought.{belows, sought}
use Rattle.search_page.specs.Through.{marking, sieve_of, sum_of, hits, looked, stepped, through}

-- ---- the sieve
-- the components are marked at their remainders
abbrev pub Passes : List ℕ → List ℕ → Type 0
Passes sieve qs = (k : ℕ) → k < length qs → get_or sieve (get_or qs k 0 % 4096) 0 ≡ 1

-- a mark stays
marks_stay : (sieve qs : List ℕ) (r : ℕ) → length sieve ≡ 4096 → get_or sieve r 0 ≡ 1 → get_or (marking sieve qs) r 0 ≡ 1
unfolding marking
marks_stay sieve [] r e h = h
marks_stay sieve (q ∷ qs) r e h = marks_stay (set sieve (q % 4096) 1) qs r (length-set sieve (q % 4096) 1 ∙ e) (at (eqb r (q % 4096)) refl)
  where
    at : (b : Bool) → eqb r (q % 4096) ≡ b → get_or (set sieve (q % 4096) 1) r 0 ≡ 1
    at true f = rw (eqb-true r (q % 4096) f) (get_or-set_same sieve (q % 4096) 1 0 (rw e (mod-lt q (lit< tt))))
    at false f = get_or-set_other sieve (q % 4096) r 1 0 (eqb-false r (q % 4096) f) ∙ h

marks-all : (sieve qs : List ℕ) → length sieve ≡ 4096 → Passes (marking sieve qs) qs
unfolding marking
marks-all sieve [] e k h = absurd (omega arith)
marks-all sieve (q ∷ qs) e zero h =
    marks_stay (set sieve (q % 4096) 1) qs (q % 4096) (length-set sieve (q % 4096) 1 ∙ e) (get_or-set_same sieve (q % 4096) 1 0 (rw e (mod-lt q (lit< tt))))
marks-all sieve (q ∷ qs) e (suc k) h = marks-all (set sieve (q % 4096) 1) qs (length-set sieve (q % 4096) 1 ∙ e) k (omega arith)

pub sieve-passes : (qs : List ℕ) → Passes (sieve_of qs) qs
unfolding sieve_of
sieve-passes qs = marks-all (replicate 4096 0) qs (length-replicate {A = ℕ} 4096 0)

-- ---- looking up
pub values-miss : (qs : List ℕ) (ws : List Float) (a : ℕ) → ((k : ℕ) → k < length qs → get_or qs k 0 ≡ a → ⊥) → values_at a (paired qs ws) ≡ []
unfolding paired zip_with
values-miss [] ws a h = refl
values-miss (q ∷ qs) [] a h = refl
values-miss (q ∷ qs) (w ∷ ws) a h = rw (ne_eqb q a (h 0 (omega arith))) (values-miss qs ws a (λ k l. h (suc k) (omega arith)))

values-hit : (qs : List ℕ) (ws : List Float) (a k : ℕ) → k < length qs → length qs ≡ length ws
    → ((i : ℕ) → i < k → get_or qs i 0 < a) → get_or qs k 0 ≡ a → ((i : ℕ) → k < i → i < length qs → a < get_or qs i 0) → values_at a (paired qs ws) ≡ get_or ws k nan ∷ []
unfolding paired zip_with
values-hit [] ws a k l p b e f = let z : ⊥ = omega arith in absurd z
values-hit (q ∷ qs) [] a k l p b e f = let z : ⊥ = omega arith in absurd z
values-hit (q ∷ qs) (w ∷ ws) a zero l p b e f =
    rw (eq-eqb q a e) (ap (λ ys. w ∷ ys) (values-miss qs ws a (λ k g h. let z : a < get_or qs k 0 = f (suc k) (omega arith) (omega arith) in omega arith)))
values-hit (q ∷ qs) (w ∷ ws) a (suc k) l p b e f =
    let lt : q < a = b 0 (omega arith) in
    rw (ne_eqb q a (λ g. omega arith)) (values-hit qs ws a k (omega arith) (omega arith) (λ i h. b (suc i) (omega arith)) e (λ i h g. f (suc i) (omega arith) (omega arith)))

-- ---- the first place that is not below
below-front : (c : ℕ) (l : List ℕ) (i : ℕ) → i < belows c l → get_or l i 0 < c
unfolding belows
below-front c [] i h = let z : ⊥ = omega arith in absurd z
below-front c (q ∷ qs) i h = at (ltb q c) refl (below-front c qs) i h
  where
    at : (b : Bool) → ltb q c ≡ b → ((i : ℕ) → i < belows c qs → get_or qs i 0 < c) → (i : ℕ) → i < cond b (suc (belows c qs)) 0 → get_or (q ∷ qs) i 0 < c
    at true e f zero h = ltb-true q c e
    at true e f (suc i) h = f i (omega arith)
    at false e f i h = let z : ⊥ = omega arith in absurd z

not-below : (c : ℕ) (l : List ℕ) → belows c l < length l → c ≤ get_or l (belows c l) 0
unfolding belows
not-below c [] h = let z : ⊥ = omega arith in absurd z
not-below c (q ∷ qs) h = at (ltb q c) refl (not-below c qs) h
  where
    at : (b : Bool) → ltb q c ≡ b → (belows c qs < length qs → c ≤ get_or qs (belows c qs) 0) → cond b (suc (belows c qs)) 0 < suc (length qs) → c ≤ get_or (q ∷ qs) (cond b (suc (belows c qs)) 0) 0
    at true e f h = f (omega arith)
    at false e f h = ltb-false q c e

-- the query's components before the place j are below a
abbrev pub Below : List ℕ → ℕ → ℕ → Type 0
Below qs j a = (k : ℕ) → k < j → get_or qs k 0 < a

sought-passed : (qs : List ℕ) (j c : ℕ) → Below qs j c → Below qs (sought qs j c) c
unfolding sought
sought-passed qs j c b k h = at (ltb k j) refl
  where
    at : (t : Bool) → ltb k j ≡ t → get_or qs k 0 < c
    at true e = b k (ltb-true k j e)
    at false e =
        let l : j ≤ k = ltb-false k j e in
        let m : j + (k - j) ≡ k = omega arith in
        rw m at (rw get_or-drop at (below-front c (drop j qs) (k - j) (omega arith)))

sought-stops : (qs : List ℕ) (j c : ℕ) → sought qs j c < length qs → c ≤ get_or qs (sought qs j c) 0
unfolding sought
sought-stops qs j c h = rw get_or-drop at (not-below c (drop j qs) (rw length-drop (omega arith)))

-- ---- a term, and all terms
module _ (sieve qs : List ℕ) (ws : List Float) (passes : Passes sieve qs) (rise : strictly_rise qs ≡ true) (even : length qs ≡ length ws) where
  abbrev Right : ℕ → Float → Sum → Sum → Type 0
  Right c v s r = (r.total ≡ foldl (add binary32) s.total (of_page (paired qs ws) (term c v))) × Below qs r.at c

  looked-right : (c : ℕ) (v : Float) (s : Sum) → Below qs s.at c → Right c v s (looked qs ws c v s)
  unfolding looked
  looked-right c v s b = at (hits qs ws c k) refl
    where
      k : ℕ
      k = sought qs s.at c

      before : Below qs k c
      before = sought-passed qs s.at c b

      at : (t : Bool) → hits qs ws c k ≡ t → Right c v s (sum_of (cond t (add binary32 s.total (mul binary32 v (get_or ws k nan))) s.total) k)
      at true e =
          let p = both (ltb k (length qs)) (ltb k (length ws) && eqb (get_or qs k 0) c) e in
          let l = ltb-true k (length qs) p.0 in
          let q = eqb-true (get_or qs k 0) c (both (ltb k (length ws)) (eqb (get_or qs k 0) c) p.1).1 in
          let z = values-hit qs ws c k l even before q (λ i g h. rw q at (strictly-rise-at qs rise k i g h)) in
          (rw z, before)
      at false e = (rw (values-miss qs ws c none), before)
        where
          none : (i : ℕ) → i < length qs → get_or qs i 0 ≡ c → ⊥
          none i l f = go (ltb i k) refl (eqb i k) refl
            where
              go : (t : Bool) → ltb i k ≡ t → (u : Bool) → eqb i k ≡ u → ⊥
              go true g u h = let z = before i (ltb-true i k g) in omega arith
              go false g true h =
                  let m : i ≡ k = eqb-true i k h in
                  let n : k < length qs = omega arith in
                  let o : get_or qs k 0 ≡ c = rw m at f in
                  let y : hits qs ws c k ≡ true = rw (lt-ltb k (length qs) n, lt-ltb k (length ws) (omega arith), eq-eqb (get_or qs k 0) c o) in
                  true≢false (sym y ∙ e)
              go false g false h =
                  let m : k ≤ i = ltb-false i k g in
                  let n : i ≡ k → ⊥ = eqb-false i k h in
                  let o : k < i = omega arith in
                  let p = strictly-rise-at qs rise k i o l in
                  let q = sought-stops qs s.at c (omega arith) in
                  omega arith

  stepped-right : (c : ℕ) (v : Float) (s : Sum) → Below qs s.at c → Right c v s (stepped sieve qs ws c v s)
  unfolding stepped
  stepped-right c v s b = at (eqb (get_or sieve (c % 4096) 0) 0) refl
    where
      at : (t : Bool) → eqb (get_or sieve (c % 4096) 0) 0 ≡ t → Right c v s (cond t s (looked qs ws c v s))
      at true e = (rw (values-miss qs ws c (λ k l f. let m = rw f at (passes k l) in let z = eqb-true (get_or sieve (c % 4096) 0) 0 e in omega arith)), b)
      at false e = looked-right c v s b

  pub through-right : (m : ℕ) (cs : List ℕ) (vs : List Float) (s : Sum) → Above m (paired cs vs) → Below qs s.at m
      → (through sieve qs ws cs vs s).total ≡ walked_from s.total (paired qs ws) (paired cs vs)
  unfolding through paired zip_with
  through-right m [] vs s a b = refl
  through-right m (c ∷ cs) [] s a b = refl
  through-right m (c ∷ cs) (v ∷ vs) s a b =
      let r = stepped-right c v s (λ k h. let z = b k h in omega arith) in
      through-right (suc c) cs vs (stepped sieve qs ws c v s) a.1 (λ k h. let z = r.1 k h in omega arith)
      ∙ ap (λ x. walked_from x (paired qs ws) (paired cs vs)) r.0
