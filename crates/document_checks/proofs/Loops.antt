-- The checks one place at a time, as their loops go: what was found so far and the check of what is left make the check of all.
use Prim.Native.Nat.{ℕ, zero, suc, min, ◌+◌, ◌-◌, ◌*◌, ◌/◌, ◌≤◌, ◌<◌}
use native.Mathlib.Omega.{arith}
use native.Mathlib.Numerals.{add-one}
use mathlib.Core.Path.{◌≡◌, refl, sym, ap, ◌∙◌}
use mathlib.Core.Bool.{Bool, true, false, ◌&&◌, and-true, and_assoc}
use mathlib.Core.List.{List, [], ◌∷◌}
use lib.ListN.{length, get_or, take, drop, length-take, length-drop}
use lib.Seq.{take_all, drop-cons, drop-length}
use lib.Dec.{leb, ltb, eqb}
use lib.Ieee.{Float, nan, binary32, of_bits, neg, le}
use Rattle.float32.specs.Bound.{in_bound}
use Rattle.float32.specs.Laws.BoundLaws.{in-bound-tests}
use Rattle.sequences.specs.Lists.{every, never_falls, strictly_rise}
use Rattle.sequences.specs.Laws.Lists.{both}
use Rattle.documents.specs.Checks.{offsets_hold_free, ids_hold, slices_hold, slices_hold_below}
use Rattle.documents.specs.Laws.Documents.{slices-apart, slices-below, slices-below-last}

-- ---- ids
pub ids_step : (o : Bool) (n : ℕ) (ids : List ℕ) (i : ℕ) → i < length ids → (o && ltb (get_or ids i 0) n && ids_hold n (drop (i + 1) ids)) ≡ (o && ids_hold n (drop i ids))
unfolding ids_hold
ids_step o n ids i h = rw (add-one i, drop-cons ids i 0 h) (and_assoc o (ltb (get_or ids i 0) n) (every (λ i. ltb i n) (drop (suc i) ids)))

pub ids-end : (o : Bool) (n : ℕ) (ids : List ℕ) (i : ℕ) (w : Bool) → i ≡ length ids → (o && ids_hold n (drop i ids)) ≡ w → o ≡ w
unfolding ids_hold
ids-end o n ids i w e h = sym (and-true o) ∙ rw (e, drop-length ids) at h

-- ---- offsets
pub offsets-none : (os : List ℕ) → length os ≡ 0 → false ≡ offsets_hold_free os
unfolding offsets_hold_free
offsets-none [] e = refl
offsets-none (x ∷ os) e = let z : ⊥ = omega arith in absurd z

pub offsets-some : (os : List ℕ) (r : Bool) → 0 < length os → r ≡ never_falls os → (eqb (get_or os 0 0) 0 && r) ≡ offsets_hold_free os
unfolding offsets_hold_free
offsets-some [] r h e = let z : ⊥ = omega arith in absurd z
offsets-some (x ∷ os) r h e = ap (λ b. eqb x 0 && b) e

-- a list from the place before i on
two : (l : List ℕ) (i : ℕ) → 1 ≤ i → i < length l → drop (i - 1) l ≡ get_or l (i - 1) 0 ∷ drop i l
two l i p h =
    let e : suc (i - 1) ≡ i = omega arith in
    drop-cons l (i - 1) 0 (omega arith) ∙ ap (λ k. get_or l (i - 1) 0 ∷ drop k l) e

never-falls-two : (l : List ℕ) (i : ℕ) → 1 ≤ i → i < length l → never_falls (drop (i - 1) l) ≡ (leb (get_or l (i - 1) 0) (get_or l i 0) && never_falls (drop i l))
never-falls-two l i p h = let d : drop i l ≡ get_or l i 0 ∷ drop (suc i) l = drop-cons l i 0 h in ap never_falls (two l i p h ∙ ap (λ r. get_or l (i - 1) 0 ∷ r) d) ∙ ap (λ r. leb (get_or l (i - 1) 0) (get_or l i 0) && never_falls r) (sym d)

rise-two : (l : List ℕ) (i : ℕ) → 1 ≤ i → i < length l → strictly_rise (drop (i - 1) l) ≡ (ltb (get_or l (i - 1) 0) (get_or l i 0) && strictly_rise (drop i l))
rise-two l i p h = let d : drop i l ≡ get_or l i 0 ∷ drop (suc i) l = drop-cons l i 0 h in ap strictly_rise (two l i p h ∙ ap (λ r. get_or l (i - 1) 0 ∷ r) d) ∙ ap (λ r. ltb (get_or l (i - 1) 0) (get_or l i 0) && strictly_rise r) (sym d)

-- the list from its last place on
one : (l : List ℕ) (i : ℕ) → 1 ≤ i → i ≡ length l → drop (i - 1) l ≡ get_or l (i - 1) 0 ∷ []
one l i p e =
    let s : suc (i - 1) ≡ length l = omega arith in
    drop-cons l (i - 1) 0 (omega arith) ∙ ap (λ k. get_or l (i - 1) 0 ∷ drop k l) s ∙ ap (λ r. get_or l (i - 1) 0 ∷ r) (drop-length l)

never-short : (os : List ℕ) → length os ≤ 1 → never_falls os ≡ true
never-short [] h = refl
never-short (a ∷ []) h = refl
never-short (a ∷ b ∷ os) h = let z : ⊥ = omega arith in absurd z

pub never-step : (o : Bool) (os : List ℕ) (i : ℕ) → 1 ≤ i → i < length os → (o && leb (get_or os (i - 1) 0) (get_or os i 0) && never_falls (drop (i + 1 - 1) os)) ≡ (o && never_falls (drop (i - 1) os))
never-step o os i p h =
    let z : i + 1 - 1 ≡ i = omega arith in
    rw z (and_assoc o (leb (get_or os (i - 1) 0) (get_or os i 0)) (never_falls (drop i os)) ∙ ap (λ b. o && b) (sym (never-falls-two os i p h)))

pub never-end : (o : Bool) (os : List ℕ) (i : ℕ) (w : Bool) → 1 ≤ i → length os ≤ i → (o && never_falls (drop (i - 1) os)) ≡ w → o ≡ w
never-end o os i w p h e =
    let few : length (drop (i - 1) os) ≤ 1 = simp length-drop (omega arith) in
    sym (and-true o) ∙ rw (never-short (drop (i - 1) os) few) at e

-- ---- terms
pub terms-none : (cs : List ℕ) (vs : List Float) → length cs ≡ 0 → length cs ≡ length vs → true ≡ slices_hold cs vs
terms-none [] [] h e = sym (slices-apart [] [] e)
terms-none [] (v ∷ vs) h e = let z : ⊥ = omega arith in absurd z
terms-none (c ∷ cs) vs h e = let z : ⊥ = omega arith in absurd z

swap : (a b c : Bool) → (a && (b && c)) ≡ (b && (a && c))
swap true b c = refl
swap false true c = refl
swap false false c = refl

-- the bound as the program tests it
abbrev pub tested : Float → Bool
tested v = le (neg (of_bits binary32 0x4f800000)) v && le v (of_bits binary32 0x4f800000)

pub terms-first : (cs : List ℕ) (vs : List Float) → 0 < length cs → length cs ≡ length vs → (tested (get_or vs 0 nan) && (strictly_rise (drop 0 cs) && every in_bound (drop 1 vs))) ≡ slices_hold cs vs
terms-first cs [] h e = let z : ⊥ = omega arith in absurd z
terms-first cs (v ∷ vs) h e = ap (λ t. t && (strictly_rise cs && every in_bound vs)) (in-bound-tests v) ∙ swap (in_bound v) (strictly_rise cs) (every in_bound vs) ∙ sym (slices-apart cs (v ∷ vs) e)

turn : (o g r s b : Bool) → (o && (g && r) && (s && b)) ≡ (o && ((r && s) && (g && b)))
turn false g r s b = refl
turn true true r true b = ap (λ x. x && b) (sym (and-true r))
turn true true true false b = refl
turn true true false false b = refl
turn true false true true b = refl
turn true false true false b = refl
turn true false false s b = refl

pub terms-step : (o : Bool) (cs : List ℕ) (vs : List Float) (i : ℕ) → 1 ≤ i → i < length cs → length cs ≡ length vs
    → (o && (tested (get_or vs i nan) && ltb (get_or cs (i - 1) 0) (get_or cs i 0)) && (strictly_rise (drop (i + 1 - 1) cs) && every in_bound (drop (i + 1) vs))) ≡ (o && (strictly_rise (drop (i - 1) cs) && every in_bound (drop i vs)))
terms-step o cs vs i p h e =
    let z : i + 1 - 1 ≡ i = omega arith in
    let g : i < length vs = omega arith in
    rw (z, add-one i, drop-cons vs i nan g, rise-two cs i p h, in-bound-tests (get_or vs i nan)) (turn o (in_bound (get_or vs i nan)) (ltb (get_or cs (i - 1) 0) (get_or cs i 0)) (strictly_rise (drop i cs)) (every in_bound (drop (suc i) vs)))

pub terms-end : (o : Bool) (cs : List ℕ) (vs : List Float) (i : ℕ) (w : Bool) → 1 ≤ i → i ≡ length cs → length cs ≡ length vs → (o && (strictly_rise (drop (i - 1) cs) && every in_bound (drop i vs))) ≡ w → o ≡ w
terms-end o cs vs i w p e l h =
    let r = one cs i p e in
    let d : drop i vs ≡ [] = ap (λ k. drop k vs) (e ∙ l) ∙ drop-length vs in
    sym (and-true o) ∙ sym (ap (λ r. o && (strictly_rise r && every in_bound (drop i vs))) r ∙ ap (λ t. o && every in_bound t) d) ∙ h

-- ---- terms in two parts
and_none : (b : Bool) → (b && false) ≡ false
and_none true = refl
and_none false = refl

every_front : {A : Type 0} (p : A → Bool) (f : ℕ) (xs : List A) → every p xs ≡ true → every p (take f xs) ≡ true
every_front p zero xs h = refl
every_front p (suc f) [] h = refl
every_front p (suc f) (x ∷ xs) h = let s = both (p x) (every p xs) h in rw (s.0, every_front p f xs s.1)

rise-front : (f : ℕ) (xs : List ℕ) → strictly_rise xs ≡ true → strictly_rise (take f xs) ≡ true
rise-front zero xs h = refl
rise-front (suc f) [] h = refl
rise-front (suc zero) (x ∷ xs) h = refl
rise-front (suc (suc f)) (x ∷ []) h = refl
rise-front (suc (suc f)) (x ∷ y ∷ xs) h = let s = both (ltb x y) (strictly_rise (y ∷ xs)) h in rw (s.0, rise-front (suc f) (y ∷ xs) s.1)

-- what follows from the whole adds nothing to it
idle : (a b : Bool) → (b ≡ true → a ≡ true) → (a && b) ≡ b
idle a true h = and-true a ∙ h refl
idle a false h = and_none a

every-parts : {A : Type 0} (p : A → Bool) (f b : ℕ) (xs : List A) → b ≤ f → (every p (take f xs) && every p (drop b xs)) ≡ every p xs
every-parts p f zero xs h = idle (every p (take f xs)) (every p xs) (every_front p f xs)
every-parts p zero (suc b) xs h = let z : ⊥ = omega arith in absurd z
every-parts p (suc f) (suc b) [] h = refl
every-parts p (suc f) (suc b) (x ∷ xs) h = and_assoc (p x) (every p (take f xs)) (every p (drop b xs)) ∙ ap (λ r. p x && r) (every-parts p f b xs (omega arith))

rise-parts : (f b : ℕ) (xs : List ℕ) → b < f → (strictly_rise (take f xs) && strictly_rise (drop b xs)) ≡ strictly_rise xs
rise-parts f zero xs h = idle (strictly_rise (take f xs)) (strictly_rise xs) (rise-front f xs)
rise-parts zero (suc b) xs h = let z : ⊥ = omega arith in absurd z
rise-parts (suc zero) (suc b) xs h = let z : ⊥ = omega arith in absurd z
rise-parts (suc (suc f)) (suc b) [] h = refl
rise-parts (suc (suc f)) (suc zero) (x ∷ []) h = refl
rise-parts (suc (suc f)) (suc (suc b)) (x ∷ []) h = refl
rise-parts (suc (suc f)) (suc b) (x ∷ y ∷ xs) h =
    and_assoc (ltb x y) (strictly_rise (take (suc f) (y ∷ xs))) (strictly_rise (drop b (y ∷ xs))) ∙ ap (λ r. ltb x y && r) (rise-parts (suc f) b (y ∷ xs) (omega arith))

cross : (a b c d : Bool) → ((a && b) && (c && d)) ≡ ((a && c) && (b && d))
cross true true c d = refl
cross true false true d = refl
cross true false false d = refl
cross false b c d = refl

-- two parts that share a term, and between them have all, hold if the whole does
terms-parts : (cs : List ℕ) (vs : List Float) (f b : ℕ) → length cs ≡ length vs → b < f → (slices_hold (take f cs) (take f vs) && slices_hold (drop b cs) (drop b vs)) ≡ slices_hold cs vs
terms-parts cs vs f b e h =
    let front : length (take f cs) ≡ length (take f vs) = length-take f cs ∙ ap (min f) e ∙ sym (length-take f vs) in
    let back : length (drop b cs) ≡ length (drop b vs) = length-drop b cs ∙ ap (λ n. n - b) e ∙ sym (length-drop b vs) in
    rw (slices-apart (take f cs) (take f vs) front, slices-apart (drop b cs) (drop b vs) back, slices-apart cs vs e)
    (cross (strictly_rise (take f cs)) (every in_bound (take f vs)) (strictly_rise (drop b cs)) (every in_bound (drop b vs))
    ∙ ap (λ r. r && (every in_bound (take f vs) && every in_bound (drop b vs))) (rise-parts f b cs h) ∙ ap (λ r. strictly_rise cs && r) (every-parts in_bound f b vs (omega arith)))

-- the front part of nine terms or more has all but the last seven at most
pub front_ends : (n : ℕ) → 9 ≤ n → ((n - 1) / 8 * 8 + 1 ≤ n) × (n - 9 < (n - 1) / 8 * 8 + 1)
front_ends n h = (omega arith, omega arith)

-- the two answers as the program has them: the back part is what is left from its start on
pub two-parts : (cs : List ℕ) (vs : List Float) (one two : Bool) → length cs ≡ length vs → 9 ≤ length cs
    → one ≡ slices_hold (take ((length cs - 1) / 8 * 8 + 1) cs) (take ((length cs - 1) / 8 * 8 + 1) vs)
    → two ≡ slices_hold (take (length cs - (length cs - 9)) (drop (length cs - 9) cs)) (take (length vs - (length cs - 9)) (drop (length cs - 9) vs))
    → (one && two) ≡ slices_hold cs vs
two-parts cs vs one two e h a b =
    rw (a, b, take_all (length cs - (length cs - 9)) (drop (length cs - 9) cs) (omega (arith, length-drop (length cs - 9) cs)), take_all (length vs - (length cs - 9)) (drop (length cs - 9) vs) (omega (arith, length-drop (length cs - 9) vs)))
    (terms-parts cs vs ((length cs - 1) / 8 * 8 + 1) (length cs - 9) e (front_ends (length cs) h).1)

-- ---- below a dimension, where the last component decides
pub below_none : (d : ℕ) (cs : List ℕ) (vs : List Float) → length cs ≡ 0 → slices_hold cs vs ≡ slices_hold_below d cs vs
below_none d [] vs e = sym (slices-below d [] vs ∙ and-true (slices_hold [] vs))
below_none d (c ∷ cs) vs e = let z : ⊥ = omega arith in absurd z

pub below_last : (d : ℕ) (cs : List ℕ) (vs : List Float) (hold : Bool) → hold ≡ slices_hold cs vs → 0 < length cs → (hold && ltb (get_or cs (length cs - 1) 0) d) ≡ slices_hold_below d cs vs
below_last d cs vs true e p = sym (slices-below-last d cs vs (sym e) p)
below_last d cs vs false e p = sym (slices-below d cs vs ∙ ap (λ b. b && every (λ c. ltb c d) cs) (sym e))
