-- The numbers of a list, each once, as they are first met.
use Rattle.std.specs.Prelude.{ℕ, zero, suc, ◌+◌, ◌≤◌, ◌<◌, ◌≡◌, refl, Bool, true, false, not, ◌||◌, cond, length, get_or, eqb}
use Rattle.std.proofs.Common.{arith, sym, ap, ◌∙◌, subst, true≢false, lt-ltb, le-ltb, eq-eqb, ne_eqb, eqb-true}
use mathlib.Core.List.Permᴰ
use mathlib.Core.List.{List, [], ◌∷◌, ◌++◌, Permᴰ, append-nil}
use Rattle.std.proofs.lemmas.Bool.{eqb-false}
use Rattle.sequences.specs.Lists.{those, among, put_once, rising}
use Rattle.sequences.specs.Groups.{RisesFrom}
use Rattle.sequences.specs.Laws.Groups.{Against, less, same, more, against, rising-rises, among-rising, those-append}
use Rattle.sequences.specs.Laws.Lists.{permuted-length, or-second}

abbrev pub but : ℕ → ℕ → Bool
but c k = not (eqb k c)

unfoldable pub firsts : List ℕ → List ℕ
firsts [] = []
firsts (c ∷ cs) = c ∷ those (but c) (firsts cs)

-- ---- they are the numbers of the list
among-but-other : (m c : ℕ) (l : List ℕ) → (m ≡ c → ⊥) → among m (those (but c) l) ≡ among m l
among-but-other m c [] n = refl
among-but-other m c (x ∷ l) n = go (eqb x c) refl (among-but-other m c l n)
  where
    go : (b : Bool) → eqb x c ≡ b → among m (those (but c) l) ≡ among m l → among m (cond (not b) (x ∷ those (but c) l) (those (but c) l)) ≡ (eqb m x || among m l)
    go true e i = let z = ne_eqb m x (λ f. n (f ∙ eqb-true x c e)) in i ∙ sym (ap (λ t. t || among m l) z)
    go false e i = ap (λ t. eqb m x || t) i

pub among-firsts : (m : ℕ) (l : List ℕ) → among m (firsts l) ≡ among m l
unfolding firsts
among-firsts m [] = refl
among-firsts m (c ∷ cs) = go (eqb m c) refl (among-firsts m cs)
  where
    go : (b : Bool) → eqb m c ≡ b → among m (firsts cs) ≡ among m cs → (b || among m (those (but c) (firsts cs))) ≡ (b || among m cs)
    go true e i = refl
    go false e i = among-but-other m c (firsts cs) (eqb-false m c e) ∙ i

-- ---- one more at the end
but-self : (c : ℕ) (l : List ℕ) → those (but c) (l ++ (c ∷ [])) ≡ those (but c) l
but-self c l = those-append (but c) l (c ∷ []) ∙ ap (λ t. those (but c) l ++ cond (not t) (c ∷ []) []) (eq-eqb c c refl) ∙ append-nil (those (but c) l)

but-other : (x c : ℕ) (l : List ℕ) → (c ≡ x → ⊥) → those (but x) (l ++ (c ∷ [])) ≡ those (but x) l ++ (c ∷ [])
but-other x c l n = those-append (but x) l (c ∷ []) ∙ ap (λ t. those (but x) l ++ cond (not t) (c ∷ []) []) (ne_eqb c x n)

pub firsts_more : (l : List ℕ) (c : ℕ) → firsts (l ++ (c ∷ [])) ≡ cond (among c l) (firsts l) (firsts l ++ (c ∷ []))
unfolding firsts
firsts_more [] c = refl
firsts_more (x ∷ l) c = ap (λ z. x ∷ those (but x) z) (firsts_more l c) ∙ go (eqb c x) refl (among c l)
  where
    go : (b : Bool) → eqb c x ≡ b → (m : Bool) → (x ∷ those (but x) (cond m (firsts l) (firsts l ++ (c ∷ [])))) ≡ cond (b || m) (x ∷ those (but x) (firsts l)) ((x ∷ those (but x) (firsts l))
        ++ (c ∷ []))
    go true e true = refl
    go true e false = ap (λ z. x ∷ those (but x) (firsts l ++ (z ∷ []))) (eqb-true c x e) ∙ ap (λ z. x ∷ z) (but-self x (firsts l))
    go false e true = refl
    go false e false = ap (λ z. x ∷ z) (but-other x c (firsts l) (eqb-false c x e))

-- ---- and so a permutation of the rising ones
but-none : (c b : ℕ) (l : List ℕ) → c < b → RisesFrom b l → those (but c) l ≡ l
but-none c b [] h r = refl
but-none c b (x ∷ l) h r =
    ap (λ t. cond (not t) (x ∷ those (but c) l) (those (but c) l)) (ne_eqb x c (λ e. omega (arith, r.0)))
    ∙ ap (λ z. x ∷ z) (but-none c (suc x) l (omega (arith, r.0)) r.1)

put-permutes : (b c : ℕ) (l : List ℕ) → RisesFrom b l → Permᴰ (c ∷ those (but c) l) (put_once c l)
unfolding put_once
put-permutes b c [] r = Permᴰ.refl (c ∷ [])
put-permutes b c (x ∷ l) r = go (against c x) (put-permutes (suc x) c l r.1)
  where
    go : Against c x → Permᴰ (c ∷ those (but c) l) (put_once c l) → Permᴰ (c ∷ those (but c) (x ∷ l)) (put_once c (x ∷ l))
    go (less h) i = rw (lt-ltb c x h, but-none c x (x ∷ l) h (omega arith, r.1)) (Permᴰ.refl (c ∷ x ∷ l))
    go (same h) i = rw (le-ltb c x (omega arith), eq-eqb c x h, eq-eqb x c (sym h), but-none c (suc x) l (omega arith) r.1, h) (Permᴰ.refl (x ∷ l))
    go (more h) i =
        rw (le-ltb c x (omega arith), ne_eqb c x (λ e. omega arith), ne_eqb x c (λ e. omega arith))
        (Permᴰ.trans (Permᴰ.swap refl refl) (Permᴰ.cons refl i))

those-permutes : (p : ℕ → Bool) {l m : List ℕ} → Permᴰ l m → Permᴰ (those p l) (those p m)
those-permutes p Permᴰ.nil = Permᴰ.nil
those-permutes p (Permᴰ.cons {a = a} {b = b} {l₁ = l} {l₂ = m} e d) = subst (λ z. Permᴰ (those p (a ∷ l)) (those p (z ∷ m))) e (go (p a) (those-permutes p d))
  where
    go : (t : Bool) → Permᴰ (those p l) (those p m) → Permᴰ (cond t (a ∷ those p l) (those p l)) (cond t (a ∷ those p m) (those p m))
    go true i = Permᴰ.cons refl i
    go false i = i
those-permutes p (Permᴰ.swap {a = a} {b = b} {a' = a'} {b' = b'} {l = l} e f) =
    subst (λ z. Permᴰ (those p (a ∷ b ∷ l)) (those p (z ∷ b' ∷ l))) f (subst (λ z. Permᴰ (those p (a ∷ b ∷ l)) (those p (b ∷ z ∷ l))) e (go (p a) (p b)))
  where
    go : (s t : Bool) → Permᴰ (cond s (a ∷ cond t (b ∷ those p l) (those p l)) (cond t (b ∷ those p l) (those p l))) (cond t (b ∷ cond s (a ∷ those p l) (those p l)) (cond s (a
        ∷ those p l) (those p l)))
    go true true = Permᴰ.swap refl refl
    go true false = Permᴰ.refl (a ∷ those p l)
    go false true = Permᴰ.refl (b ∷ those p l)
    go false false = Permᴰ.refl (those p l)
those-permutes p (Permᴰ.trans d e) = Permᴰ.trans (those-permutes p d) (those-permutes p e)

pub firsts-permute : (l : List ℕ) → Permᴰ (firsts l) (rising l)
unfolding firsts rising
firsts-permute [] = Permᴰ.nil
firsts-permute (c ∷ cs) = Permᴰ.trans (Permᴰ.cons refl (those-permutes (but c) (firsts-permute cs))) (put-permutes 0 c (rising cs) (rising-rises cs))

-- ---- numbers below n are at most n, each counted once
abbrev pub Below : ℕ → List ℕ → Type 0
Below n l = (m : ℕ) → among m l ≡ true → m < n

rises-count : (n b : ℕ) (l : List ℕ) → RisesFrom b l → b ≤ n → Below n l → b + length l ≤ n
rises-count n b [] r h f = omega arith
rises-count n b (x ∷ l) r h f =
    let x< : x < n = f x (ap (λ t. t || among x l) (eq-eqb x x refl)) in
    let i : suc x + length l ≤ n = rises-count n (suc x) l r.1 x< (λ m e. f m (or-second (eqb m x) e)) in
    omega (arith, r.0)

pub firsts-count : (n : ℕ) (l : List ℕ) → Below n l → length (firsts l) ≤ n
firsts-count n l f =
    let e : length (firsts l) ≡ length (rising l) = permuted-length (firsts-permute l) in
    let i : 0 + length (rising l) ≤ n = rises-count n 0 (rising l) (rising-rises l) (omega arith) (λ m h. f m (sym (among-rising m l) ∙ h)) in
    omega arith

-- ---- where a number stands
pub record PlaceOf (c : ℕ) (l : List ℕ) : Type 0 where
  pub place : ℕ
  pub within : place < length l
  pub stands : get_or l place 0 ≡ c

pub place-among : (c : ℕ) (l : List ℕ) → among c l ≡ true → PlaceOf c l
place-among c [] h = absurd (true≢false (sym h))
place-among c (x ∷ l) h = go (eqb c x) refl h (place-among c l)
  where
    go : (b : Bool) → eqb c x ≡ b → (b || among c l) ≡ true → (among c l ≡ true → PlaceOf c l) → PlaceOf c (x ∷ l)
    go true e h f = record { place = 0; within = omega arith; stands = sym (eqb-true c x e) }
    go false e h f = let p = f h in record { place = suc p.place; within = omega (arith, p.within); stands = p.stands }

pub among-place : (l : List ℕ) (k : ℕ) → k < length l → among (get_or l k 0) l ≡ true
among-place [] k h = let z : ⊥ = omega arith in absurd z
among-place (x ∷ l) zero h = ap (λ t. t || among x l) (eq-eqb x x refl)
among-place (x ∷ l) (suc k) h = or-second (eqb (get_or l k 0) x) (among-place l k (omega arith))
