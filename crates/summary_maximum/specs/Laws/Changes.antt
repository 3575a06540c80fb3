-- Laws of Changes: one more term changes the maximum of its own component alone; and lists that are changed at one place.
use Rattle.std.specs.Prelude.{ℕ, zero, suc, ◌+◌, ◌<◌, ◌≡◌, refl, Bool, true, false, ◌||◌, cond, length, get_or, drop, set, eqb, Float}
use Rattle.std.proofs.Common.{arith, add-one, sym, ap, ◌∙◌, true≢false, eq-eqb, ne_eqb, eqb-true}
use mathlib.Core.List.{List, [], ◌∷◌, ◌++◌, map, map-append, foldl-append}
use Rattle.std.specs.Float.{nan}
use Rattle.std.specs.Float.Ieee.{lt}
use Rattle.std.proofs.lemmas.Bool.{eqb-false}
use Rattle.sequences.specs.Lists.{among, with_key}
use Rattle.sequences.specs.Laws.Groups.{those-append, none-with}
use Rattle.documents.specs.Documents.{Term, values_at}
use Rattle.summary_maximum.specs.Maximum.{maximum}
use Rattle.summary_maximum.specs.Changes.{components, maximum_of}

-- ---- one more term changes its own component alone
values-more : (c : ℕ) (ts : List Term) (t : Term) → values_at c (ts ++ (t ∷ [])) ≡ values_at c ts ++ cond (eqb t.component c) (t.value ∷ []) []
values-more c ts t =
    ap (map (λ t. t.value)) (those-append (λ t. eqb t.component c) ts (t ∷ []))
    ∙ map-append (λ t. t.value) (with_key (λ t. t.component) c ts) (with_key (λ t. t.component) c (t ∷ []))
    ∙ go (eqb t.component c)
  where
    go : (b : Bool) → values_at c ts ++ map (λ t. t.value) (cond b (t ∷ []) []) ≡ values_at c ts ++ cond b (t.value ∷ []) []
    go true = refl
    go false = refl

module _ (ts : List Term) (t : Term) where
  pub maximum-other : (c : ℕ) → (t.component ≡ c → ⊥) → maximum_of (ts ++ (t ∷ [])) c ≡ maximum_of ts c
  maximum-other c n = ap maximum (values-more c ts t ∙ ap (λ b. values_at c ts ++ cond b (t.value ∷ []) []) (ne_eqb t.component c n) ∙ append-none (values_at c ts))
    where
      append-none : (l : List Float) → l ++ [] ≡ l
      append-none [] = refl
      append-none (x ∷ l) = ap (λ z. x ∷ z) (append-none l)

  values-here : values_at t.component (ts ++ (t ∷ [])) ≡ values_at t.component ts ++ (t.value ∷ [])
  values-here = values-more t.component ts t ∙ ap (λ b. values_at t.component ts ++ cond b (t.value ∷ []) []) (eq-eqb t.component t.component refl)

  -- a first value stands
  pub maximum-first : among t.component (components ts) ≡ false → maximum_of (ts ++ (t ∷ [])) t.component ≡ t.value
  maximum-first n = ap maximum (values-here ∙ ap (λ l. map (λ t. t.value) l ++ (t.value ∷ [])) (none-with (λ t. t.component) t.component ts n))

  -- a later one takes its place where it is greater
  pub maximum-later : among t.component (components ts) ≡ true → maximum_of (ts ++ (t ∷ [])) t.component ≡ cond (lt (maximum_of ts t.component) t.value) t.value
      (maximum_of ts t.component)
  maximum-later a = ap maximum values-here ∙ go (values_at t.component ts) (some ts a)
    where
      some : (ts : List Term) → among t.component (components ts) ≡ true → 0 < length (values_at t.component ts)
      some [] h = absurd (true≢false (sym h))
      some (u ∷ ts) h = at (eqb t.component u.component) refl h (some ts)
        where
          at : (b : Bool) → eqb t.component u.component ≡ b → (b || among t.component (components ts)) ≡ true → (among t.component (components ts) ≡ true
              → 0 < length (values_at t.component ts)) → 0 < length (values_at t.component (u ∷ ts))
          at true e h f = rw (eq-eqb u.component t.component (sym (eqb-true t.component u.component e))) (omega arith)
          at false e h f = rw (ne_eqb u.component t.component (λ g. eqb-false t.component u.component e (sym g))) (f h)

      go : (vs : List Float) → 0 < length vs → maximum (vs ++ (t.value ∷ [])) ≡ cond (lt (maximum vs) t.value) t.value (maximum vs)
      go [] h = let z : ⊥ = omega arith in absurd z
      go (v ∷ vs) h = foldl-append (λ m x. cond (lt m x) x m) v vs (t.value ∷ [])

-- ---- lists that are changed at one place
pub map_same : (f g : ℕ → Float) (l : List ℕ) → ((k : ℕ) → k < length l → g (get_or l k 0) ≡ f (get_or l k 0)) → map g l ≡ map f l
map_same f g [] h = refl
map_same f g (x ∷ l) h = ap (λ v. v ∷ map g l) (h 0 (omega arith)) ∙ ap (λ z. f x ∷ z) (map_same f g l (λ k p. h (suc k) (omega arith)))

pub map-one : (f g : ℕ → Float) (l : List ℕ) (k : ℕ) → k < length l → ((j : ℕ) → j < length l → (j ≡ k → ⊥) → g (get_or l j 0) ≡ f (get_or l j 0)) → map g l ≡ set (map f l) k (g (get_or l k 0))
map-one f g [] k p h = let z : ⊥ = omega arith in absurd z
map-one f g (x ∷ l) zero p h = ap (λ z. g x ∷ z) (map_same f g l (λ k q. h (suc k) (omega arith) (λ e. omega arith)))
map-one f g (x ∷ l) (suc k) p h = ap (λ v. v ∷ map g l) (h 0 (omega arith) (λ e. omega arith)) ∙ ap (λ z. f x ∷ z) (map-one f g l k (omega arith) (λ j q n. h (suc j) (omega arith)
    (λ e. n (omega arith))))

-- the place past a front that replaced as many
set_past : {A : Type 0} (x : A) (front l : List A) → length front < length l → set (front ++ drop (length front) l) (length front) x ≡ (front ++ (x ∷ [])) ++ drop (suc (length front)) l
set_past x [] [] h = let z : ⊥ = omega arith in absurd z
set_past x [] (y ∷ l) h = refl
set_past x (y ∷ front) [] h = let z : ⊥ = omega arith in absurd z
set_past x (y ∷ front) (z ∷ l) h = ap (λ r. y ∷ r) (set_past x front l (omega arith))

pub set_next : {A : Type 0} (front l : List A) (n : ℕ) (x : A) → n ≡ length front → n < length l → set (front ++ drop n l) n x ≡ (front ++ (x ∷ [])) ++ drop (n + 1) l
set_next front l n x e h = rw (e, add-one (length front)) (set_past x front l (omega arith))

pub get_d_map : (f : ℕ → Float) (l : List ℕ) (k : ℕ) → k < length l → get_or (map f l) k nan ≡ f (get_or l k 0)
get_d_map f [] k h = let z : ⊥ = omega arith in absurd z
get_d_map f (x ∷ l) zero h = refl
get_d_map f (x ∷ l) (suc k) h = get_d_map f l k (omega arith)
