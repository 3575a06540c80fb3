-- The dot product may be summed in the order of the page's terms, as both lists of terms rise.
use Rattle.std.specs.Prelude.{◌≡◌, refl, Bool, true, false, ℕ, suc, ◌≤◌, ◌<◌, eqb, ltb, pos, Float}
use Rattle.std.proofs.Common.{sym, ◌∙◌, arith, eq-eqb, ne_eqb, ltb-true, ltb-false, eqb-true}
use mathlib.Core.List.{List, [], ◌∷◌, ◌++◌, map, foldl}
use Rattle.std.proofs.lemmas.Bool.{eqb-false}
use Rattle.std.specs.Float.{fin, binary32}
use Rattle.std.specs.Float.Ieee.{add, mul}
use Rattle.sequences.specs.Lists.{strictly_rise}
use Rattle.sequences.specs.Laws.Lists.{both}
use Rattle.documents.specs.Documents.{Term, values_at, products, dot}

-- each component is at least n, and more than the one before it
abbrev pub Above : ℕ → List Term → Type 0
Above n [] = Unit {0}
Above n (t ∷ ts) = (n ≤ t.component) × Above (suc t.component) ts

pub above_of : (ts : List Term) → strictly_rise (map (λ t. t.component) ts) ≡ true → Above 0 ts
above_of [] h = tt
above_of (t ∷ []) h = (omega arith, tt)
above_of (t ∷ u ∷ ts) h =
    let b = both (ltb t.component u.component) (strictly_rise (u.component ∷ map (λ t. t.component) ts)) h in
    let r = above_of (u ∷ ts) b.1 in
    (omega arith, (ltb-true t.component u.component b.0, r.1))

-- a component below all of them is not there
pub values-none : (n : ℕ) (ts : List Term) (c : ℕ) → Above n ts → c < n → values_at c ts ≡ []
values-none n [] c a h = refl
values-none n (t ∷ ts) c a h = rw (ne_eqb t.component c (λ e. omega arith)) (values-none (suc t.component) ts c a.1 (omega arith))

abbrev plus : Float → List Float → Float
plus x ys = foldl (add binary32) x ys

-- the products of one term of the query, and of one term of the page
abbrev of_query : List Term → Term → List Float
of_query ts q = map (λ v. mul binary32 v q.value) (values_at q.component ts)

abbrev pub of_page : List Term → Term → List Float
of_page query t = map (λ w. mul binary32 t.value w) (values_at t.component query)

-- by the query's terms, and by the page's
abbrev scored_from : Float → List Term → List Term → Float
scored_from x [] ts = x
scored_from x (q ∷ query) ts = scored_from (plus x (of_query ts q)) query ts

abbrev pub walked_from : Float → List Term → List Term → Float
walked_from x query [] = x
walked_from x query (t ∷ ts) = walked_from (plus x (of_page query t)) query ts

plus-append : (x : Float) (ys zs : List Float) → plus x (ys ++ zs) ≡ plus (plus x ys) zs
plus-append x [] zs = refl
plus-append x (y ∷ ys) zs = plus-append (add binary32 x y) ys zs

scored-is : (x : Float) (query ts : List Term) → scored_from x query ts ≡ plus x (products query ts)
scored-is x [] ts = refl
scored-is x (q ∷ query) ts = scored-is (plus x (of_query ts q)) query ts ∙ sym (plus-append x (of_query ts q) (products query ts))

scored-none : (x : Float) (query : List Term) → x ≡ scored_from x query []
scored-none x [] = refl
scored-none x (q ∷ query) = scored-none x query

-- the page's first term may be added first
module _ (t : Term) (ts : List Term) (above : Above (suc t.component) ts) where
  abbrev Pulls : List Term → Type 0
  Pulls query = (x : Float) → scored_from (plus x (of_page query t)) query ts ≡ scored_from x query (t ∷ ts)

  pull-at : (q : Term) (query : List Term) → Above (suc q.component) query → Pulls query
      → (b : Bool) → ltb q.component t.component ≡ b → (d : Bool) → eqb q.component t.component ≡ d → Pulls (q ∷ query)
  pull-at q query a ih true e d f x =
      let l : q.component < t.component = ltb-true q.component t.component e in
      let z = values-none (suc t.component) ts q.component above (omega arith) in
      rw (ne_eqb q.component t.component (λ g. omega arith), ne_eqb t.component q.component (λ g. omega arith), z) (ih x)
  pull-at q query a ih false e true f x =
      let l : q.component ≡ t.component = eqb-true q.component t.component f in
      let z = values-none (suc t.component) ts q.component above (omega arith) in
      let y = values-none (suc q.component) query t.component a (omega arith) in
      rw (eq-eqb q.component t.component l, eq-eqb t.component q.component (sym l), z, y) (rw y at (ih (add binary32 x (mul binary32 t.value q.value))))
  pull-at q query a ih false e false f x =
      let l : t.component ≤ q.component = ltb-false q.component t.component e in
      let m : q.component ≡ t.component → ⊥ = eqb-false q.component t.component f in
      let y = values-none (suc q.component) query t.component a (omega arith) in
      rw (ne_eqb q.component t.component m, ne_eqb t.component q.component (λ g. omega arith), y) (rw y at (ih (plus x (of_query ts q))))

  pull : (n : ℕ) (query : List Term) → Above n query → Pulls query
  pull n [] a x = refl
  pull n (q ∷ query) a x = pull-at q query a.1 (pull (suc q.component) query a.1) (ltb q.component t.component) refl (eqb q.component t.component) refl x

walk-is-score : (x : Float) (m n : ℕ) (query ts : List Term) → Above n query → Above m ts → walked_from x query ts ≡ scored_from x query ts
walk-is-score x m n query [] a b = scored-none x query
walk-is-score x m n query (t ∷ ts) a b = walk-is-score (plus x (of_page query t)) (suc t.component) n query ts a b.1 ∙ pull t ts b.1 n query a x

pub walked-is-dot : (query ts : List Term) → Above 0 query → Above 0 ts → walked_from (fin false 0 (pos 0)) query ts ≡ dot query ts
unfolding dot
walked-is-dot query ts a b = walk-is-score (fin false 0 (pos 0)) 0 0 query ts a b ∙ scored-is (fin false 0 (pos 0)) query ts
