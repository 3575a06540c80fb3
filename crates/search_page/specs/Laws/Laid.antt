-- With the query laid out in a table, each term of a page adds its product or a zero, which changes nothing.
use Rattle.std.specs.Prelude.{◌≡◌, ◌⊎◌, Bool, true, false, cond, ℕ, suc, ◌<◌, ◌%◌, length, set, replicate, T, eqb, Float}
use Rattle.std.proofs.Math.Path.{refl, ap}
use Rattle.std.proofs.Common.{sym, ◌∙◌, subst, inl, inr, mod-eq_of_lt, arith, lt-ltb, ltb-true, eqb-true, length-set, get_or-set_same, get_or-set_other}
use mathlib.Core.List.{List, [], ◌∷◌, foldl, zip_with}
use Rattle.std.proofs.lemmas.Bool.{eqb-false}
use Rattle.std.proofs.Math.ListN.{get_or}
use Rattle.std.proofs.lemmas.List.{length-replicate, get_or-replicate}
use Rattle.std.proofs.Math.Dec.{ltb}
use Rattle.std.specs.Float.Ieee.{nan, binary32, fits, add, mul}
use Rattle.std.specs.Float.{inf, fin}
use Rattle.std.specs.Float.Ieee.Fits.{add-fits, mul-fits}
use Rattle.std.specs.Float.Ieee.Scale.{finite}
use Rattle.sequences.specs.Lists.{every, last_or}
use Rattle.sequences.specs.Laws.Lists.{both}
use Rattle.float32.specs.Bound.{in_bound}
use Rattle.float32.specs.Units.{negative}
use Rattle.float32.specs.Laws.Comparisons.{zero_of}
use Rattle.documents.specs.Documents.{Term, term, paired, values_at}
use Rattle.search_page.specs.Laws.Score.{Above, of_page, walked_from, values-none}
use Rattle.search_page.specs.Through.{laying, laid_sum}
use Rattle.search_page.specs.Laws.Through.{table_of}
use Rattle.search_page.specs.Laws.Zeros.{zero-product, add-zero, stays-off}

-- ---- what stands at a place of the table
-- the last weight laid there, if any
lay_at : (table : List Float) (qs : List ℕ) (ws : List Float) (c : ℕ) → length table ≡ 32768 → c < 32768
    → get_or (laying table qs ws) c nan ≡ last_or (get_or table c nan) (values_at c (paired qs ws))
unfolding laying paired zip_with
lay_at table [] ws c e l = refl
lay_at table (q ∷ qs) [] c e l = refl
lay_at table (q ∷ qs) (w ∷ ws) c e l = at (eqb q c) refl (λ other f. lay_at other qs ws c f l)
  where
    Rest : Type 0
    Rest = (other : List Float) → length other ≡ 32768 → get_or (laying other qs ws) c nan ≡ last_or (get_or other c nan) (values_at c (paired qs ws))

    keeps : (b : Bool) → length (cond b (set table q w) table) ≡ 32768
    keeps true = length-set table q w ∙ e
    keeps false = e

    same : (b : Bool) → (q ≡ c → ⊥) → get_or (cond b (set table q w) table) c nan ≡ get_or table c nan
    same true n = get_or-set_other table q c w nan (λ f. n (sym f))
    same false n = refl

    at : (b : Bool) → eqb q c ≡ b → Rest → get_or (laying (cond (ltb q 32768) (set table q w) table) qs ws) c nan ≡ last_or (get_or table c nan) (values_at c (term q w ∷ paired qs ws))
    at true f rest =
        let g : q ≡ c = eqb-true q c f in
        let m : q < length table = omega arith in
        rw (f, lt-ltb q 32768 (omega arith))
        (rest (set table q w) (length-set table q w ∙ e)
        ∙ ap (λ d. last_or d (values_at c (paired qs ws))) (ap (λ k. get_or (set table q w) k nan) (sym g) ∙ get_or-set_same table q w nan m))
    at false f rest =
        rw f
        (rest (cond (ltb q 32768) (set table q w) table) (keeps (ltb q 32768))
        ∙ ap (λ d. last_or d (values_at c (paired qs ws))) (same (ltb q 32768) (eqb-false q c f)))

table_at : (qs : List ℕ) (ws : List Float) (c : ℕ) → c < 32768 → get_or (table_of qs ws) (c % 32768) nan ≡ last_or (zero_of false) (values_at c (paired qs ws))
unfolding table_of
table_at qs ws c l =
    ap (λ k. get_or (table_of qs ws) k nan) (mod-eq_of_lt l)
    ∙ lay_at (replicate 32768 (zero_of false)) qs ws c (length-replicate {A = Float} 32768 (zero_of false)) l
    ∙ ap (λ d. last_or d (values_at c (paired qs ws))) (get_or-replicate 32768 c (zero_of false) nan l)

-- rising terms have a component once at most
at-most-once : (n : ℕ) (ts : List Term) (c : ℕ) → Above n ts → (values_at c ts ≡ []) ⊎ ((w : Float) × (values_at c ts ≡ w ∷ []))
at-most-once n [] c a = inl refl
at-most-once n (t ∷ ts) c a = at (eqb t.component c) refl (at-most-once (suc t.component) ts c a.1)
  where
    at : (b : Bool) → eqb t.component c ≡ b → (values_at c ts ≡ []) ⊎ ((w : Float) × (values_at c ts ≡ w ∷ [])) → (values_at c (t ∷ ts) ≡ []) ⊎ ((w : Float) × (values_at c (t ∷ ts) ≡ w ∷ []))
    at true e r =
        let f : t.component ≡ c = eqb-true t.component c e in
        inr (t.value, rw e (ap (λ ys. t.value ∷ ys) (values-none (suc t.component) ts c a.1 (omega arith))))
    at false e r = rw e r

-- ---- a sum on its way: a value of the format, and not -0
abbrev Fine : Float → Type 0
Fine x = T (fits binary32 x) × (x ≡ zero_of true → ⊥)

bound-finite : (v : Float) → in_bound v ≡ true → T (finite v)
unfolding in_bound
bound-finite nan h = subst T (sym h) tt
bound-finite (inf s) h = subst T (sym h) tt
bound-finite (fin s m e) h = tt

module _ (qs : List ℕ) (ws : List Float) (rise : Above 0 (paired qs ws)) where
  abbrev plus : Float → List Float → Float
  plus x ys = foldl (add binary32) x ys

  term-right : (c : ℕ) (v x : Float) → c < 32768 → T (finite v) → Fine x
      → add binary32 x (mul binary32 v (get_or (table_of qs ws) (c % 32768) nan)) ≡ plus x (of_page (paired qs ws) (term c v))
  term-right c v x l f fine = ap (λ w. add binary32 x (mul binary32 v w)) (table_at qs ws c l) ∙ elim (at-most-once 0 (paired qs ws) c rise) [ inl e ↦ none e | inr p ↦ some p.0 p.1 ]
    where
      none : values_at c (paired qs ws) ≡ [] → add binary32 x (mul binary32 v (last_or (zero_of false) (values_at c (paired qs ws)))) ≡ plus x (of_page (paired qs ws) (term c v))
      none e = rw e (ap (add binary32 x) (zero-product v f) ∙ add-zero x (negative v) fine.0 fine.1)

      some : (w : Float) → values_at c (paired qs ws) ≡ w ∷ [] → add binary32 x (mul binary32 v (last_or (zero_of false) (values_at c (paired qs ws)))) ≡ plus x (of_page (paired qs ws) (term c v))
      some w e = rw e

  stays-fine : (x y w : Float) → Fine x → Fine (add binary32 x (mul binary32 y w))
  stays-fine x y w fine = (add-fits binary32 x (mul binary32 y w), stays-off x (mul binary32 y w) fine.0 (mul-fits binary32 y w) fine.1)

  pub laid-right : (cs : List ℕ) (vs : List Float) (x : Float) → every (λ c. ltb c 32768) cs ≡ true → every in_bound vs ≡ true → Fine x
      → laid_sum (table_of qs ws) cs vs x ≡ walked_from x (paired qs ws) (paired cs vs)
  unfolding laid_sum paired zip_with
  laid-right [] vs x b h fine = refl
  laid-right (c ∷ cs) [] x b h fine = refl
  laid-right (c ∷ cs) (v ∷ vs) x b h fine =
      let p = both (ltb c 32768) (every (λ c. ltb c 32768) cs) b in
      let q = both (in_bound v) (every in_bound vs) h in
      let w = get_or (table_of qs ws) (c % 32768) nan in
      laid-right cs vs (add binary32 x (mul binary32 v w)) p.1 q.1 (stays-fine x v w fine)
      ∙ ap (λ y. walked_from y (paired qs ws) (paired cs vs)) (term-right c v x (ltb-true c 32768 p.0) (bound-finite v q.0) fine)

pub fine-start : Fine (zero_of false)
unfolding fits
fine-start = (tt, λ e. subst (λ z. T (negative z)) (sym e) tt)
