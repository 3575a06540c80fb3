-- Terms that hold: each value is bounded, each component has one value at most, and a dot product of two such lists is a number.
use Rattle.std.specs.Prelude.{ℕ, ◌*◌, ◌^◌, ◌≤◌, ◌<◌, ◌≡◌, refl, Bool, true, false, not, cond, List, [], ◌∷◌, map, length, T, ltb, eqb, Float}
use Rattle.std.proofs.Common.{arith, sym, ap, ◌∙◌, subst, ltb-true, eqb-true, ne_eqb}
use Rattle.std.specs.Float.{binary32}
use Rattle.std.specs.Float.Ieee.{mul, is_nan}
use Rattle.std.specs.Float.Ieee.Scale.{finite}
use Rattle.float32.specs.Bound.{in_bound}
use Rattle.float32.specs.Sums.{Within}
use Rattle.float32.specs.Laws.Sums.{product-within}
use Rattle.float32.specs.Laws.LongSums.{score-no-nan, score-finite}
use Rattle.sequences.specs.Lists.{EachOf, every, with_key, strictly_rise}
use Rattle.sequences.specs.Laws.Lists.{both, every-each}
use Rattle.sequences.specs.Laws.Each.{each-those, each_append}
use Rattle.documents.specs.Documents.{Term, paired, values_at, products, dot}
use Rattle.documents.specs.Checks.{terms_hold, slices_hold}

-- ---- values
pub slices-bound : (cs : List ℕ) (vs : List Float) → slices_hold cs vs ≡ true → every (λ t. in_bound t.value) (paired cs vs) ≡ true
unfolding slices_hold terms_hold
slices-bound cs vs h =
    (both (strictly_rise (map (λ t. t.component) (paired cs vs))) (every (λ t. in_bound t.value) (paired cs vs))
    (both (eqb (length cs) (length vs)) (terms_hold (paired cs vs)) h).1).1

abbrev AllBounded : List Term → Type 0
AllBounded ts = EachOf (λ t. in_bound t.value ≡ true) ts

-- ---- one value at most for each component
none-at : (c : ℕ) (ts : List Term) → strictly_rise (c ∷ map (λ t. t.component) ts) ≡ true → with_key (λ t. t.component) c ts ≡ []
none-at c ts h = go c ts (later c ts h)
  where
    later : (c : ℕ) (ts : List Term) → strictly_rise (c ∷ map (λ t. t.component) ts) ≡ true → EachOf (λ t. c < t.component) ts
    later c [] h = tt
    later c (t ∷ ts) h =
        let b = both (ltb c t.component) (strictly_rise (t.component ∷ map (λ t. t.component) ts)) h in
        let l : c < t.component = ltb-true c t.component b.0 in
        (l, weaker ts l (later t.component ts b.1))
      where
        weaker : (us : List Term) → c < t.component → EachOf (λ u. t.component < u.component) us → EachOf (λ u. c < u.component) us
        weaker [] l e = tt
        weaker (u ∷ us) l e = (omega (arith, e.0), weaker us l e.1)

    go : (c : ℕ) (ts : List Term) → EachOf (λ t. c < t.component) ts → with_key (λ t. t.component) c ts ≡ []
    go c [] e = refl
    go c (t ∷ ts) e =
        ap (λ b. cond b (t ∷ with_key (λ t. t.component) c ts) (with_key (λ t. t.component) c ts)) (ne_eqb t.component c (λ f. omega (arith, e.0)))
        ∙ go c ts e.1

pub one_value : (c : ℕ) (ts : List Term) → strictly_rise (map (λ t. t.component) ts) ≡ true → length (values_at c ts) ≤ 1
one_value c [] h = omega arith
one_value c (t ∷ ts) h = go (eqb t.component c) refl (one_value c ts (rest ts h))
  where
    rest : (ts : List Term) → strictly_rise (t.component ∷ map (λ t. t.component) ts) ≡ true → strictly_rise (map (λ t. t.component) ts) ≡ true
    rest [] h = refl
    rest (u ∷ ts) h = (both (ltb t.component u.component) (strictly_rise (u.component ∷ map (λ t. t.component) ts)) h).1

    go : (b : Bool) → eqb t.component c ≡ b → length (values_at c ts) ≤ 1 → length (map (λ t. t.value) (cond b (t ∷ with_key (λ t. t.component) c ts) (with_key (λ t. t.component) c ts))) ≤ 1
    go true e i =
        let z : with_key (λ t. t.component) c ts ≡ [] = subst (λ k. with_key (λ t. t.component) k ts ≡ []) (eqb-true t.component c e) (none-at t.component ts h) in
        subst (λ l. length (map (λ t. t.value) (t ∷ l)) ≤ 1) (sym z) (omega arith)
    go false e i = i

-- ---- the dot product
products-within : (query ts : List Term) → AllBounded query → AllBounded ts → EachOf (Within (1 * 2 ^ 213)) (products query ts)
products-within [] ts Q H = tt
products-within (q ∷ query) ts Q H =
    each_append (Within (1 * 2 ^ 213)) (map (λ v. mul binary32 v q.value) (values_at q.component ts)) (products query ts)
    (times (with_key (λ t. t.component) q.component ts) (each-those (λ t. in_bound t.value ≡ true) (λ t. eqb t.component q.component) ts H))
    (products-within query ts Q.1 H)
  where
    times : (us : List Term) → AllBounded us → EachOf (Within (1 * 2 ^ 213)) (map (λ v. mul binary32 v q.value) (map (λ t. t.value) us))
    times [] e = tt
    times (u ∷ us) e = (product-within u.value q.value e.0 Q.0, times us e.1)

-- a score is never a NaN, nor an infinity, whatever the number of terms
pub dot-number : (query ts : List Term) → every (λ t. in_bound t.value) query ≡ true → every (λ t. in_bound t.value) ts ≡ true → T (not (is_nan (dot query ts)))
unfolding dot
dot-number query ts q t = score-no-nan (products query ts) (products-within query ts (every-each (λ t. in_bound t.value) query q) (every-each (λ t. in_bound t.value) ts t))

pub dot-finite : (query ts : List Term) → every (λ t. in_bound t.value) query ≡ true → every (λ t. in_bound t.value) ts ≡ true → T (finite (dot query ts))
unfolding dot
dot-finite query ts q t = score-finite (products query ts) (products-within query ts (every-each (λ t. in_bound t.value) query q) (every-each (λ t. in_bound t.value) ts t))
