-- Laws of Passes: a layout that is built passes refusal 9's test, so a search never refuses it for 9.
use Rattle.std.specs.Prelude.{◌≡◌, ℕ, suc, ◌+◌, ◌<◌, ◌≤◌, Bool, true, false, cond, ltb, List, [], ◌∷◌, ◌++◌, map, length, ◌==◌, nat_eq, nat_lt, Float}
use Rattle.std.proofs.Common.{arith, ◌∙◌, subst}
use Rattle.std.proofs.Math.Path.{refl, sym, ap}
use Rattle.std.proofs.Math.ListN.{length-map}
use borrow.Author.Tests.{eqb-true, eq-eqb, lt-ltb, le-leb}
use Rattle.sequences.specs.Lists.{EachOf, first_or, last_or, joined, offsets_from, between, among, keys, with_key, strictly_rise}
use Rattle.sequences.specs.Groups.{RisesFrom}
use Rattle.sequences.specs.Laws.Groups.{rising-rises, those-append, none-with, not-among, no_later, groups-sort, offsets-rise, offsets-count, offsets-last, offsets-map, between-offsets, joined-map}
use Rattle.sequences.specs.Laws.Sorted.{each-sorted_by}
use Rattle.sequences.specs.Laws.Lists.{never-test}
use Rattle.sequences.specs.Laws.Each.{each_append, each-every}
use Rattle.documents.specs.Documents.{Term}
use Rattle.blocking.specs.Limits.{list_limit, block_limit}
use Rattle.quantizing.specs.Quantizing.{least, step_for, minimum_allowed, step_allowed}
use Rattle.quantizing.specs.Promises.{minimum-passes, step-passes}
use Rattle.sparse_scores.specs.WellFormed.{blocks_hold, lengths_hold, offsets_hold, ids_hold, bounds_hold, well_formed}
use Rattle.sparse_layout.specs.Layouts.{values, Entry, entry_of, entries_of, entries_from, gathered, layout}
use Rattle.sparse_layout.specs.Passes.{Storable}

-- ---- each of a list
module _ {A : Type 0} where
  each_map : {B : Type 0} (P : B → Type 0) (f : A → B) → (l : List A) → EachOf (λ x. P (f x)) l → EachOf P (map f l)
  each_map P f [] e = tt
  each_map P f (x ∷ l) e = (e.0, each_map P f l e.1)

  each-always : (P : A → Type 0) → ((x : A) → P x) → (l : List A) → EachOf P l
  each-always P f [] = tt
  each-always P f (x ∷ l) = (f x, each-always P f l)

-- ---- the tests of numbers that rise
rises-test : (b : ℕ) (xs : List ℕ) → RisesFrom b xs → strictly_rise xs ≡ true
rises-test b [] r = refl
rises-test b (x ∷ []) r = refl
rises-test b (x ∷ y ∷ xs) r = let i = rises-test (suc x) (y ∷ xs) r.1 in rw (lt-ltb x y r.1.0, i)

abbrev component_of : Entry → ℕ
component_of e = e.component

abbrev summary_of : Entry → ℕ
summary_of e = e.summary

-- ---- what is laid down for entries is read back by the offsets of their groups
pub groups-read : {A : Type 0} (f : Entry → A) (gs : List (List Entry)) → between (offsets_from 0 gs) (map f (joined gs)) ≡ map (map f) gs
groups-read f gs =
    ap (λ os. between os (map f (joined gs))) (sym (offsets-map f 0 gs))
    ∙ ap (between (offsets_from 0 (map (map f) gs))) (sym (joined-map f gs))
    ∙ between-offsets [] (map (map f) gs)

-- ---- any layout: how many numbers its arrays have, and that its components rise
module _ (ss : List (List Term)) where
  pub start-count : length (layout ss).component_offsets ≡ suc (length (layout ss).summary_components)
  unfolding layout
  start-count = offsets-count 0 (gathered (entries_from 0 ss)) ∙ ap suc (length-map (keys component_of (entries_from 0 ss)) (λ k. with_key component_of k (entries_from 0 ss)))

  pub code-count : length (layout ss).summary_ids ≡ length (layout ss).codes
  unfolding layout
  code-count = length-map (joined (gathered (entries_from 0 ss))) summary_of ∙ sym (length-map (joined (gathered (entries_from 0 ss))) (λ e. e.code))

  pub minimum-count : length (layout ss).minimums ≡ length ss
  unfolding layout
  minimum-count = length-map ss (λ s. least (values s))

  pub step_count : length (layout ss).steps ≡ length ss
  unfolding layout
  step_count = length-map ss (λ s. step_for (values s))

  pub components-rise : strictly_rise (layout ss).summary_components ≡ true
  unfolding layout
  components-rise = rises-test 0 (keys component_of (entries_from 0 ss)) (rising-rises (map component_of (entries_from 0 ss)))

-- ---- ids are below the number of summaries
entries_below : (n b : ℕ) (ss : List (List Term)) → b + length ss ≤ n → EachOf (λ e. e.summary < n) (entries_from b ss)
entries_below n b [] h = tt
entries_below n b (s ∷ ss) h =
    each_append (λ e. e.summary < n) (entries_of b s) (entries_from (suc b) ss)
    (each_map (λ e. e.summary < n) (entry_of b (least (values s)) (step_for (values s))) s (each-always (λ t. b < n) (λ t. omega arith) s))
    (entries_below n (suc b) ss (omega arith))

-- ---- ids strictly rise within a component: each summary has it once at most
weaker : (b : ℕ) (l : List ℕ) → RisesFrom (suc b) l → RisesFrom b l
weaker b [] r = tt
weaker b (x ∷ l) r = (omega (arith, r.0), r.1)

module _ (c b : ℕ) (low step : Float) where
  components-same : (s : List Term) → map component_of (map (entry_of b low step) s) ≡ map (λ t. t.component) s
  components-same [] = refl
  components-same (t ∷ s) = ap (λ l. t.component ∷ l) (components-same s)

  -- the component comes once at most
  one_each : (n : ℕ) (s : List Term) (rest : List Entry) → RisesFrom n (map (λ t. t.component) s) → RisesFrom (suc b) (map summary_of rest)
      → RisesFrom b (map summary_of (with_key component_of c (map (entry_of b low step) s) ++ rest))
  one_each n [] rest h r = weaker b (map summary_of rest) r
  one_each n (t ∷ s) rest h r = go (t.component == c) refl (one_each (suc t.component) s rest h.1 r)
    where
      go : (z : Bool) → (t.component == c) ≡ z → RisesFrom b (map summary_of (with_key component_of c (map (entry_of b low step) s) ++ rest))
          → RisesFrom b (map summary_of (cond z (entry_of b low step t ∷ with_key component_of c (map (entry_of b low step) s)) (with_key component_of c (map (entry_of b low step) s)) ++ rest))
      go true e i =
          let k : t.component ≡ c = eqb-true t.component c e in
          let none : with_key component_of c (map (entry_of b low step) s) ≡ [] =
          none-with component_of c (map (entry_of b low step) s) (ap (among c) (components-same s) ∙ not-among c (suc t.component) (map (λ t. t.component) s) (omega arith) h.1) in
          subst (λ l. RisesFrom b (map summary_of (entry_of b low step t ∷ l ++ rest))) (sym none) (omega arith, r)
      go false e i = i

rises-within : (c b : ℕ) (ss : List (List Term)) → EachOf Storable ss → RisesFrom b (map summary_of (with_key component_of c (entries_from b ss)))
rises-within c b [] n = tt
rises-within c b (s ∷ ss) n =
    subst (λ l. RisesFrom b (map summary_of l)) (sym (those-append (λ e. nat_eq e.component c) (entries_of b s) (entries_from (suc b) ss)))
    (one_each c b (least (values s)) (step_for (values s)) 0 s (with_key component_of c (entries_from (suc b) ss)) n.0.rises (rises-within c (suc b) ss n.1))

-- ---- so a component has no more entries than there are summaries
rises-few : (n b : ℕ) (l : List ℕ) → RisesFrom b l → EachOf (λ i. i < n) l → b ≤ n → b + length l ≤ n
rises-few n b [] r e h = omega arith
rises-few n b (x ∷ l) r e h = let i = rises-few n (suc x) l r.1 e.1 e.0 in omega (arith, r.0)

with-below : (n c : ℕ) (l : List Entry) → EachOf (λ e. e.summary < n) l → EachOf (λ i. i < n) (map summary_of (with_key component_of c l))
with-below n c [] h = tt
with-below n c (e ∷ l) h = go (e.component == c) (with-below n c l h.1)
  where
    go : (z : Bool) → EachOf (λ i. i < n) (map summary_of (with_key component_of c l)) → EachOf (λ i. i < n) (map summary_of (cond z (e ∷ with_key component_of c l) (with_key component_of c l)))
    go true i = (h.0, i)
    go false i = i

pub few-entries : (c : ℕ) (ss : List (List Term)) → EachOf Storable ss → length (with_key component_of c (entries_from 0 ss)) ≤ length ss
few-entries c ss all =
    let a = rises-few (length ss) 0 (map summary_of (with_key component_of c (entries_from 0 ss))) (rises-within c 0 ss all) (with-below (length ss) c (entries_from 0 ss) (entries_below (length ss) 0 ss
    (omega arith))) (omega arith) in
    let e = length-map (with_key component_of c (entries_from 0 ss)) summary_of in
    omega arith

-- ---- the parts of the test
module _ (ss : List (List Term)) (all : EachOf Storable ss) where
  abbrev es : List Entry
  es = entries_from 0 ss

  lengths-hold : lengths_hold (layout ss) ≡ true
  unfolding lengths_hold
  lengths-hold =
      rw (
        eq-eqb (length (layout ss).component_offsets) (suc (length (layout ss).summary_components)) (start-count ss),
        eq-eqb (length (layout ss).summary_ids) (length (layout ss).codes) (code-count ss),
        eq-eqb (length (layout ss).minimums) (length (layout ss).steps) (minimum-count ss ∙ sym (step_count ss)),
      )

  offsets-hold : offsets_hold (layout ss).component_offsets (length (layout ss).summary_ids) ≡ true
  unfolding offsets_hold layout
  offsets-hold =
      rw (
        first (gathered es),
        never-test 0 (offsets_from 0 (gathered es)) (offsets-rise 0 (gathered es)),
        eq-eqb (last_or 0 (offsets_from 0 (gathered es))) (length (map summary_of (joined (gathered es)))) (offsets-last 0 (gathered es) ∙ omega (arith, length-map (joined (gathered es)) summary_of)),
      )
    where
      first : (ls : List (List Entry)) → (first_or 1 (offsets_from 0 ls) == 0) ≡ true
      first [] = refl
      first (l ∷ ls) = refl

  below_each : EachOf (λ i. nat_lt i (length ss) ≡ true) (map summary_of (joined (gathered es)))
  below_each =
      each_map (λ i. nat_lt i (length ss) ≡ true) summary_of (joined (gathered es))
      (subst (EachOf (λ e. nat_lt e.summary (length ss) ≡ true)) (sym (groups-sort component_of es))
      (each-sorted_by (no_later component_of) (λ e. nat_lt e.summary (length ss) ≡ true) es (tests es (entries_below (length ss) 0 ss (omega arith)))))
    where
      tests : (l : List Entry) → EachOf (λ e. e.summary < length ss) l → EachOf (λ e. nat_lt e.summary (length ss) ≡ true) l
      tests [] e = tt
      tests (x ∷ l) e = (lt-ltb x.summary (length ss) e.0, tests l e.1)

  ids-hold : ids_hold (length ss) (layout ss).component_offsets (layout ss).summary_ids ≡ true
  unfolding ids_hold layout
  ids-hold =
      rw (each-every (λ i. ltb i (length ss)) (map summary_of (joined (gathered es))) below_each, groups-read summary_of (gathered es))
      (each-every strictly_rise (map (map summary_of) (gathered es))
      (each_map (λ l. strictly_rise l ≡ true) (map summary_of) (gathered es)
      (each_map (λ g. strictly_rise (map summary_of g) ≡ true) (λ k. with_key component_of k es) (keys component_of es)
      (each-always (λ k. strictly_rise (map summary_of (with_key component_of k es)) ≡ true) (λ k. rises-test 0 (map summary_of (with_key component_of k es)) (rises-within k 0 ss all))
      (keys component_of es)))))

  bounds-hold : bounds_hold (layout ss).minimums (layout ss).steps ≡ true
  unfolding bounds_hold layout
  bounds-hold = rw (each-every minimum_allowed (map (λ s. least (values s)) ss) (lows ss all), each-every step_allowed (map (λ s. step_for (values s)) ss) (steps ss all))
    where
      lows : (ss : List (List Term)) → EachOf Storable ss → EachOf (λ x. minimum_allowed x ≡ true) (map (λ s. least (values s)) ss)
      lows [] e = tt
      lows (s ∷ ss) e = (minimum-passes (values s) e.0.floats e.0.list, lows ss e.1)

      steps : (ss : List (List Term)) → EachOf Storable ss → EachOf (λ x. step_allowed x ≡ true) (map (λ s. step_for (values s)) ss)
      steps [] e = tt
      steps (s ∷ ss) e = (step-passes (values s) e.0.floats e.0.list, steps ss e.1)

  -- refusal 9 finds nothing, where the numbers of summaries and postings keep their limits and the block offsets hold
  pub built-passes : (postings : ℕ) (block_offsets : List ℕ) → length ss ≤ block_limit → postings ≤ list_limit → blocks_hold postings (length ss) block_offsets ≡ true
      → well_formed postings block_offsets (layout ss) ≡ true
  unfolding well_formed
  built-passes postings block_offsets few short blocks =
      rw (minimum-count ss, le-leb (length ss) block_limit few, le-leb postings list_limit short, blocks, lengths-hold, components-rise ss, offsets-hold, ids-hold) bounds-hold
