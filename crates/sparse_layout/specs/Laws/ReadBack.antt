-- A layout read back: each summary comes out with the values that its codes stand for, and its score is the dot product of the query with
-- that. Of any summaries whatever.
use Rattle.std.specs.Prelude.{◌≡◌, ℕ, zero, suc, ◌+◌, ◌<◌, ◌≤◌, min, Bool, true, false, cond, List, [], ◌∷◌, ◌++◌, map, length, ◌==◌, ◌≢◌, nat_eq, slice_index_or, Float}
use Rattle.std.proofs.Common.{zero-add, sym, ◌∙◌, subst, le-leb, eqb-true, eq-eqb, ne_eqb}
use native.Mathlib.Omega.{arith}
use Rattle.std.proofs.Math.Path.{refl, ap}
use mathlib.Core.List.{map-append, map-map, append-nil, zip_with}
use Rattle.std.proofs.Math.ListN.{get_or-map}
use Rattle.std.specs.Float.{nan}
use Rattle.std.specs.Float.Ieee.{binary32, mul, sub, div}
use Rattle.sequences.specs.Lists.{joined, from, offsets_from, between, among, keys, with_key}
use Rattle.sequences.specs.Groups.{RisesFrom}
use Rattle.sequences.specs.Laws.Groups.{Against, less, same, more, against, rising-rises, among-rising, not-among, those-append, none-with, no_later, groups-sort}
use Rattle.sequences.specs.Laws.Sorted.{InOrder, sort-same}
use Rattle.documents.specs.Documents.{Term, term, sum, dot}
use Rattle.quantizing.specs.Quantizing.{least, greatest, step_for, code_of, read_back}
use Rattle.sparse_scores.specs.Layout.{entries}
use Rattle.sparse_scores.specs.Layout as stored
use Rattle.sparse_scores.specs.Scores.{value_of, score_of, scores_of}
use Rattle.sparse_scores.specs.ReadBack.{terms_of}
use Rattle.sparse_scores.specs.Laws.ReadBack.{score-is-dot}
use Rattle.sparse_layout.specs.Layouts.{values, Entry, entry_of, entries_of, entries_from, gathered, layout}
use Rattle.sparse_layout.specs.Laws.Passes.{groups-read, minimum-count, step_count, components-rise}
use Rattle.sparse_layout.specs.Placing.{component_of}
use Rattle.sparse_layout.specs.Laws.AnyOrder.{part, by_component, sorted-with}

-- ---- a summary as it is read back from its codes: its components, each with the value that its code stands for
abbrev pub read_as : Float → Float → Term → Term
read_as low step t = term t.component (read_back low step (code_of low step t.value))

unfoldable pub read_back_of : List Term → List Term
read_back_of s = map (read_as (least (values s)) (step_for (values s))) s

-- ---- the entries of a component for a summary
abbrev plain : Entry → stored.Entry
plain e = stored.entry e.summary e.code

abbrev held_for : ℕ → ℕ → List Entry → List stored.Entry
held_for c b es = with_key (λ e. e.summary) b (map plain (with_key component_of c es))

held-append : (c b : ℕ) (l r : List Entry) → held_for c b (l ++ r) ≡ held_for c b l ++ held_for c b r
held-append c b l r =
    ap (λ z. with_key (λ e. e.summary) b (map plain z)) (those-append (λ e. nat_eq e.component c) l r)
    ∙ ap (with_key (λ e. e.summary) b) (map-append plain (with_key component_of c l) (with_key component_of c r))
    ∙ those-append (λ e. nat_eq e.summary b) (map plain (with_key component_of c l)) (map plain (with_key component_of c r))

module _ (c a : ℕ) (low step : Float) where
  -- of its own summary: the terms of that component, read back
  held-own : (s : List Term) → map (λ e. term c (read_back low step e.code)) (held_for c a (map (entry_of a low step) s)) ≡ with_key part c (map (read_as low step) s)
  held-own [] = refl
  held-own (t ∷ s) = go (t.component == c) refl (held-own s)
    where
      go : (z : Bool) → (t.component == c) ≡ z → map (λ e. term c (read_back low step e.code)) (held_for c a (map (entry_of a low step) s)) ≡ with_key part c (map (read_as low step) s)
          → map (λ e. term c (read_back low step e.code)) (with_key (λ e. e.summary) a (map plain (cond z (entry_of a low step t ∷ with_key component_of c (map (entry_of a low step) s))
          (with_key component_of c (map (entry_of a low step) s)))))
          ≡ cond z (read_as low step t ∷ with_key part c (map (read_as low step) s)) (with_key part c (map (read_as low step) s))
      go true e i = rw (eq-eqb a a refl) (ap (λ k. term k (read_back low step (code_of low step t.value)) ∷ map (λ e. term c (read_back low step e.code)) (held_for c a (map (entry_of a low step) s)))
          (sym (eqb-true t.component c e)) ∙ ap (λ l. read_as low step t ∷ l) i)
      go false e i = i

  -- of another: none
  held-other : (b : ℕ) (s : List Term) → (a ≢ b) → held_for c b (map (entry_of a low step) s) ≡ []
  held-other b [] n = refl
  held-other b (t ∷ s) n = go (t.component == c) (held-other b s n)
    where
      go : (z : Bool) → held_for c b (map (entry_of a low step) s) ≡ []
          → with_key (λ e. e.summary) b (map plain (cond z (entry_of a low step t ∷ with_key component_of c (map (entry_of a low step) s)) (with_key component_of c (map (entry_of a low step) s)))) ≡ []
      go true i = rw (ne_eqb a b n) i
      go false i = i

held-before : (c b n : ℕ) (ss : List (List Term)) → b < n → held_for c b (entries_from n ss) ≡ []
held-before c b n [] h = refl
held-before c b n (s ∷ ss) h =
    held-append c b (entries_of n s) (entries_from (suc n) ss)
    ∙ ap (λ l. l ++ held_for c b (entries_from (suc n) ss)) (held-other c n (least (values s)) (step_for (values s)) b s (λ e. omega arith))
    ∙ held-before c b (suc n) ss (omega arith)

-- so it is of the summary with a number, among all: past the last there is nothing on either side
held-read : (c a i : ℕ) (ss : List (List Term))
    → map (λ e. term c (read_back (least (values (slice_index_or ss i []))) (step_for (values (slice_index_or ss i []))) e.code)) (held_for c (a + i) (entries_from a ss)) ≡ with_key part c (read_back_of (slice_index_or ss i []))
unfolding read_back_of
held-read c a i [] = refl
held-read c a zero (s ∷ ss) =
    let z : a + 0 ≡ a = omega arith in
    rw z
    (ap (map back) (held-append c a (entries_of a s) (entries_from (suc a) ss) ∙ ap (λ l. held_for c a (entries_of a s) ++ l) (held-before c a (suc a) ss (omega arith))
    ∙ append-nil (held_for c a (entries_of a s)))
    ∙ held-own c a (least (values s)) (step_for (values s)) s)
  where
    back : stored.Entry → Term
    back e = term c (read_back (least (values s)) (step_for (values s)) e.code)
held-read c a (suc i) (s ∷ ss) =
    let z : a + suc i ≡ suc a + i = omega arith in
    rw z
    (ap (map back) (held-append c (suc a + i) (entries_of a s) (entries_from (suc a) ss) ∙ ap (λ l. l ++ held_for c (suc a + i) (entries_from (suc a) ss)) (held-other c a (least (values s))
    (step_for (values s)) (suc a + i) s (λ e. omega arith)))
    ∙ held-read c (suc a) i ss)
  where
    back : stored.Entry → Term
    back e = term c (read_back (least (values (slice_index_or ss i []))) (step_for (values (slice_index_or ss i []))) e.code)

-- ---- keys that rise: those of which there is nothing may be left out
module _ {A : Type 0} (f : ℕ → List A) where
  abbrev NoneBut : ℕ → List ℕ → Type 0
  NoneBut n ks = (k : ℕ) → n ≤ k → among k ks ≡ false → f k ≡ []

  past : (n k : ℕ) (ks : List ℕ) → n ≤ k → NoneBut n (k ∷ ks) → NoneBut (suc k) ks
  past n k ks h a x l e = a x (omega arith) (rw (ne_eqb x k (λ z. omega arith)) e)

  nothing : (n : ℕ) (ks : List ℕ) → RisesFrom n ks → NoneBut n [] → joined (map f ks) ≡ []
  nothing n [] r a = refl
  nothing n (k ∷ ks) r a = ap (λ l. l ++ joined (map f ks)) (a k r.0 refl) ∙ nothing (suc k) ks r.1 (λ x l e. a x (omega (arith, r.0)) e)

  joined_same : (n : ℕ) (ks js : List ℕ) → RisesFrom n ks → RisesFrom n js → NoneBut n ks → NoneBut n js → joined (map f ks) ≡ joined (map f js)
  joined_same n [] js r q a b = sym (nothing n js q a)
  joined_same n (k ∷ ks) [] r q a b = nothing n (k ∷ ks) r b
  joined_same n (k ∷ ks) (j ∷ js) r q a b =
      go (against k j) (joined_same (suc k) ks (j ∷ js) r.1) (joined_same (suc k) ks js r.1) (joined_same (suc j) (k ∷ ks) js)
    where
      go : Against k j → (RisesFrom (suc k) (j ∷ js) → NoneBut (suc k) ks → NoneBut (suc k) (j ∷ js) → joined (map f ks) ≡ joined (map f (j ∷ js)))
          → (RisesFrom (suc k) js → NoneBut (suc k) ks → NoneBut (suc k) js → joined (map f ks) ≡ joined (map f js))
          → (RisesFrom (suc j) (k ∷ ks) → RisesFrom (suc j) js → NoneBut (suc j) (k ∷ ks) → NoneBut (suc j) js → joined (map f (k ∷ ks)) ≡ joined (map f js))
          → joined (map f (k ∷ ks)) ≡ joined (map f (j ∷ js))
      go (less h) x y z =
          ap (λ l. l ++ joined (map f ks)) (b k r.0 (not-among k j (j ∷ js) h (omega arith, q.1)))
          ∙ x (h, q.1) (past n k ks r.0 a) (λ i l e. b i (omega (arith, r.0)) e)
      go (same h) x y z =
          ap (λ l. f k ++ l) (y (subst (λ m. RisesFrom (suc m) js) (sym h) q.1) (past n k ks r.0 a) (subst (λ m. NoneBut (suc m) js) (sym h) (past n j js q.0 b)))
          ∙ ap (λ m. f m ++ joined (map f js)) h
      go (more h) x y z =
          z (h, r.1) q.1 (λ i l e. a i (omega (arith, q.0)) e) (past n j js q.0 b)
          ∙ ap (λ l. l ++ joined (map f js)) (sym (a j q.0 (not-among j k (k ∷ ks) h (omega arith, r.1))))

-- ---- ids and codes side by side, cut at the offsets, are the entries of each component
side_by_side : (es : List Entry) → entries (map (λ e. e.summary) es) (map (λ e. e.code) es) ≡ map plain es
unfolding entries zip_with
side_by_side [] = refl
side_by_side (e ∷ es) = ap (λ l. plain e ∷ l) (side_by_side es)

zip-map : {A B : Type 0} (f : ℕ → A → B) (g : ℕ → A) (ks : List ℕ) → zip_with f ks (map g ks) ≡ map (λ k. f k (g k)) ks
unfolding zip_with
zip-map f g [] = refl
zip-map f g (k ∷ ks) = ap (λ l. f k (g k) ∷ l) (zip-map f g ks)

-- ---- the layout of any summaries
module _ (ss : List (List Term)) where
  -- the stored minimum and step of a summary; past the last neither side is a number
  pub minimum-at : (b : ℕ) → slice_index_or (layout ss).minimums b nan ≡ least (values (slice_index_or ss b []))
  unfolding layout least
  minimum-at b = get_or-map (λ s. least (values s)) ss b []

  pub step-at : (b : ℕ) → slice_index_or (layout ss).steps b nan ≡ step_for (values (slice_index_or ss b []))
  unfolding layout least greatest sub div
  step-at b = get_or-map (λ s. step_for (values s)) ss b []

  -- what is held at a component for a summary
  abbrev held : ℕ → ℕ → List stored.Entry → List Term
  held b c es = map (λ e. term c (value_of (layout ss) b e)) (with_key (λ e. e.summary) b es)

  abbrev held_at : ℕ → ℕ → List Term
  held_at b c = held b c (map plain (with_key component_of c (entries_from 0 ss)))

  terms-held : (b : ℕ) → terms_of (layout ss) b ≡ joined (map (held_at b) (keys component_of (entries_from 0 ss)))
  unfolding terms_of layout
  terms-held b =
      let es = entries_from 0 ss in
      let ks = keys component_of es in
      ap (λ l. joined (zip_with (held b) ks (between (offsets_from 0 (gathered es)) l))) (side_by_side (joined (gathered es)))
      ∙ ap (λ l. joined (zip_with (held b) ks l)) (groups-read plain (gathered es) ∙ map-map (map plain) (λ k. with_key component_of k es) ks)
      ∙ ap joined (zip-map (held b) (λ k. map plain (with_key component_of k es)) ks)

  held-is : (b c : ℕ) → held_at b c ≡ with_key part c (read_back_of (slice_index_or ss b []))
  held-is b c =
      ap (λ m. map (λ e. term c (read_back m (slice_index_or (layout ss).steps b nan) e.code)) (held_for c b (entries_from 0 ss))) (minimum-at b)
      ∙ ap (λ s. map (λ e. term c (read_back (least (values (slice_index_or ss b []))) s e.code)) (held_for c b (entries_from 0 ss))) (step-at b)
      ∙ ap (λ n. map (λ e. term c (read_back (least (values (slice_index_or ss b []))) (step_for (values (slice_index_or ss b []))) e.code)) (held_for c n (entries_from 0 ss))) (sym (zero-add b))
      ∙ held-read c 0 b ss

  -- each summary comes back as its codes say, its components rising
  pub reads-back : (b : ℕ) → terms_of (layout ss) b ≡ by_component (read_back_of (slice_index_or ss b []))
  reads-back b =
      terms-held b
      ∙ ap (λ f. joined (map f (keys component_of (entries_from 0 ss)))) (λ i c. held-is b c i)
      ∙ joined_same (λ c. with_key part c (read_back_of (slice_index_or ss b []))) 0 (keys component_of (entries_from 0 ss)) (keys part (read_back_of (slice_index_or ss b [])))
      (rising-rises (map component_of (entries_from 0 ss))) (rising-rises (map part (read_back_of (slice_index_or ss b []))))
      (λ c l e. sym (held-is b c) ∙ ap (λ es. map (λ e. term c (value_of (layout ss) b e)) (with_key (λ e. e.summary) b (map plain es))) (none-with component_of c (entries_from 0 ss)
      (sym (among-rising c (map component_of (entries_from 0 ss))) ∙ e)))
      (λ c l e. none-with part c (read_back_of (slice_index_or ss b [])) (sym (among-rising c (map part (read_back_of (slice_index_or ss b [])))) ∙ e))
      ∙ groups-sort part (read_back_of (slice_index_or ss b []))

  -- just so, where they rise already
  pub reads-back-rising : (b : ℕ) → RisesFrom 0 (map part (slice_index_or ss b [])) → terms_of (layout ss) b ≡ read_back_of (slice_index_or ss b [])
  unfolding read_back_of
  reads-back-rising b r = reads-back b ∙ sort-same (no_later part) (read_back_of (slice_index_or ss b [])) (in_order (least (values (slice_index_or ss b []))) (step_for (values (slice_index_or ss b []))) 0 (slice_index_or ss b []) r)
    where
      in_order : (low step : Float) (n : ℕ) (s : List Term) → RisesFrom n (map part s) → InOrder (no_later part) (map (read_as low step) s)
      in_order low step n [] r = tt
      in_order low step n (t ∷ []) r = (tt, tt)
      in_order low step n (t ∷ u ∷ s) r = (le-leb t.component u.component (let h = r.1.0 in omega arith), in_order low step (suc t.component) (u ∷ s) r.1)

  -- ---- scores
  pub score-reads-back : (query : List Term) (b : ℕ) → score_of (layout ss) query b ≡ dot query (read_back_of (slice_index_or ss b []))
  unfolding dot
  score-reads-back query b =
      score-is-dot (layout ss) (components-rise ss) b query
      ∙ ap (dot query) (reads-back b)
      ∙ ap (λ f. sum (joined (map f query))) (λ i q. map (λ v. mul binary32 v q.value) (map (λ t. t.value) (sorted-with q.component (read_back_of (slice_index_or ss b [])) i)))

  pub scores-read-back : (query : List Term) → scores_of (layout ss) query ≡ map (λ s. dot query (read_back_of s)) ss
  unfolding scores_of
  scores-read-back query =
      let m = minimum-count ss in
      let n = step_count ss in
      let c : min (length (layout ss).minimums) (length (layout ss).steps) ≡ length ss = omega arith in
      ap (λ k. map (score_of (layout ss) query) (from 0 k)) c ∙ go 0 ss (λ i. ap (score_of (layout ss) query) (zero-add i) ∙ score-reads-back query i)
    where
      go : (a : ℕ) (rest : List (List Term)) → ((i : ℕ) → score_of (layout ss) query (a + i) ≡ dot query (read_back_of (slice_index_or rest i []))) → map (score_of (layout ss) query) (from a (length rest))
          ≡ map (λ s. dot query (read_back_of s)) rest
      go a [] h = refl
      go a (s ∷ rest) h =
          let z : a ≡ a + 0 = omega arith in
          ap (λ x. x ∷ map (score_of (layout ss) query) (from (suc a) (length rest))) (ap (score_of (layout ss) query) z ∙ h 0)
          ∙ ap (λ l. dot query (read_back_of s) ∷ l) (go (suc a) rest (λ i. ap (score_of (layout ss) query) (on i) ∙ h (suc i)))
        where
          on : (i : ℕ) → suc a + i ≡ a + suc i
          on i = omega arith
