-- Laws of ReadBack: a summary's score is the dot product of the query with the summary as it is read back.
use Rattle.std.specs.Prelude.{ℕ, suc, ◌≤◌, Bool, cond, get_or, ltb, Float}
use Rattle.std.proofs.Common.{arith, sym, ◌∙◌}
use Rattle.std.proofs.Math.Path.{◌≡◌, refl, ap}
use Rattle.std.proofs.Math.Bool.{true, false}
use mathlib.Core.List.{List, [], ◌∷◌, ◌++◌, map, append-nil, zip_with}
use Rattle.std.proofs.Math.Dec.{eqb}
use Rattle.std.specs.Float.{binary32}
use Rattle.std.specs.Float.Ieee.{mul}
use borrow.Author.Tests.{ltb-true, le-leb, lt-leb, eq-eqb, ne_eqb}
use Rattle.sequences.specs.Lists.{between, joined, with_key, strictly_rise}
use Rattle.sequences.specs.Laws.Groups.{Against, less, same, more, against, those-append}
use Rattle.sequences.specs.Laws.Lists.{both}
use Rattle.documents.specs.Documents.{Term, term, sum, values_at, dot}
use Rattle.sparse_scores.specs.Layout.{Layout, Entry, entries, place_of, entries_at, entries_of}
use Rattle.sparse_scores.specs.Scores.{value_of, added_by, score_of}
use Rattle.sparse_scores.specs.ReadBack.{terms_of}

module _ (s : ℕ) (value : Entry → Float) where
  abbrev held_at : ℕ → List Entry → List Term
  held_at c es = map (λ e. term c (value e)) (with_key (λ e. e.summary) s es)

  unfoldable spread : List ℕ → List (List Entry) → List Term
  unfolding zip_with
  spread cs ps = joined (zip_with held_at cs ps)

  abbrev found : ℕ → List ℕ → List (List Entry) → List Entry
  found c cs ps = cond (eqb (get_or cs (place_of c cs) (suc c)) c) (get_or ps (place_of c cs) []) []

  -- components above c
  found-above : (c b : ℕ) (cs : List ℕ) (ps : List (List Entry)) → c ≤ b → strictly_rise (b ∷ cs) ≡ true → found c cs ps ≡ []
  found-above c b [] ps h r = rw (ne_eqb (suc c) c (λ e. omega arith))
  found-above c b (y ∷ cs) ps h r =
      let k = ltb-true b y (both (ltb b y) (strictly_rise (y ∷ cs)) r).0 in
      rw (le-leb c y (omega arith), ne_eqb y c (λ e. omega arith))

  own : (c : ℕ) (es : List Entry) → with_key (λ t. t.component) c (map (λ e. term c (value e)) es) ≡ map (λ e. term c (value e)) es
  own c [] = refl
  own c (e ∷ es) = let i = own c es in rw (eq-eqb c c refl, i)

  others : (x c : ℕ) (es : List Entry) → (x ≡ c → ⊥) → with_key (λ t. t.component) c (map (λ e. term x (value e)) es) ≡ []
  others x c [] n = refl
  others x c (e ∷ es) n = rw (ne_eqb x c n) (others x c es n)

  rest : (x : ℕ) (cs : List ℕ) → strictly_rise (x ∷ cs) ≡ true → strictly_rise cs ≡ true
  rest x [] r = refl
  rest x (y ∷ cs) r = (both (ltb x y) (strictly_rise (y ∷ cs)) r).1

  -- what is held at a component is held by its entries
  spread_at : (c : ℕ) (cs : List ℕ) (ps : List (List Entry)) → strictly_rise cs ≡ true → with_key (λ t. t.component) c (spread cs ps) ≡ held_at c (found c cs ps)
  unfolding spread zip_with
  spread_at c [] ps r = rw (ne_eqb (suc c) c (λ e. omega arith))
  spread_at c (x ∷ cs) [] r = none (eqb (get_or (x ∷ cs) (place_of c (x ∷ cs)) (suc c)) c)
    where
      none : (b : Bool) → ◌≡◌ {A = List Term} [] (held_at c (cond b [] []))
      none true = refl
      none false = refl
  spread_at c (x ∷ cs) (p ∷ ps) r =
      those-append (λ t. eqb t.component c) (held_at x p) (spread cs ps) ∙ go (against x c) (spread_at c cs ps (rest x cs r))
    where
      go : Against x c → with_key (λ t. t.component) c (spread cs ps) ≡ held_at c (found c cs ps)
          → with_key (λ t. t.component) c (held_at x p) ++ with_key (λ t. t.component) c (spread cs ps) ≡ held_at c (found c (x ∷ cs) (p ∷ ps))
      go (less h) i = rw (others x c (with_key (λ e. e.summary) s p) (λ e. omega arith), lt-leb c x h) i
      go (same h) i =
          rw (le-leb c x (omega arith), eq-eqb x c h)
          (ap (λ z. with_key (λ t. t.component) c (held_at z p) ++ with_key (λ t. t.component) c (spread cs ps)) h
          ∙ ap (λ l. l ++ with_key (λ t. t.component) c (spread cs ps)) (own c (with_key (λ e. e.summary) s p))
          ∙ ap (λ l. held_at c p ++ l) (i ∙ ap (held_at c) (found-above c x cs ps (omega arith) r))
          ∙ append-nil (held_at c p))
      go (more h) i =
          rw (others x c (with_key (λ e. e.summary) s p) (λ e. omega arith), le-leb c x (omega arith), ne_eqb x c (λ e. omega arith))
          (i ∙ ap (held_at c) (found-above c x cs ps (omega arith) r))

module _ (l : Layout) (rises : strictly_rise l.summary_components ≡ true) (s : ℕ) where
  held-at : (c : ℕ) → with_key (λ t. t.component) c (terms_of l s) ≡ held_at s (value_of l s) c (entries_of l c)
  unfolding terms_of spread entries_at
  held-at c = spread_at s (value_of l s) c l.summary_components (between l.component_offsets (entries l.summary_ids l.codes)) rises

  maps : (c : ℕ) (w : Float) (es : List Entry) → map (λ v. mul binary32 v w) (map (λ t. t.value) (map (λ e. term c (value_of l s e)) es)) ≡ map (λ e. mul binary32 (value_of l s e) w) es
  maps c w [] = refl
  maps c w (e ∷ es) = ap (λ r. mul binary32 (value_of l s e) w ∷ r) (maps c w es)

  each-term : (query : List Term) → map (added_by l s) query ≡ map (λ q. map (λ v. mul binary32 v q.value) (values_at q.component (terms_of l s))) query
  each-term [] = refl
  each-term (q ∷ query) =
      let a : added_by l s q ≡ map (λ v. mul binary32 v q.value) (values_at q.component (terms_of l s)) =
      sym (maps q.component q.value (with_key (λ e. e.summary) s (entries_of l q.component))) ∙ ap (λ ts. map (λ v. mul binary32 v q.value) (map (λ t. t.value) ts))
      (sym (held-at q.component)) in
      ap (λ z. z ∷ map (added_by l s) query) a ∙ ap (λ z. map (λ v. mul binary32 v q.value) (values_at q.component (terms_of l s)) ∷ z) (each-term query)

  -- a summary's score is the dot product of the query with the summary as it is read back
  pub score-is-dot : (query : List Term) → score_of l query s ≡ dot query (terms_of l s)
  unfolding score_of dot
  score-is-dot query = ap (λ ps. sum (joined ps)) (each-term query)
