-- What holds of the scores of an accepted list and an accepted query.
use Rattle.std.specs.Prelude.{ℕ, zero, suc, ◌-◌, ◌*◌, ◌^◌, ◌≤◌, ◌<◌, ◌≡◌, Bool, not, ◌&&◌, cond, length, get_or, drop, T, leb, eqb, Float}
use Rattle.std.proofs.Common.{arith, subst, eqb-true}
use Rattle.std.proofs.Math.Bool.{true, false}
use mathlib.Core.List.{List, [], ◌∷◌, map, zip_with}
use Rattle.std.specs.Float.{nan, binary32}
use Rattle.std.specs.Float.Ieee.{is_nan, mul}
use Rattle.std.specs.Float.Ieee.Scale.{finite}
use Rattle.sequences.specs.Lists.{EachOf, every, between, joined, with_key, strictly_rise}
use Rattle.sequences.specs.Laws.Lists.{both}
use Rattle.sequences.specs.Laws.Each.{each_append, each_at, each_take, each-drop, each-those}
use Rattle.float32.specs.Bound.{in_bound, Bounded}
use Rattle.float32.specs.Laws.BoundLaws.{in-bound-bounded}
use Rattle.float32.specs.Sums.{Within}
use Rattle.float32.specs.Laws.Sums.{within-finite, within-no-nan, read-product-within}
use Rattle.float32.specs.Laws.LongSums.{summary-score-within}
use Rattle.blocking.specs.Limits.{list_limit, block_limit}
use Rattle.documents.specs.Documents.{Term, dot}
use Rattle.quantizing.specs.Quantizing.{minimum_allowed, step_allowed}
use Rattle.quantizing.specs.Extremes.{F32}
use Rattle.quantizing.specs.Promises.{read-back-bound}
use Rattle.sparse_scores.specs.Layout.{Layout, Entry, entries, entries_at, entries_of, place_of}
use Rattle.sparse_scores.specs.WellFormed.{blocks_hold, lengths_hold, offsets_hold, ids_hold, bounds_hold, well_formed}
use Rattle.sparse_scores.specs.Scores.{value_of, added_by, score_of}
use Rattle.sparse_scores.specs.ReadBack.{terms_of}
use Rattle.sparse_scores.specs.Laws.ReadBack.{score-is-dot}
use Rattle.sparse_scores.specs.Promises.{Typed, Parts}

pub parts : (postings : ℕ) (block_offsets : List ℕ) (l : Layout) → well_formed postings block_offsets l ≡ true → Parts l
unfolding well_formed lengths_hold bounds_hold
parts postings block_offsets l h =
    let a = both (leb (length l.minimums) block_limit && leb postings list_limit) _ h in
    let b = both (blocks_hold postings (length l.minimums) block_offsets) _ a.1 in
    let c = both (eqb (length l.component_offsets) (suc (length l.summary_components)) && (eqb (length l.summary_ids) (length l.codes) && eqb (length l.minimums) (length l.steps))) _
    b.1 in
    let d = both (strictly_rise l.summary_components) _ c.1 in
    let e = both (offsets_hold l.component_offsets (length l.summary_ids)) _ d.1 in
    let f = both (ids_hold (length l.minimums) l.component_offsets l.summary_ids) _ e.1 in
    let g = both (every minimum_allowed l.minimums) (every step_allowed l.steps) f.1 in
    let k = both (eqb (length l.component_offsets) (suc (length l.summary_components))) _ c.0 in
    let m = both (eqb (length l.summary_ids) (length l.codes)) (eqb (length l.minimums) (length l.steps)) k.1 in
    record { rises = d.0; as_many = eqb-true (length l.minimums) (length l.steps) m.1; minimums = g.0; steps = g.1 }

-- ---- each of a list, and of what is taken from it
module _ {A : Type 0} (P : A → Type 0) where
  each_part : (os : List ℕ) (xs : List A) (i : ℕ) → EachOf P xs → EachOf P (get_or (between os xs) i [])
  each_part [] xs i e = tt
  each_part (a ∷ []) xs i e = tt
  each_part (a ∷ b ∷ os) xs zero e = each_take P (b - a) (drop a xs) (each-drop P a xs e)
  each_part (a ∷ b ∷ os) xs (suc i) e = each_part (b ∷ os) xs i e

every-at : (p : Float → Bool) (xs : List Float) (i : ℕ) → i < length xs → every p xs ≡ true → p (get_or xs i nan) ≡ true
every-at p [] i h e = let z : ⊥ = omega arith in absurd z
every-at p (x ∷ xs) zero h e = (both (p x) (every p xs) e).0
every-at p (x ∷ xs) (suc i) h e = every-at p xs i (omega arith) (both (p x) (every p xs) e).1

codes-each : (ids codes : List ℕ) → EachOf (λ k. k ≤ 255) codes → EachOf (λ e. e.code ≤ 255) (entries ids codes)
unfolding entries zip_with
codes-each [] codes e = tt
codes-each (i ∷ ids) [] e = tt
codes-each (i ∷ ids) (k ∷ codes) e = (e.0, codes-each ids codes e.1)

module _ (postings : ℕ) (block_offsets : List ℕ) (l : Layout) (query : List Term) (accepted : well_formed postings block_offsets l ≡ true) (allowed : every (λ q. in_bound q.value) query
    ≡ true) (typed : Typed l query) (s : ℕ) (below : s < length l.minimums) where
  entries-each : (c : ℕ) → EachOf (λ e. e.code ≤ 255) (entries_of l c)
  unfolding entries_at
  entries-each c = go (eqb (get_or l.summary_components (place_of c l.summary_components) (suc c)) c)
    where
      go : (b : Bool) → EachOf (λ e. e.code ≤ 255) (cond b (get_or (between l.component_offsets (entries l.summary_ids l.codes)) (place_of c l.summary_components) []) [])
      go true = each_part (λ e. e.code ≤ 255) l.component_offsets (entries l.summary_ids l.codes) (place_of c l.summary_components) (codes-each l.summary_ids l.codes typed.codes)
      go false = tt

  added-each : (q : Term) → Bounded q.value → EachOf (Within (1 * 2 ^ 222)) (added_by l s q)
  added-each q b = go (with_key (λ e. e.summary) s (entries_of l q.component)) (each-those (λ e. e.code ≤ 255) (λ e. eqb e.summary s) (entries_of l q.component) (entries-each q.component))
    where
      own : Parts l
      own = parts postings block_offsets l accepted

      go : (es : List Entry) → EachOf (λ e. e.code ≤ 255) es → EachOf (Within (1 * 2 ^ 222)) (map (λ e. mul binary32 (value_of l s e) q.value) es)
      go [] h = tt
      go (e ∷ es) h = (
        read-product-within (value_of l s e) q.value
            (read-back-bound (get_or l.minimums s nan) (get_or l.steps s nan) e.code (each_at F32 l.minimums s nan below typed.minimums) (each_at F32 l.steps s nan
            (subst (λ n. s < n) own.as_many below) typed.steps)
            (every-at minimum_allowed l.minimums s below own.minimums) (every-at step_allowed l.steps s (subst (λ n. s < n) own.as_many below) own.steps) h.0)
            b,
        go es h.1,
      )

  all-each : (qs : List Term) → EachOf (λ q. F32 q.value) qs → every (λ q. in_bound q.value) qs ≡ true → EachOf (Within (1 * 2 ^ 222)) (joined (map (added_by l s) qs))
  all-each [] f h = tt
  all-each (q ∷ qs) f h =
      let a = both (in_bound q.value) (every (λ q. in_bound q.value) qs) h in
      each_append (Within (1 * 2 ^ 222)) (added_by l s q) (joined (map (added_by l s) qs)) (added-each q (in-bound-bounded q.value f.0 a.0)) (all-each qs f.1 a.1)

  -- at most 2 ^ 98, in units of 2 ^ -149
  pub score-within : Within (1 * 2 ^ 247) (score_of l query s)
  unfolding score_of
  score-within = summary-score-within (joined (map (added_by l s) query)) (all-each query typed.values allowed)

  -- finite, and so never a NaN
  pub score-finite : T (finite (score_of l query s))
  score-finite = within-finite (1 * 2 ^ 247) (score_of l query s) score-within

  pub score-no-nan : T (not (is_nan (score_of l query s)))
  score-no-nan = within-no-nan (1 * 2 ^ 247) (score_of l query s) score-within

  -- the dot product of the query with the summary as it is read back
  pub score-dot : score_of l query s ≡ dot query (terms_of l s)
  score-dot = score-is-dot l (parts postings block_offsets l accepted).rises s query
