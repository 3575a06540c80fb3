-- The kept terms of a list's blocks, counted: each component is below the dimension and comes once in a block at most, so that the counts
-- are those of the layout.
use Prim.Native.Nat.{ℕ, suc, ◌≤◌, ◌<◌}
use Rattle.std.proofs.Common.{arith, ◌∙◌, length-append, eqb-true}
use Rattle.std.specs.Prelude.{◌≡◌, refl, Bool, true, false, cond, eqb, Float}
use Rattle.std.proofs.Math.Path.{sym, ap}
use mathlib.Core.List.{List, [], ◌∷◌, map, foldl}
use Rattle.std.proofs.Math.ListN.{length, length-map}
use Rattle.std.proofs.lemmas.List.{length-replicate}
use Rattle.configuration.specs.declared.SummarizationStrategy.{SummarizationStrategy}
use Rattle.sequences.specs.Lists.{EachOf, joined, among, keys, with_key}
use Rattle.sequences.specs.Laws.Groups.{those-append, none-with, offsets-count}
use Rattle.blocking.specs.Limits.{block_limit, dimension_limit}
use Rattle.blocking.specs.Laws.Limits.{dimension-fits, entries_fit}
use Rattle.documents.specs.Documents.{Term, Documents}
use Rattle.sequences.specs.Laws.Each.{each_append}
use Rattle.summary_maximum.specs.Maximum.{block_terms, below, maxima}
use Rattle.summary_maximum.specs.Laws.Limited.{limited}
use Rattle.summary_terms.specs.Summaries.{kept, summary_of}
use Rattle.summary_terms.specs.Laws.Once.{NoRepeat, kept-once}
use Rattle.summary_terms.specs.Promises.{OfBlock}
use Rattle.summary_terms.specs.Laws.Promises.{kept-of-block}
use Rattle.quantizing.specs.Quantizing.{least, step_for}
use Rattle.sparse_layout.specs.Layouts.{values, Entry, entry_of, entries_of, entries_from, gathered, layout}
use Rattle.sparse_layout.specs.Placing.{component_of}
use Rattle.sparse_layout.specs.Laws.Placing.{count_of}
use Rattle.sparse_layout.specs.Counted.{present_from}
use Rattle.sparse_layout.specs.Laws.Counted.{total, Tally, total-few}
use Rattle.sparse_layout.specs.Laws.Gathered.{present-keys}
use Rattle.sparse_layout.specs.Keys.{counted, on_to}
use Rattle.sparse_layout.specs.Laws.Keys.{counts-long}
use Rattle.sparse_layout.specs.Laws.Guards.{blank, tally-of}
use Rattle.sparse_layout.specs.Laws.Written.{total-entries, entries-total}
use Rattle.build_block_summary.specs.Blocks.{tops_of, terms_in}

abbrev part : Term → ℕ
part t = t.component

-- ---- below the dimension
module _ (n : ℕ) (d : Documents) where
  top_below : (s : SummarizationStrategy) (ts : List Term) → EachOf (λ t. t.component < n) (summary_of s (below n ts))
  unfolding summary_of
  top_below s ts = go (kept s (maxima (below n ts))) (kept-of-block s (below n ts))
    where
      go : (l : List Term) → EachOf (OfBlock (below n ts)) l → EachOf (λ t. t.component < n) l
      go [] e = tt
      go (t ∷ l) e = (limited n ts t.component e.0.present, go l e.1)

  entries_below : (s : SummarizationStrategy) (b : ℕ) (bs : List (List ℕ)) → EachOf (λ e. e.component < n) (entries_from b (tops_of s (terms_in n d bs)))
  entries_below s b [] = tt
  entries_below s b (l ∷ bs) =
      let t = summary_of s (below n (block_terms d l)) in
      each_append (λ e. e.component < n) (entries_of b t) (entries_from (suc b) (tops_of s (terms_in n d bs))) (mapped (least (values t)) (step_for (values t)) t (top_below s (block_terms d l)))
      (entries_below s (suc b) bs)
    where
      mapped : (low step : Float) (ts : List Term) → EachOf (λ t. t.component < n) ts → EachOf (λ e. e.component < n) (map (entry_of b low step) ts)
      mapped low step [] e = tt
      mapped low step (t ∷ ts) e = (e.0, mapped low step ts e.1)

-- ---- once in a block
module _ (c b : ℕ) (low step : Float) where
  same-components : (ts : List Term) → map component_of (map (entry_of b low step) ts) ≡ map part ts
  same-components [] = refl
  same-components (t ∷ ts) = ap (λ l. t.component ∷ l) (same-components ts)

  once-at : (ts : List Term) → NoRepeat (map part ts) → length (with_key component_of c (map (entry_of b low step) ts)) ≤ 1
  once-at [] n = omega arith
  once-at (t ∷ ts) n = go (eqb t.component c) refl (once-at ts n.1)
    where
      go : (z : Bool) → eqb t.component c ≡ z → length (with_key component_of c (map (entry_of b low step) ts)) ≤ 1
          → length (cond z (entry_of b low step t ∷ with_key component_of c (map (entry_of b low step) ts)) (with_key component_of c (map (entry_of b low step) ts))) ≤ 1
      go true e i =
          let none : with_key component_of c (map (entry_of b low step) ts) ≡ [] = none-with component_of c (map (entry_of b low step) ts) (ap (among c) (same-components ts) ∙ ap (λ k. among k
          (map part ts)) (sym (eqb-true t.component c e)) ∙ n.0) in
          let l = ap length none in
          omega arith
      go false e i = i

count-few : (c : ℕ) (s : SummarizationStrategy) (b : ℕ) (tss : List (List Term)) → count_of c (entries_from b (tops_of s tss)) ≤ length tss
unfolding summary_of
count-few c s b [] = omega arith
count-few c s b (ts ∷ tss) =
    let t = kept s (maxima ts) in
    let e = ap length (those-append (λ e. eqb e.component c) (entries_of b t) (entries_from (suc b) (tops_of s tss))) in
    let f = length-append (with_key component_of c (entries_of b t)) (with_key component_of c (entries_from (suc b) (tops_of s tss))) in
    let o = once-at c b (least (values t)) (step_for (values t)) t (kept-once s ts) in
    let i = count-few c s (suc b) tss in
    omega arith

-- ---- the counts
module _ (n : ℕ) (s : SummarizationStrategy) (d : Documents) (bs : List (List ℕ)) (few : length bs ≤ block_limit) (small : n ≤ dimension_limit) where
  abbrev es : List Entry
  es = entries_from 0 (tops_of s (terms_in n d bs))

  abbrev tallied : List ℕ
  tallied = foldl counted (blank n) (map component_of (entries_from 0 (tops_of s (terms_in n d bs))))

  pub inside : EachOf (λ e. e.component < n) (entries_from 0 (tops_of s (terms_in n d bs)))
  inside = entries_below n d s 0 bs

  pub rare : (c : ℕ) → count_of c (entries_from 0 (tops_of s (terms_in n d bs))) ≤ block_limit
  rare c = let f = count-few c s 0 (terms_in n d bs) in let l = length-map bs (λ block. below n (block_terms d block)) in omega arith

  pub tally : Tally (foldl counted (blank n) (map component_of (entries_from 0 (tops_of s (terms_in n d bs))))) (entries_from 0 (tops_of s (terms_in n d bs)))
  tally = tally-of es n inside rare

  long : length tallied ≡ n
  long = counts-long (map component_of es) (blank n) ∙ length-replicate {A = ℕ} n 0

  pub narrow : length (foldl counted (blank n) (map component_of (entries_from 0 (tops_of s (terms_in n d bs))))) ≤ 4294967296
  narrow = let l = long in let s = dimension-fits n small in omega arith

  pub slight : total (foldl counted (blank n) (map component_of (entries_from 0 (tops_of s (terms_in n d bs))))) < 18446744073709551616
  slight =
      let t = total-few tallied block_limit (λ i k. let e = tally.each i k in let r = rare i in omega arith) in
      entries_fit (length tallied) (total tallied) narrow t

  tops-count : length (tops_of s (terms_in n d bs)) ≡ length bs
  tops-count = length-map (terms_in n d bs) (summary_of s) ∙ length-map bs (λ block. below n (block_terms d block))

  -- ---- the sizes of the layout
  pub component-count : length (present_from 0 (foldl counted (blank n) (map component_of (entries_from 0 (tops_of s (terms_in n d bs)))))) ≡ length (layout (tops_of s (terms_in n d bs))).summary_components
  unfolding layout
  component-count = sym (ap length (present-keys tallied es tally))

  pub start-count : length (layout (tops_of s (terms_in n d bs))).component_offsets ≡ suc (length (layout (tops_of s (terms_in n d bs))).summary_components)
  unfolding layout
  start-count = offsets-count 0 (gathered es) ∙ ap suc (length-map (keys component_of es) (λ k. with_key component_of k es))

  pub entry-count : foldl on_to 0 (foldl counted (blank n) (map component_of (entries_from 0 (tops_of s (terms_in n d bs))))) ≡ length (layout (tops_of s (terms_in n d bs))).summary_ids
  unfolding layout
  entry-count = entries-total tallied slight ∙ total-entries tallied es tally ∙ sym (length-map (joined (gathered es)) (λ e. e.summary))

  pub code-count : length (layout (tops_of s (terms_in n d bs))).codes ≡ length (layout (tops_of s (terms_in n d bs))).summary_ids
  unfolding layout
  code-count = length-map (joined (gathered es)) (λ e. e.code) ∙ sym (length-map (joined (gathered es)) (λ e. e.summary))

  pub minimum-count : length (layout (tops_of s (terms_in n d bs))).minimums ≡ length bs
  unfolding layout
  minimum-count = length-map (tops_of s (terms_in n d bs)) (λ s. least (values s)) ∙ tops-count

  pub step_count : length (layout (tops_of s (terms_in n d bs))).steps ≡ length bs
  unfolding layout
  step_count = length-map (tops_of s (terms_in n d bs)) (λ s. step_for (values s)) ∙ tops-count
