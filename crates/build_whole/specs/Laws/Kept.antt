-- The terms that the summaries of a list's blocks keep: where the documents hold nothing is cut, and with rising components they are the
-- blocks' summaries.
use Rattle.std.specs.Prelude.{ℕ, ◌<◌, ◌≡◌, true, not, ◌&&◌, length, get_or, T, eqb}
use Rattle.std.proofs.Math.Path.{refl, ap}
use Rattle.std.proofs.Common.{◌∙◌}
use mathlib.Core.List.{List, [], ◌∷◌, map}
use Rattle.std.proofs.Math.Dec.{ltb}
use Rattle.std.specs.Float.{nan, binary32}
use Rattle.std.specs.Float.Ieee.{fits}
use Rattle.sequences.specs.Lists.{EachOf, every}
use Rattle.sequences.specs.Laws.Sorted.{sort-permutes}
use Rattle.sequences.specs.Laws.Lists.{and_right, every_append, permuted-length}
use Rattle.documents.specs.Documents.{Term, Documents, terms}
use Rattle.documents.specs.Checks.{terms_hold, terms_hold_below}
use Rattle.documents.specs.Laws.TermKeys.{Held}
use Rattle.configuration.specs.declared.SummarizationStrategy.{SummarizationStrategy}
use Rattle.quantizing.specs.Extremes.{F32}
use Rattle.summary_maximum.specs.Maximum.{block_terms, below}
use Rattle.summary_maximum.specs.Laws.Limited.{below_all}
use Rattle.summary_terms.specs.Summaries.{block_maximum, kept, lower, summary_of, summary}
use Rattle.sparse_layout.specs.Laws.AnyOrder.{by_component, Floats}
use Rattle.build_block_summary.specs.Blocks.{tops_of, terms_in}
use Rattle.build_block_summary.specs.Laws.Kept.{top-held}
use Rattle.build_count_pass.specs.Counting.{none_empty}

-- ---- nothing is cut of documents whose terms hold
module _ (n : ℕ) (d : Documents) where
  document-below : (i : ℕ) → terms_hold_below n (terms d i) ≡ true → every (λ t. ltb t.component n) (terms d i) ≡ true
  unfolding terms_hold_below
  document-below i h = and_right (terms_hold (terms d i)) (every (λ t. ltb t.component n) (terms d i)) h

  block-below : (block : List ℕ) → EachOf (λ i. terms_hold_below n (terms d i) ≡ true) block → every (λ t. ltb t.component n) (block_terms d block) ≡ true
  block-below [] e = refl
  block-below (i ∷ block) e =
      every_append (λ t. ltb t.component n) (terms d i) (block_terms d block)
      ∙ ap (λ a. a && every (λ t. ltb t.component n) (block_terms d block)) (document-below i e.0)
      ∙ block-below block e.1

  pub nothing-cut : (bs : List (List ℕ)) → EachOf (EachOf (λ i. terms_hold_below n (terms d i) ≡ true)) bs → terms_in n d bs ≡ map (block_terms d) bs
  nothing-cut [] e = refl
  nothing-cut (b ∷ bs) e = (λ j. below_all n (block_terms d b) (block-below b e.0) j ∷ nothing-cut bs e.1 j)

module _ (strategy : SummarizationStrategy) (d : Documents) where
  -- with rising components, they are the blocks' summaries
  pub tops-sorted : (bs : List (List ℕ)) → map by_component (tops_of strategy (map (block_terms d) bs)) ≡ map (summary strategy d) bs
  unfolding summary_of summary
  tops-sorted [] = refl
  tops-sorted (b ∷ bs) = ap (λ l. summary strategy d b ∷ l) (tops-sorted bs)

  each-fit : (l : List Term) → EachOf Held l → EachOf (λ t. F32 t.value) l
  each-fit [] e = tt
  each-fit (t ∷ l) e = (e.0.fit, each-fit l e.1)

  pub tops-floats : (n : ℕ) → ((k : ℕ) → get_or d.components k 0 < 4294967296) → ((k : ℕ) → T (fits binary32 (get_or d.values k nan))) → (bs : List (List ℕ)) → Floats (tops_of strategy
      (terms_in n d bs))
  tops-floats n narrow fit [] = tt
  tops-floats n narrow fit (b ∷ bs) = (each-fit (summary_of strategy (below n (block_terms d b))) (top-held strategy n d b narrow fit), tops-floats n narrow fit bs)

  -- a summary is empty where nothing is kept
  kept-long : (b : List ℕ) → length (summary strategy d b) ≡ length (summary_of strategy (block_terms d b))
  unfolding summary_of summary
  kept-long b = permuted-length (sort-permutes lower (kept strategy (block_maximum d b)))

  pub empty-same : (bs : List (List ℕ)) → none_empty (tops_of strategy (map (block_terms d) bs)) ≡ every (λ s. not (eqb (length s) 0)) (map (summary strategy d) bs)
  empty-same [] = refl
  empty-same (b ∷ bs) = let i = empty-same bs in rw (kept-long b, i)
