-- Over blocks that were made, the layout is judged by a build's last two tests, and its result is the build's.
use Rattle.std.specs.Prelude.{ℕ, ◌+◌, ◌-◌, ◌≤◌, ◌<◌, max, ◌≡◌, false, length, get_or, T, leb, ltb, Ok}
use native.Mathlib.Omega.{arith}
use Rattle.std.proofs.Math.Path.{sym, ap}
use Rattle.std.proofs.Common.{◌∙◌}
use Rattle.std.proofs.Math.Bool.{true, not}
use mathlib.Core.List.{List, [], ◌∷◌, map}
use Rattle.std.proofs.Math.ListN.{length-map}
use Rattle.std.specs.Float.{nan, binary32}
use Rattle.std.specs.Float.Ieee.{fits}
use borrow.Author.Tests.{leb-true, le-ltb, not-false}
use Rattle.refusal.specs.declared.Refusal.TheVariants.{BufferTooShort, EmptySummary}
use Rattle.refusal.specs.First.{◌gives◌, first_of, Faultless}
use Rattle.refusal.specs.Laws.First.{faultless, first-after, faultless-both as apart}
use Rattle.sequences.specs.Lists.{every}
use Rattle.sequences.specs.Laws.Lists.{both, or_right, every-each, every_front, between-count}
use Rattle.documents.specs.Documents.{Term, terms, packed}
use Rattle.documents.specs.Checks.{terms_hold_below, documents_hold}
use Rattle.blocking.specs.Limits.{list_limit, block_limit}
use Rattle.build_admission.specs.Admission.{centroids_used, input_tests}
use Rattle.summary_maximum.specs.Maximum.{block_terms}
use Rattle.summary_terms.specs.Summaries.{summary}
use Rattle.sparse_layout.specs.Layouts.{layout}
use Rattle.sparse_layout.specs.Laws.AnyOrder.{by_component, layout-any-order}
use Rattle.build_block_summary.specs.Blocks.{tops_of, terms_in}
use Rattle.build_count_pass.specs.Counting.{none_empty, Counting}
use Rattle.build_meaning.specs.Built.{Input, blocks, block_documents, summaries, built}
use Rattle.scratch.specs.declared.ScratchLengths.{ScratchLengths}
use Rattle.build_meaning.specs.Needs.{Output, sizes_for, scratch_needs, scratch_suffices, output_suffices}
use Rattle.build_meaning.specs.Building.{Scratches, scratch_lengths, some_empty}
use Rattle.build_meaning.specs.Laws.Offsets.{few-blocks}
use Rattle.build_meaning.specs.Laws.Stored.{blocks-each}
use Rattle.build_ready.specs.Made.{make_tests}
use Rattle.build_layout.specs.Laid.{posting_of, tops, built_from, dimension_outside, any_short, work_for, laid_verdict}
use Rattle.build_whole.specs.Laws.Kept.{nothing-cut, tops-sorted, tops-floats, empty-same}
use Rattle.build_whole.specs.Laws.Listed.{postings-packed}

-- ---- the work space of the layout has a place for each component
pub record Roomy (dimension : ℕ) (s : ScratchLengths) : Type 0 where
  pub counts : dimension ≤ s.counts
  pub starts : dimension ≤ s.starts
  pub sums : dimension ≤ s.sums
  pub keys : dimension ≤ s.keys

roomy : (n c t dimension : ℕ) (l : ScratchLengths) → scratch_suffices (scratch_needs (record { ids = n; centroids = c; centroid_terms = t; dimension = dimension })) l ≡ true → Roomy dimension l
roomy n c t dimension l h =
    let f0 = both (leb n l.order) _ h in
    let f1 = both (leb (n + 1) l.blocks) _ f0.1 in
    let f2 = both (leb n l.sorted) _ f1.1 in
    let f3 = both (leb c l.known) _ f2.1 in
    let f4 = both (leb n l.taken) _ f3.1 in
    let f5 = both (leb (max c dimension) l.counts) _ f4.1 in
    let f6 = both (leb (dimension + 1) l.starts) _ f5.1 in
    let f7 = both (leb t l.slots) _ f6.1 in
    let f8 = both (leb t l.weights) _ f7.1 in
    let f9 = both (leb (max c dimension) l.sums) _ f8.1 in
    record {
      counts = let k = leb-true (max c dimension) l.counts f5.0 in omega arith;
      starts = let k = leb-true (dimension + 1) l.starts f6.0 in omega arith;
      sums = let k = leb-true (max c dimension) l.sums f9.0 in omega arith;
      keys = leb-true dimension l.keys f9.1;
    }

none-short : (n a b c d : ℕ) → n ≤ a → n ≤ b → n ≤ c → n ≤ d → any_short n a b c d ≡ false
none-short n a b c d h i j k = rw (le-ltb a n h, le-ltb b n i, le-ltb c n j, le-ltb d n k)

module _ (g : Input) (s : Scratches) (ok : first_of (make_tests g.dimension g.blocking g.documents g.ids g.centroids s) ≡ Ok tt) where
  faults : Faultless (input_tests g.dimension g.blocking g.documents g.ids g.centroids) × Faultless ((not (scratch_suffices (scratch_needs (sizes_for g.dimension g.blocking
      g.documents g.ids g.centroids)) (scratch_lengths s)) gives BufferTooShort) ∷ [])
  faults = apart (input_tests g.dimension g.blocking g.documents g.ids g.centroids) _ (faultless (make_tests g.dimension g.blocking g.documents g.ids g.centroids s) ok)

  pub room : Roomy g.dimension (scratch_lengths s)
  room = let u = centroids_used g.blocking g.centroids in roomy (length g.ids) (length u) _ g.dimension (scratch_lengths s) (not-false _ faults.1.0)

  inside : dimension_outside g.dimension ≡ false
  unfolding input_tests
  inside = or_right (ltb list_limit (length g.ids)) (dimension_outside g.dimension) faults.0.0

  -- the terms of each block's documents hold, so that nothing is cut
  uncut : terms_in g.dimension g.documents (block_documents g) ≡ map (block_terms g.documents) (block_documents g)
  unfolding input_tests documents_hold
  uncut =
      let h : every (λ i. terms_hold_below g.dimension (terms g.documents i)) g.ids ≡ true = every_front (λ i. terms_hold_below g.dimension (terms g.documents i)) g.ids
      (centroids_used g.blocking g.centroids) (not-false _ faults.0.1.1.0) in
      nothing-cut g.dimension g.documents (block_documents g) (blocks-each (λ i. terms_hold_below g.dimension (terms g.documents i) ≡ true) g (every-each (λ i. terms_hold_below
      g.dimension (terms g.documents i)) g.ids h))

  few : length (block_documents g) ≤ block_limit
  unfolding input_tests summaries
  few = let f = few-blocks g faults.0.1.1.1.1.1 in let l = length-map (block_documents g) (summary g.summarization g.documents) in omega arith

  same-postings : map (posting_of g.documents) (blocks g).documents ≡ map (packed g.documents) (blocks g).documents
  unfolding input_tests
  same-postings = postings-packed g (not-false _ faults.0.1.1.1.0) (not-false _ faults.0.1.1.1.1.0)

  module _ (narrow : (k : ℕ) → get_or g.documents.components k 0 < 4294967296) (fit : (k : ℕ) → T (fits binary32 (get_or g.documents.values k nan))) where
    abbrev kept_terms : List (List Term)
    kept_terms = tops g.dimension g.summarization g.documents (blocks g).documents (blocks g).block_offsets

    same_layout : layout (tops g.dimension g.summarization g.documents (blocks g).documents (blocks g).block_offsets) ≡ layout (summaries g)
    unfolding summaries
    same_layout =
        sym (layout-any-order kept_terms (tops-floats g.summarization g.documents g.dimension narrow fit (block_documents g)))
        ∙ ap layout (ap (λ tss. map by_component (tops_of g.summarization tss)) uncut ∙ tops-sorted g.summarization g.documents (block_documents g))

    pub same-result : built_from g.dimension g.summarization g.documents (blocks g).documents (blocks g).block_offsets ≡ built g
    unfolding built_from built
    same-result = λ j. record { postings = same-postings j; block_offsets = (blocks g).block_offsets; summaries = same_layout j }

    same-empty : not (none_empty (tops g.dimension g.summarization g.documents (blocks g).documents (blocks g).block_offsets)) ≡ some_empty (summaries g)
    unfolding summaries
    same-empty = ap (λ tss. not (none_empty (tops_of g.summarization tss))) uncut ∙ ap not (empty-same g.summarization g.documents (block_documents g))

    pub same-verdict : (w : Counting) (o : Output) → g.dimension ≤ length w.keys → g.dimension ≤ length w.places → g.dimension ≤ length w.maxima → g.dimension ≤ length w.entry_counts
        → laid_verdict g.dimension g.summarization g.documents (blocks g).documents (blocks g).block_offsets w o
        ≡ first_of ((some_empty (summaries g) gives EmptySummary) ∷ (not (output_suffices (built g) o) gives BufferTooShort) ∷ [])
    unfolding laid_verdict
    same-verdict w o hk hp hm hc =
        let n = between-count (blocks g).block_offsets (blocks g).documents in
        let f = few in
        first-after
        (work_for g.dimension (blocks g).block_offsets w)
        ((not (none_empty kept_terms) gives EmptySummary) ∷ (not (output_suffices (built_from g.dimension g.summarization g.documents (blocks g).documents
        (blocks g).block_offsets) o) gives BufferTooShort) ∷ []) (
          inside,
          (
            le-ltb block_limit (length (blocks g).block_offsets - 1) (omega arith),
            (
              none-short g.dimension (length w.keys) (length w.places) (length w.maxima) (length
                  w.entry_counts) hk hp hm hc,
              tt,
            ),
          ),
        )
        ∙ ap (λ b. first_of ((b gives EmptySummary) ∷ (not (output_suffices (built_from g.dimension g.summarization g.documents (blocks g).documents
        (blocks g).block_offsets) o) gives BufferTooShort) ∷ [])) same-empty
        ∙ ap (λ b. first_of ((some_empty (summaries g) gives EmptySummary) ∷ (not (output_suffices b o) gives BufferTooShort) ∷ [])) same-result
