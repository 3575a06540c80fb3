-- What both passes leave in the output is the result, in front of each buffer.
use Rattle.std.specs.Prelude.{Ok}
use Prim.Native.Nat.{ℕ, ◌+◌, ◌-◌, ◌≤◌, min}
use native.Mathlib.Omega.{arith}
use mathlib.Core.Path.{◌≡◌, sym, ap, ◌∙◌}
use mathlib.Core.Bool.{true, ◌||◌}
use mathlib.Core.List.{List, ◌++◌, map, foldl}
use lib.ListN.{length, take, drop, replicate, length-map, length-replicate}
use lib.Seq.{sets, sets-eq, take_at, length-take-le}
use lib.Dec.{leb, ltb, eqb}
use lib.Ieee.{Float}
use borrow.Author.Tests.{ltb-false, leb-true, not-false}
use Rattle.refusal.specs.First.{Faultless}
use Rattle.refusal.specs.Laws.First.{faultless, accepted-by}
use Rattle.configuration.specs.declared.SummarizationStrategy.{SummarizationStrategy}
use Rattle.sequences.specs.Lists.{EachOf, between}
use Rattle.sequences.specs.Laws.Lists.{both, neither, between-count}
use Rattle.blocking.specs.Limits.{block_limit, dimension_limit}
use Rattle.blocking.specs.Laws.Limits.{block-fits}
use Rattle.documents.specs.Documents.{Documents}
use Rattle.documents.specs.Laws.TermKeys.{Held}
use Rattle.summary_maximum.specs.Maximum.{block_terms, below}
use Rattle.summary_terms.specs.Summaries.{summary_of}
use Rattle.summary_terms.specs.Answers.{limit_of}
use Rattle.sparse_layout.specs.Layouts.{entries_from, layout}
use Rattle.sparse_layout.specs.Placing.{component_of}
use Rattle.sparse_layout.specs.Laws.Placing.{moved_by}
use Rattle.sparse_layout.specs.Laws.Counted.{scan_from, starts_from, total}
use Rattle.sparse_layout.specs.Laws.Gathered.{starts-groups}
use Rattle.sparse_layout.specs.Laws.Guards.{blank}
use Rattle.sparse_layout.specs.Keys.{lent, counted, named, placed_within, laid_components, laid_starts, scanned}
use Rattle.sparse_layout.specs.Laws.Keys.{counts-long}
use Rattle.sparse_layout.specs.Laws.Written.{written-components, written-offsets, written-entries, entries-total}
use Rattle.build_meaning.specs.Needs.{output_suffices}
use Rattle.build_meaning.specs.Building.{Outputs, outputs, output_lengths, filled, laid}
use Rattle.build_block_summary.specs.Blocks.{terms_in}
use Rattle.build_kept_keys.specs.Frames.{kept_in, recalled}
use Rattle.build_kept_keys.specs.Laws.Frames.{kept_back}
use Rattle.build_count_pass.specs.Counting.{none_empty, Counting, counting, counted_in, counts_of, minimums_of, steps_of}
use Rattle.build_fill_pass.specs.Filling.{filling, numbered_from, placed_in}
use Rattle.build_fill_pass.specs.Laws.Numbered.{numbered-whole}
use Rattle.build_output.specs.Placed.{cursors_of, filled_by, second_pass}
use Rattle.build_output.specs.Settled.{written_of, over}
use Rattle.build_layout.specs.Laid.{posting_of, tops, built_from, work_for, laid_tests, laid_verdict}
use Rattle.build_sizes.specs.Sized.{measured_by, measured_left, stored_by, measured_store}
use Rattle.build_sizes.specs.Laws.Fronts.{all-full, limit-whole}
use Rattle.build_sizes.specs.Laws.Tallied.{inside, rare, tally, narrow, slight, component-count, entry-count, code-count}

sets-front : {A : Type 0} (l out : List A) → length out ≤ length l → sets l 0 out ≡ laid out l
sets-front l out h = sets-eq out l 0 (omega arith) ∙ ap (λ n. out ++ drop n l) (let w : 0 + length out ≡ length out = omega arith in w)

module _ (dimension : ℕ) (s : SummarizationStrategy) (d : Documents) (order blocks keys places : List ℕ) (maxima : List Float) (counts : List ℕ) (o : Outputs)
    (accepted : laid_verdict dimension s d order blocks (counting keys places maxima counts o.minimums o.steps) (output_lengths o) ≡ Ok tt) where
  abbrev bs : List (List ℕ)
  bs = between blocks order

  faults : Faultless (laid_tests dimension s d order blocks (counting keys places maxima counts o.minimums o.steps) (output_lengths o))
  unfolding laid_verdict
  faults = faultless (laid_tests dimension s d order blocks (counting keys places maxima counts o.minimums o.steps) (output_lengths o)) accepted

  small : dimension ≤ dimension_limit
  small = ltb-false dimension_limit dimension (neither (eqb dimension 0) (ltb dimension_limit dimension) faults.0).1

  few : length bs ≤ block_limit
  few = let n = between-count blocks order in let k = ltb-false block_limit (length blocks - 1) faults.1.0 in omega arith

  rooms : (dimension ≤ length keys) × (dimension ≤ length places) × (dimension ≤ length maxima) × (dimension ≤ length counts)
  rooms =
      let a = neither (ltb (length keys) dimension || ltb (length places) dimension || ltb (length maxima) dimension) (ltb (length counts) dimension) faults.1.1.0 in
      let b = neither (ltb (length keys) dimension || ltb (length places) dimension) (ltb (length maxima) dimension) a.0 in
      let c = neither (ltb (length keys) dimension) (ltb (length places) dimension) b.0 in
      (ltb-false (length keys) dimension c.0, ltb-false (length places) dimension c.1, ltb-false (length maxima) dimension b.1, ltb-false (length counts) dimension a.1)

  whole : dimension ≤ length counts
  whole = rooms.3

  none : none_empty (tops dimension s d order blocks) ≡ true
  none = not-false (none_empty (tops dimension s d order blocks)) faults.1.1.1.0

  -- each part of the result finds its room
  pub record Roomy : Type 0 where
    pub postings : length order ≤ length o.postings
    pub block_offsets : length blocks ≤ length o.block_offsets
    pub summary_components : length (layout (tops dimension s d order blocks)).summary_components ≤ length o.summary_components
    pub component_offsets : length (layout (tops dimension s d order blocks)).component_offsets ≤ length o.component_offsets
    pub summary_ids : length (layout (tops dimension s d order blocks)).summary_ids ≤ length o.summary_ids
    pub codes : length (layout (tops dimension s d order blocks)).codes ≤ length o.codes
    pub minimums : length (layout (tops dimension s d order blocks)).minimums ≤ length o.minimums
    pub steps : length (layout (tops dimension s d order blocks)).steps ≤ length o.steps

  roomy : Roomy
  unfolding output_suffices output_lengths built_from
  roomy =
      let y = layout (tops dimension s d order blocks) in
      let a = both (leb (length (map (posting_of d) order)) (length o.postings)) _ (not-false (output_suffices (built_from dimension s d order blocks) (output_lengths o)) faults.1.1.1.1.0) in
      let b = both (leb (length blocks) (length o.block_offsets)) _ a.1 in
      let c = both (leb (length y.summary_components) (length o.summary_components)) _ b.1 in
      let e = both (leb (length y.component_offsets) (length o.component_offsets)) _ c.1 in
      let f = both (leb (length y.summary_ids) (length o.summary_ids)) _ e.1 in
      let g = both (leb (length y.codes) (length o.codes)) _ f.1 in
      let h = both (leb (length y.minimums) (length o.minimums)) (leb (length y.steps) (length o.steps)) g.1 in
      let m = length-map order (posting_of d) in
      record {
        postings = let l = leb-true (length (map (posting_of d) order)) (length o.postings) a.0 in omega arith;
        block_offsets = leb-true (length blocks) (length o.block_offsets) b.0;
        summary_components = leb-true (length y.summary_components) (length o.summary_components) c.0;
        component_offsets = leb-true (length y.component_offsets) (length o.component_offsets) e.0;
        summary_ids = leb-true (length y.summary_ids) (length o.summary_ids) f.0;
        codes = leb-true (length y.codes) (length o.codes) g.0;
        minimums = leb-true (length y.minimums) (length o.minimums) h.0;
        steps = leb-true (length y.steps) (length o.steps) h.1;
      }

  -- every number of a block stands whole in an entry
  numbered : numbered_from 0 (tops dimension s d order blocks) ≡ entries_from 0 (tops dimension s d order blocks)
  numbered =
      let n : length (tops dimension s d order blocks) ≡ length bs = length-map (terms_in dimension d bs) (summary_of s) ∙ length-map bs (λ block. below dimension (block_terms d block)) in
      let k = block-fits (length bs) few in
      numbered-whole 0 (tops dimension s d order blocks) (omega arith)

  abbrev t : List ℕ
  t = foldl counted (blank dimension) (map component_of (entries_from 0 (tops dimension s d order blocks)))

  total-is : total t ≡ length (layout (tops dimension s d order blocks)).summary_ids
  total-is = sym (entries-total t (slight dimension s d bs few small)) ∙ entry-count dimension s d bs few small

  starts-long : length (starts_from 0 t) ≡ length (layout (tops dimension s d order blocks)).component_offsets
  unfolding layout
  starts-long = ap length (starts-groups t (entries_from 0 (tops dimension s d order blocks)) (tally dimension s d bs few small))

  -- what the first pass left: nothing was refused, so it counted
  abbrev given : Counting
  given = counting keys places maxima counts o.minimums o.steps

  counted_is : (after : Counting) → after ≡ measured_left dimension s d order blocks given
      → after ≡ (let c = counted_in (tops dimension s d order blocks) (counting keys places maxima (take dimension counts) o.minimums o.steps) in counting c.keys c.places c.maxima (c.entry_counts ++ drop dimension counts) c.minimums c.steps)
  counted_is after e =
      e ∙ ap (λ v. measured_by v dimension (tops dimension s d order blocks) given) (accepted-by (work_for dimension blocks given) (faults.0, (faults.1.0, (faults.1.1.0, tt))))
      ∙ ap (λ t. let c = counted_in t (counting keys places maxima (take dimension counts) o.minimums o.steps) in counting c.keys c.places c.maxima (c.entry_counts ++ drop dimension counts) c.minimums c.steps) (all-full (tops dimension s d order blocks) none)

  front-counts : (c : List ℕ) → c ≡ counts_of (tops dimension s d order blocks) (take dimension counts) ++ drop dimension counts → take dimension c ≡ counts_of (tops dimension s d order blocks) (take dimension counts)
  front-counts c e =
      ap (take dimension) e
      ∙ take_at (counts_of (tops dimension s d order blocks) (take dimension counts)) (drop dimension counts) dimension
      (counts-long (map component_of (entries_from 0 (tops dimension s d order blocks))) (replicate (length (take dimension counts)) 0) ∙ length-replicate {A = ℕ} (length (take dimension counts)) 0 ∙ length-take-le dimension counts whole)

  module _ (held : EachOf (EachOf Held) (tops dimension s d order blocks)) (store store' : List ℕ) (stored : store' ≡ measured_store dimension s d order blocks (counting keys places maxima counts o.minimums o.steps) store)
      (k' p' : List ℕ) (m' : List Float) (c : List ℕ) (low step : List Float) (hk : length k' ≡ length keys) (hp : length p' ≡ length places) (hm : length m' ≡ length maxima)
      (after : counting k' p' m' c low step ≡ measured_left dimension s d order blocks (counting keys places maxima counts o.minimums o.steps)) where
    -- the store gives back what the summaries keep
    recalled-are : recalled store' (tops dimension s d order blocks) ≡ tops dimension s d order blocks
    recalled-are =
        ap (λ z. recalled z (tops dimension s d order blocks))
        (stored ∙ ap (λ v. stored_by v (tops dimension s d order blocks) store) (accepted-by (work_for dimension blocks given) (faults.0, (faults.1.0, (faults.1.1.0, tt))))
        ∙ ap (λ t. kept_in t store) (all-full (tops dimension s d order blocks) none))
        ∙ kept_back (tops dimension s d order blocks) store held none

    q : take dimension c ≡ counts_of (tops dimension s d order blocks) (take dimension counts)
    q = front-counts c (ap (λ z. z.entry_counts) (counted_is (counting k' p' m' c low step) after))

    el : low ≡ sets o.minimums 0 (minimums_of (tops dimension s d order blocks))
    el = ap (λ z. z.minimums) (counted_is (counting k' p' m' c low step) after)

    es : step ≡ sets o.steps 0 (steps_of (tops dimension s d order blocks))
    es = ap (λ z. z.steps) (counted_is (counting k' p' m' c low step) after)

    counts-are : take dimension c ≡ t
    counts-are = q ∙ ap (λ n. foldl counted (replicate n 0) (map component_of (entries_from 0 (tops dimension s d order blocks)))) (length-take-le dimension counts whole)

    components-are : laid_components 0 0 (named (take dimension c)) o.summary_components ≡ laid (layout (tops dimension s d order blocks)).summary_components o.summary_components
    components-are =
        ap (λ x. laid_components 0 0 (named x) o.summary_components) counts-are
        ∙ written-components (tops dimension s d order blocks) dimension (inside dimension s d bs few small) (rare dimension s d bs few small) (narrow dimension s d bs few small) (slight dimension s d bs few small) o.summary_components (let e = component-count dimension s d bs few small in let r = roomy.summary_components in omega arith)
        ∙ ap (λ n. (layout (tops dimension s d order blocks)).summary_components ++ drop n o.summary_components) (component-count dimension s d bs few small)

    starts-are : laid_starts 0 0 (named (take dimension c)) o.component_offsets ≡ laid (layout (tops dimension s d order blocks)).component_offsets o.component_offsets
    starts-are =
        ap (λ x. laid_starts 0 0 (named x) o.component_offsets) counts-are
        ∙ written-offsets (tops dimension s d order blocks) dimension (inside dimension s d bs few small) (rare dimension s d bs few small) (narrow dimension s d bs few small) (slight dimension s d bs few small) o.component_offsets (let e = starts-long in let r = roomy.component_offsets in omega arith)
        ∙ ap (λ n. (layout (tops dimension s d order blocks)).component_offsets ++ drop n o.component_offsets) starts-long

    entries-are : (filled_by dimension s d order blocks store' (filling k' p' m' (lent (cursors_of dimension c) o.summary_ids o.codes))).entries ≡ lent (moved_by (scan_from 0 t) (entries_from 0 (tops dimension s d order blocks))) (laid (layout (tops dimension s d order blocks)).summary_ids o.summary_ids) (laid (layout (tops dimension s d order blocks)).codes o.codes)
    entries-are =
        ap (λ n. placed_in (lent (cursors_of dimension c) o.summary_ids o.codes) (recalled store' (tops n s d order blocks))) ((λ j. limit_of dimension (hk j) (hp j) (hm j)) ∙ limit-whole dimension (length keys) (length places) (length maxima) rooms.0 rooms.1 rooms.2)
        ∙ ap (placed_in (lent (cursors_of dimension c) o.summary_ids o.codes)) recalled-are
        ∙ (λ j. placed_within (min (length o.summary_ids) (length o.codes)) (lent (scanned 0 0 (named (counts-are j)) (counts-are j)) o.summary_ids o.codes) (numbered j))
        ∙ written-entries (tops dimension s d order blocks) dimension (inside dimension s d bs few small) (rare dimension s d bs few small) (narrow dimension s d bs few small) (slight dimension s d bs few small) o.summary_ids o.codes (let e = total-is in let r = roomy.summary_ids in omega arith)
        (let e = total-is in let f = code-count dimension s d bs few small in let r = roomy.codes in omega arith)
        ∙ (λ j. lent (moved_by (scan_from 0 t) (entries_from 0 (tops dimension s d order blocks))) ((layout (tops dimension s d order blocks)).summary_ids ++ drop (total-is j) o.summary_ids) ((layout (tops dimension s d order blocks)).codes ++ drop ((total-is ∙ sym (code-count dimension s d bs few small)) j) o.codes))

    pub filled_is : over (second_pass dimension s d order blocks store' k' p' m' c (written_of o)) (outputs o.postings o.block_offsets o.summary_components o.component_offsets o.summary_ids o.codes low step) ≡ filled (built_from dimension s d order blocks) o
    unfolding filled built_from layout
    filled_is = λ j. outputs (sets-front o.postings (map (posting_of d) order) (let l = length-map order (posting_of d) in let r = roomy.postings in omega arith) j) (sets-front o.block_offsets blocks roomy.block_offsets j) (components-are j) (starts-are j) (entries-are j).summary_ids (entries-are j).codes ((el ∙ sets-front o.minimums (minimums_of (tops dimension s d order blocks))
        roomy.minimums) j) ((es ∙ sets-front o.steps (steps_of (tops dimension s d order blocks)) roomy.steps) j)
