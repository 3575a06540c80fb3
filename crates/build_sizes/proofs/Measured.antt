-- What the first pass leaves and answers, from what counting left.
use Rattle.std.specs.Prelude.{Result, Ok, Err}
use Rattle.build_meaning.specs.declared.BuiltSizes.{BuiltSizes}
use Prim.Native.Nat.{ℕ, suc, ◌-◌, ◌≤◌}
use native.Mathlib.Omega.{arith}
use mathlib.Core.Path.{◌≡◌, refl, sym, ap, ◌∙◌}
use mathlib.Core.Bool.{Bool, true, false, not, ◌&&◌, ◌||◌, cond}
use mathlib.Core.List.{List, [], ◌∷◌, ◌++◌, map, foldl}
use lib.ListN.{length, take, drop, replicate, length-map}
use lib.Seq.{take_at, length-take-le}
use lib.Dec.{leb, ltb, eqb}
use lib.Ieee.{Float}
use borrow.Author.Tests.{ltb-false, not-true, not-false}
use Rattle.refusal.specs.declared.Refusal.{Refusal}
use Rattle.refusal.specs.declared.Refusal.TheVariants.{BufferTooShort, EmptySummary}
use Rattle.refusal.specs.First.{Test, ◌gives◌, first_of, Faultless}
use Rattle.refusal.specs.Laws.First.{faultless, first-after, first-refused}
use Rattle.configuration.specs.declared.SummarizationStrategy.{SummarizationStrategy}
use Rattle.sequences.specs.Lists.{between}
use Rattle.sequences.specs.Laws.Lists.{neither, between-count}
use Rattle.blocking.specs.Limits.{block_limit, dimension_limit}
use Rattle.documents.specs.Documents.{Term, Documents}
use Rattle.sparse_layout.specs.Layouts.{entries_from}
use Rattle.sparse_layout.specs.Placing.{component_of}
use Rattle.sparse_layout.specs.Laws.Guards.{blank}
use Rattle.sparse_layout.specs.Keys.{counted}
use Rattle.summary_terms.specs.Answers.{limit_of}
use Rattle.build_meaning.specs.Built.{Built}
use Rattle.build_meaning.specs.Needs.{output_suffices}
use Rattle.build_meaning.specs.Building.{answer_by}
use Rattle.build_block_summary.specs.Blocks.{tops}
use Rattle.build_kept_keys.specs.Frames.{kept_in}
use Rattle.build_count_pass.specs.Counting.{none_empty, full_first, Counting, counting, count_left, counts_of}
use Rattle.build_sizes.specs.declared.OutputLengths.{OutputLengths}
use Rattle.build_sizes.specs.Sized.{posting_of, built_from, work_for, laid_verdict, room_of, judged_room, sizes_or_refused, room_by, room_answer, measured_by, measured_left, stored_by, measured_store, Measures}
use Rattle.build_sizes.specs.Laws.Fronts.{all-full, limit-whole}
use Rattle.build_sizes.specs.Laws.Tallied.{component-count, start-count, entry-count, code-count, minimum-count, step_count}

-- ---- accepted by counting: the room decides
room-agrees : (b : Built) (l : OutputLengths) (p o n e m : ℕ) → length b.postings ≡ p → length b.block_offsets ≡ o → length b.summaries.summary_components ≡ n → length b.summaries.component_offsets ≡ suc n → length b.summaries.summary_ids ≡ e → length b.summaries.codes ≡ e → length b.summaries.minimums ≡ m → length b.summaries.steps ≡ m
    → room_by p o n e m l ≡ answer_by (first_of ((not (output_suffices b (room_of l)) gives BufferTooShort) ∷ [])) b
unfolding output_suffices
room-agrees b l p o n e m hp ho hn hs hi hc hm ht =
    (λ j. sizes_or_refused (judged j) (sym hp j) (sym ho j) (sym hn j) (sym hi j) (sym hm j)) ∙ go (output_suffices b (room_of l))
  where
    starts : leb (suc n) l.component_offsets ≡ ltb n l.component_offsets
    starts = refl

    right : leb (length b.summaries.component_offsets) l.component_offsets ≡ ltb n l.component_offsets
    right = ap (λ k. leb k l.component_offsets) hs

    assoc : (a c f g i j k t : Bool) → ((a && c) && ((f && g) && ((i && j) && (k && t)))) ≡ (a && (c && (f && (g && (i && (j && (k && t)))))))
    assoc true true true true true true k t = refl
    assoc true true true true true false k t = refl
    assoc true true true true false j k t = refl
    assoc true true true false i j k t = refl
    assoc true true false g i j k t = refl
    assoc true false f g i j k t = refl
    assoc false c f g i j k t = refl

    judged : judged_room p o n e m l ≡ output_suffices b (room_of l)
    judged =
        assoc (leb p l.postings) (leb o l.block_offsets) (leb n l.summary_components) (ltb n l.component_offsets) (leb e l.summary_ids) (leb e l.codes) (leb m l.minimums) (leb m l.steps)
        ∙ (λ j. leb (sym hp j) l.postings && (leb (sym ho j) l.block_offsets && (leb (sym hn j) l.summary_components && (sym right j && (leb (sym hi j) l.summary_ids && (leb (sym hc j) l.codes && (leb (sym hm j) l.minimums && leb (sym ht j) l.steps)))))))

    go : (t : Bool) → sizes_or_refused t (length b.postings) (length b.block_offsets) (length b.summaries.summary_components) (length b.summaries.summary_ids) (length b.summaries.minimums) ≡ answer_by (first_of ((not t gives BufferTooShort) ∷ [])) b
    go true = refl
    go false = refl

module _ (dimension : ℕ) (s : SummarizationStrategy) (d : Documents) (order blocks : List ℕ) (w : Counting) (l : OutputLengths) (v : Result (Unit {0}) Refusal) (judged : v ≡ first_of (work_for dimension blocks w)) where
  abbrev T : List (List Term)
  T = tops dimension s d order blocks

  abbrev last_tests : List Test
  last_tests = (not (none_empty T) gives EmptySummary) ∷ (not (output_suffices (built_from dimension s d order blocks) (room_of l)) gives BufferTooShort) ∷ []

  -- the work is refused
  pub measured-refused : (r : Refusal) → v ≡ Err r → Measures dimension s d order blocks w (room_of l) (Err r) w
  unfolding laid_verdict
  measured-refused r f =
      record {
        answer = sym (ap (λ v. answer_by v (built_from dimension s d order blocks)) (first-refused (work_for dimension blocks w) last_tests r (sym judged ∙ f)));
        left = sym (ap (λ v. measured_by v dimension T w) (sym judged ∙ f));
      }

  pub stored_refused : (r : Refusal) → v ≡ Err r → (store : List ℕ) → store ≡ measured_store dimension s d order blocks w store
  stored_refused r f store = sym (ap (λ v. stored_by v T store) (sym judged ∙ f))

  -- it is accepted: there are no more blocks than there may be, and each buffer has room
  module _ (f : v ≡ Ok tt) where
    faults : Faultless (work_for dimension blocks w)
    faults = faultless (work_for dimension blocks w) (sym judged ∙ f)

    small : dimension ≤ dimension_limit
    small = ltb-false dimension_limit dimension (neither (eqb dimension 0) (ltb dimension_limit dimension) faults.0).1

    few : length (between blocks order) ≤ block_limit
    few = let n = between-count blocks order in let k = ltb-false block_limit (length blocks - 1) faults.1.0 in omega arith

    pub roomy : (dimension ≤ length w.keys) × (dimension ≤ length w.places) × (dimension ≤ length w.maxima) × (dimension ≤ length w.entry_counts)
    roomy =
        let a = neither (ltb (length w.keys) dimension || ltb (length w.places) dimension || ltb (length w.maxima) dimension) (ltb (length w.entry_counts) dimension) faults.1.1.0 in
        let b = neither (ltb (length w.keys) dimension || ltb (length w.places) dimension) (ltb (length w.maxima) dimension) a.0 in
        let c = neither (ltb (length w.keys) dimension) (ltb (length w.places) dimension) b.0 in
        (ltb-false (length w.keys) dimension c.0, ltb-false (length w.places) dimension c.1, ltb-false (length w.maxima) dimension b.1, ltb-false (length w.entry_counts) dimension a.1)

    limit_is : limit_of dimension (length w.keys) (length w.places) (length w.maxima) ≡ dimension
    limit_is = limit-whole dimension (length w.keys) (length w.places) (length w.maxima) roomy.0 roomy.1 roomy.2

    pub stored : (store after : List ℕ) → after ≡ kept_in (full_first (tops (limit_of dimension (length w.keys) (length w.places) (length w.maxima)) s d order blocks)) store → after ≡ measured_store dimension s d order blocks w store
    stored store after q = q ∙ ap (λ n. kept_in (full_first (tops n s d order blocks)) store) limit_is ∙ sym (ap (λ v. stored_by v T store) (sym judged ∙ f))

    last-decide : laid_verdict dimension s d order blocks w (room_of l) ≡ first_of last_tests
    unfolding laid_verdict
    last-decide = first-after (work_for dimension blocks w) last_tests faults

    abbrev given : Counting
    given = counting w.keys w.places w.maxima (take dimension w.entry_counts) w.minimums w.steps

    -- what counting answered and left
    module _ (full : Bool) (answered : full ≡ none_empty (tops (limit_of dimension (length w.keys) (length w.places) (length w.maxima)) s d order blocks)) (k p : List ℕ) (m : List Float) (x : List ℕ) (low step : List Float)
        (left : counting k p m x low step ≡ count_left (tops (limit_of dimension (length w.keys) (length w.places) (length w.maxima)) s d order blocks) (counting w.keys w.places w.maxima (take dimension w.entry_counts) w.minimums w.steps)) where
      full_is : none_empty T ≡ full
      full_is = ap (λ n. none_empty (tops n s d order blocks)) (sym limit_is) ∙ sym answered

      counted_is : counting k p m x low step ≡ count_left T given
      counted_is = left ∙ ap (λ n. count_left (tops n s d order blocks) given) limit_is

      left_is : counting k p m (x ++ drop dimension w.entry_counts) low step ≡ measured_left dimension s d order blocks w
      left_is =
          ap (λ c. counting c.keys c.places c.maxima (c.entry_counts ++ drop dimension w.entry_counts) c.minimums c.steps) counted_is
          ∙ sym (ap (λ v. measured_by v dimension T w) (sym judged ∙ f))

      pub measured-empty : not full ≡ true → Measures dimension s d order blocks w (room_of l) (Err EmptySummary) (counting k p m (x ++ drop dimension w.entry_counts) low step)
      measured-empty h =
          let z : none_empty T ≡ false = full_is ∙ not-true full h in
          record {
            answer = sym (ap (λ v. answer_by v (built_from dimension s d order blocks)) (last-decide ∙ ap (λ b. cond (not b) (Err EmptySummary) (first_of ((not (output_suffices (built_from dimension s d order blocks) (room_of l)) gives BufferTooShort) ∷ []))) z));
            left = left_is;
          }

      module _ (h : not full ≡ false) (long : length x ≡ length (take dimension w.entry_counts)) where
        none : none_empty T ≡ true
        none = full_is ∙ not-false full h

        cut-long : length (take dimension w.entry_counts) ≡ dimension
        cut-long = length-take-le dimension w.entry_counts roomy.3

        tallied-are : x ≡ foldl counted (blank dimension) (map component_of (entries_from 0 T))
        tallied-are =
            ap (λ c. c.entry_counts) counted_is
            ∙ ap (λ t. counts_of t (take dimension w.entry_counts)) (all-full T none)
            ∙ ap (λ z. foldl counted (replicate z 0) (map component_of (entries_from 0 T))) cut-long

        front : take dimension (x ++ drop dimension w.entry_counts) ≡ x
        front = take_at x (drop dimension w.entry_counts) dimension (long ∙ cut-long)

        sizes : room_answer (length order) (length blocks) x l ≡ answer_by (first_of ((not (output_suffices (built_from dimension s d order blocks) (room_of l)) gives BufferTooShort) ∷ [])) (built_from dimension s d order blocks)
        unfolding built_from
        sizes =
            let bs = between blocks order in
            ap (λ x. room_answer (length order) (length blocks) x l) tallied-are
            ∙ room-agrees (built_from dimension s d order blocks) l (length order) (length blocks) _ _ (length blocks - 1) (length-map order (posting_of d)) refl
            (sym (component-count dimension s d bs few small)) (start-count dimension s d bs few small ∙ ap suc (sym (component-count dimension s d bs few small)))
            (sym (entry-count dimension s d bs few small)) (code-count dimension s d bs few small ∙ sym (entry-count dimension s d bs few small))
            (minimum-count dimension s d bs few small ∙ between-count blocks order) (step_count dimension s d bs few small ∙ between-count blocks order)

        pub measured : (r : Result BuiltSizes Refusal) → r ≡ room_answer (length order) (length blocks) (take dimension (x ++ drop dimension w.entry_counts)) l → Measures dimension s d order blocks w (room_of l) r (counting k p m (x ++ drop dimension w.entry_counts) low step)
        measured r j =
            record {
              answer =
                  j ∙ ap (λ c. room_answer (length order) (length blocks) c l) front ∙ sizes
                  ∙ sym (ap (λ v. answer_by v (built_from dimension s d order blocks)) (last-decide ∙ ap (λ b. cond (not b) (Err EmptySummary) (first_of ((not (output_suffices (built_from dimension s d order blocks) (room_of l)) gives BufferTooShort) ∷ []))) none));
              left = left_is;
            }
