-- A list's blocks made and then its layout written, or either refused: together that is the build.
use Rattle.build_meaning.specs.declared.BuiltSizes.{BuiltSizes}
use Rattle.std.specs.Prelude.{ℕ, ◌<◌, ◌≡◌, refl, Bool, true, not, List, [], ◌∷◌, ◌++◌, get_or, pos, T, Float, Result, Ok, Err}
use Rattle.std.proofs.Common.{arith, ◌∙◌, true≢false}
use Rattle.std.proofs.Math.Path.{sym, ap}
use Rattle.std.proofs.Math.Bool.{false}
use Rattle.std.proofs.Math.ListN.{length, take, replicate, length-replicate}
use Rattle.std.specs.Float.{fin, nan, binary32}
use Rattle.std.specs.Float.Ieee.{fits}
use Rattle.refusal.specs.declared.Refusal.{Refusal}
use Rattle.refusal.specs.declared.Refusal.TheVariants.{BufferTooShort, EmptySummary}
use Rattle.refusal.specs.First.{Test, ◌gives◌, first_of}
use Rattle.refusal.specs.Laws.First.{faultless, first-after, first-refused}
use Rattle.clearing.specs.Laws.Zeros.{zeros-twice, float-zeros-twice}
use Rattle.build_admission.specs.Admission.{input_tests}
use Rattle.build_count_pass.specs.Counting.{counting}
use Rattle.build_meaning.specs.Built.{Input, blocked_by, blocks, summaries, built}
use Rattle.build_meaning.specs.Needs.{sizes_for, sizes_of, scratch_needs, scratch_suffices, output_suffices}
use Rattle.build_meaning.specs.Building as build
use Rattle.build_meaning.specs.Building.{Outputs, Scratches, scratches, lent, output_lengths, scratch_lengths, some_empty, tests, verdict_of, laid, zeros, float_zeros, cleared_output, cleared_scratch}
use Rattle.build_meaning.specs.Building.{answer_by, leaves, builds}
use Rattle.build_meaning.specs.Laws.Left.{in-front}
use Rattle.build_meaning.specs.Laws.Offsets.{as_many}
use Rattle.build_ready.specs.Made as blocking
use Rattle.build_ready.specs.Made.{make_tests, holding}
use Rattle.build_layout.specs.Laid as layout
use Rattle.build_layout.specs.Laid.{built_from, laid_verdict, output_by}
use Rattle.build_whole.specs.Laws.Agree.{room, same-result, same-verdict}

regroup : (a : List Test) (t : Test) (b : List Test) → (a ++ (t ∷ [])) ++ b ≡ a ++ (t ∷ b)
regroup [] t b = refl
regroup (x ∷ a) t b = ap (λ l. x ∷ l) (regroup a t b)

-- ---- what the answer of making blocks says of its verdict
abbrev is_offsets : Result ℕ Refusal → Bool
is_offsets (Err r) = false
is_offsets (Ok n) = true

abbrev reason_or : Refusal → Result ℕ Refusal → Refusal
reason_or q (Err r) = r
reason_or q (Ok n) = q

abbrev count_in : Result ℕ Refusal → ℕ
count_in (Err r) = 0
count_in (Ok n) = n

module _ (g : Input) (s : Scratches) where
  abbrev pub makes : Result (Unit {0}) Refusal
  makes = first_of (make_tests g.dimension g.blocking g.documents g.ids g.centroids s)

  -- a build's verdict is that of making blocks, and then its last two tests
  abbrev last_tests : Outputs → List Test
  last_tests o = (some_empty (summaries g) gives EmptySummary) ∷ (not (output_suffices (built g) (output_lengths o)) gives BufferTooShort) ∷ []

  in-turn : (o : Outputs) → verdict_of g (lent o s) ≡ first_of (make_tests g.dimension g.blocking g.documents g.ids g.centroids s ++ last_tests o)
  unfolding verdict_of tests sizes_of
  in-turn o = ap first_of (sym (regroup (input_tests g.dimension g.blocking g.documents g.ids g.centroids)
      (not (scratch_suffices (scratch_needs (sizes_for g.dimension g.blocking g.documents g.ids g.centroids)) (scratch_lengths s)) gives BufferTooShort) (last_tests o)))

  by-verdict : (v : Result (Unit {0}) Refusal) (o : Outputs) → build.left_by v g (lent o s) ≡ lent (output_by v (built g) o) (cleared_scratch s)
  by-verdict (Ok _) o = refl
  by-verdict (Err r) o = refl

  -- a build of any verdict
  built-by : (v : Result (Unit {0}) Refusal) (o : Outputs) → verdict_of g (lent o s) ≡ v → builds g (lent o s) ≡ leaves (answer_by v (built g)) (lent (output_by v (built g) o) (cleared_scratch s))
  unfolding builds build.left
  built-by v o e = ap (λ v. leaves (answer_by v (built g)) (build.left_by v g (lent o s))) e ∙ ap (leaves (answer_by v (built g))) (by-verdict v o)

  module _ (r1 : Result ℕ Refusal) (s1 : Scratches) (e : blocking.left r1 s1 ≡ blocking.left_by makes (blocked_by g.blocking g.documents g.centroids g.ids) s) where
    -- ---- refused before the layout
    refused-first : (r : Refusal) → r1 ≡ Err r → (v : Result (Unit {0}) Refusal) → makes ≡ v → blocking.left r1 s1 ≡ blocking.left_by v (blocked_by g.blocking g.documents g.centroids g.ids) s
        → (makes ≡ Err r) × (s1 ≡ cleared_scratch s)
    refused-first r w (Ok _) q e = absurd (true≢false (sym (ap is_offsets (sym w ∙ ap (λ l. l.answer) e))))
    refused-first r w (Err x) q e = (q ∙ ap Err (sym (ap (reason_or r) (sym w ∙ ap (λ l. l.answer) e))), ap (λ l. l.scratch) e)

    pub refused-so : (r : Refusal) (o o' : Outputs) → r1 ≡ Err r → o' ≡ cleared_output o → leaves (Err r) (lent o' s1) ≡ builds g (lent o s)
    refused-so r o o' w c =
        let f = refused-first r w makes refl e in
        (λ j. leaves (Err r) (lent (c j) (f.1 j))) ∙ sym (built-by (Err r) o (in-turn o ∙ first-refused (make_tests g.dimension g.blocking g.documents g.ids
        g.centroids s) (last_tests o) r f.0))

    -- ---- blocks that were made
    module _ (count : ℕ) (w : r1 ≡ Ok count) where
      made-first : (v : Result (Unit {0}) Refusal) → makes ≡ v → blocking.left r1 s1 ≡ blocking.left_by v (blocked_by g.blocking g.documents g.centroids g.ids) s
          → (makes ≡ Ok tt) × (count ≡ length (blocks g).block_offsets) × (s1 ≡ holding (blocks g) s)
      unfolding blocks
      made-first (Ok _) q e = (q, ap count_in (sym w ∙ ap (λ l. l.answer) e), ap (λ l. l.scratch) e)
      made-first (Err x) q e = absurd (true≢false (ap is_offsets (sym w ∙ ap (λ l. l.answer) e)))

      facts : (makes ≡ Ok tt) × (count ≡ length (blocks g).block_offsets) × (s1 ≡ holding (blocks g) s)
      facts = made-first makes refl e

      order_is : take (length g.ids) s1.order ≡ (blocks g).documents
      unfolding cleared_scratch
      order_is = ap (λ s. take (length g.ids) s.order) facts.2 ∙ ap (λ n. take n (laid (blocks g).documents (zeros s.order))) (sym (as_many g))
          ∙ in-front (blocks g).documents (zeros s.order)

      offsets_are : take count s1.blocks ≡ (blocks g).block_offsets
      unfolding cleared_scratch
      offsets_are = ap (λ s. take count s.blocks) facts.2 ∙ ap (λ n. take n (laid (blocks g).block_offsets (zeros s.blocks))) facts.1
          ∙ in-front (blocks g).block_offsets (zeros s.blocks)

      -- the rest is zero, and as long as before
      module _ (narrow : (k : ℕ) → get_or g.documents.components k 0 < 4294967296) (fit : (k : ℕ) → T (fits binary32 (get_or g.documents.values k nan))) (o : Outputs) where
        abbrev wrote : Result (Unit {0}) Refusal
        wrote = laid_verdict g.dimension g.summarization g.documents (take (length g.ids) s1.order) (take count s1.blocks) (counting s1.keys s1.counts s1.sums s1.starts
            o.minimums o.steps) (output_lengths o)

        wrote-is : laid_verdict g.dimension g.summarization g.documents (take (length g.ids) s1.order) (take count s1.blocks) (counting s1.keys s1.counts s1.sums s1.starts
            o.minimums o.steps) (output_lengths o) ≡ verdict_of g (lent o s)
        unfolding cleared_scratch scratch_lengths
        wrote-is =
            let h = room g s facts.0 in
            let k : length s1.keys ≡ length s.keys = ap (λ s. length s.keys) facts.2 ∙ length-replicate {A = ℕ} (length s.keys) 0 in
            let c : length s1.counts ≡ length s.counts = ap (λ s. length s.counts) facts.2 ∙ length-replicate {A = ℕ} (length s.counts) 0 in
            let m : length s1.sums ≡ length s.sums = ap (λ s. length s.sums) facts.2 ∙ length-replicate (length s.sums) (fin false 0 (pos 0)) in
            let t : length s1.starts ≡ length s.starts = ap (λ s. length s.starts) facts.2 ∙ length-replicate {A = ℕ} (length s.starts) 0 in
            (λ j. laid_verdict g.dimension g.summarization g.documents (order_is j) (offsets_are j) (counting s1.keys s1.counts s1.sums s1.starts o.minimums o.steps)
            (output_lengths o))
            ∙ same-verdict g s facts.0 narrow fit (counting s1.keys s1.counts s1.sums s1.starts o.minimums o.steps) (output_lengths o) (omega (arith, h.keys))
            (omega (arith, h.counts)) (omega (arith, h.sums)) (omega (arith, h.starts))
            ∙ sym (in-turn o ∙ first-after (make_tests g.dimension g.blocking g.documents g.ids g.centroids s) (last_tests o) (faultless (make_tests g.dimension g.blocking
            g.documents g.ids g.centroids s) facts.0))

        result-is : built_from g.dimension g.summarization g.documents (take (length g.ids) s1.order) (take count s1.blocks) ≡ built g
        result-is = (λ j. built_from g.dimension g.summarization g.documents (order_is j) (offsets_are j)) ∙ same-result g s facts.0 narrow fit

        pub written-so : (r : Result BuiltSizes Refusal) (o' : Outputs) (order' blocks' counts' starts' keys' : List ℕ) (sums' : List Float)
            → layout.left r o' keys' counts' sums' starts'
            ≡ layout.left_by (laid_verdict g.dimension g.summarization g.documents (take (length g.ids) s1.order) (take count s1.blocks) (counting s1.keys s1.counts s1.sums
            s1.starts o.minimums o.steps) (output_lengths o))
            (built_from g.dimension g.summarization g.documents (take (length g.ids) s1.order) (take count s1.blocks)) o s1.keys s1.counts s1.sums s1.starts
            → order' ≡ zeros s1.order → length s1.order ≡ length s.order → blocks' ≡ zeros s1.blocks → length s1.blocks ≡ length s.blocks
            → leaves r (lent o' (scratches order' blocks' s1.sorted s1.known s1.taken counts' starts' s1.slots s1.weights sums' keys')) ≡ builds g (lent o s)
        unfolding cleared_scratch
        written-so r o' order' blocks' counts' starts' keys' sums' p eo lo eb lb =
            (λ j. leaves (p j).answer (lent (p j).output (scratches ((eo ∙ ap (λ n. replicate n 0) lo) j) ((eb ∙ ap (λ n. replicate n 0) lb) j) (facts.2 j).sorted (facts.2 j).known
            (facts.2 j).taken
            ((ap (λ l. l.places) p ∙ ap (λ s. zeros s.counts) facts.2 ∙ zeros-twice s.counts) j)
            ((ap (λ l. l.entry_counts) p ∙ ap (λ s. zeros s.starts) facts.2 ∙ zeros-twice s.starts) j)
            (facts.2 j).slots (facts.2 j).weights
            ((ap (λ l. l.maxima) p ∙ ap (λ s. float_zeros s.sums) facts.2 ∙ float-zeros-twice s.sums) j)
            ((ap (λ l. l.keys) p ∙ ap (λ s. zeros s.keys) facts.2 ∙ zeros-twice s.keys) j))))
            ∙ (λ j. leaves (answer_by (wrote-is j) (result-is j)) (lent (output_by (wrote-is j) (result-is j) o) (cleared_scratch s)))
            ∙ sym (built-by (verdict_of g (lent o s)) o refl)
