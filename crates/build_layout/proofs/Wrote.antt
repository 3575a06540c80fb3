-- The whole of writing: what the verdict says of the parts, and what they leave together.
use Rattle.std.specs.Prelude.{Result, Ok, Err}
use Prim.Native.Nat.{ℕ, ◌<◌}
use mathlib.Core.Path.{◌≡◌, refl, sym, ap, ◌∙◌}
use mathlib.Core.Bool.{Bool, true, false, true≢false}
use mathlib.Core.List.{List, [], ◌∷◌}
use lib.ListN.{length, get_or, replicate}
use lib.IntN.{pos}
use lib.Dec.{T}
use lib.Ieee.{Float, fin, nan, binary32, fits}
use Rattle.refusal.specs.declared.Refusal.{Refusal}
use Rattle.build_meaning.specs.declared.BuiltSizes.{BuiltSizes}
use Rattle.build_meaning.specs.Built.{Built}
use Rattle.build_meaning.specs.Building.{Outputs, outputs, output_lengths, zeros, float_zeros, cleared_output, answer_by}
use Rattle.configuration.specs.declared.SummarizationStrategy.{SummarizationStrategy}
use Rattle.sequences.specs.Lists.{EachOf, between}
use Rattle.documents.specs.Documents.{Documents}
use Rattle.documents.specs.Laws.TermKeys.{Held}
use Rattle.build_block_summary.specs.Blocks.{tops_of, terms_in}
use Rattle.build_block_summary.specs.Laws.Kept.{top-held}
use Rattle.build_count_pass.specs.Counting.{counting}
use Rattle.build_sizes.specs.Sized.{Measures, measured_store}
use Rattle.build_output.specs.Settled.{settled}
use Rattle.build_layout.specs.Laid.{built_from, laid_verdict, Left, left, output_by, left_by}
use Rattle.build_layout.proofs.Filled.{filled_is}

-- ---- the answer tells the verdict
abbrev is_built : Result BuiltSizes Refusal → Bool
is_built (Err r) = false
is_built (Ok b) = true

refused-by-answer : (v : Result (Unit {0}) Refusal) (b : Built) (r : Refusal) → Err r ≡ answer_by v b → (q : Refusal) × (v ≡ Err q)
refused-by-answer (Ok _) b r e = absurd (true≢false (sym (ap is_built e)))
refused-by-answer (Err q) b r e = (q, refl)

accepted-by-answer : (v : Result (Unit {0}) Refusal) (b : Built) (z : BuiltSizes) → Ok z ≡ answer_by v b → v ≡ Ok tt
accepted-by-answer (Ok _) b z e = refl
accepted-by-answer (Err q) b z e = absurd (true≢false (ap is_built e))

-- ---- zeros over a buffer of the same length
pub same-zeros : (l k z : List ℕ) → z ≡ zeros k → length k ≡ length l → z ≡ zeros l
same-zeros l k z e h = e ∙ ap (λ n. replicate n 0) h

same-float-zeros : (l k z : List Float) → z ≡ float_zeros k → length k ≡ length l → z ≡ float_zeros l
same-float-zeros l k z e h = e ∙ ap (λ n. replicate n (fin false 0 (pos 0))) h

-- ---- the kept terms of all blocks are terms as slices hold them
tops-held : (limit : ℕ) (s : SummarizationStrategy) (d : Documents) → ((k : ℕ) → get_or d.components k 0 < 4294967296) → ((k : ℕ) → T (fits binary32 (get_or d.values k nan))) → (bs : List (List ℕ))
    → EachOf (EachOf Held) (tops_of s (terms_in limit d bs))
tops-held limit s d narrow fit [] = tt
tops-held limit s d narrow fit (block ∷ bs) = (top-held s limit d block narrow fit, tops-held limit s d narrow fit bs)

-- ---- settled after the first pass, it is what the verdict says
module _ (dimension : ℕ) (s : SummarizationStrategy) (d : Documents) (order blocks k p : List ℕ) (m : List Float) (c : List ℕ) (o : Outputs) (k1 p1 : List ℕ) (m1 : List Float) (c1 : List ℕ) (low step : List Float)
    (hk : length k1 ≡ length k) (hp : length p1 ≡ length p) (hm : length m1 ≡ length m) (hc : length c1 ≡ length c) (hl : length low ≡ length o.minimums) (hs : length step ≡ length o.steps) (a : Result BuiltSizes Refusal)
    (measured : Measures dimension s d order blocks (counting k p m c o.minimums o.steps) (output_lengths o) a (counting k1 p1 m1 c1 low step))
    (narrow : (k : ℕ) → get_or d.components k 0 < 4294967296) (fit : (k : ℕ) → T (fits binary32 (get_or d.values k nan))) (store store1 : List ℕ) (stored : store1 ≡ measured_store dimension s d order blocks (counting k p m c o.minimums o.steps) store) where
  abbrev v : Result (Unit {0}) Refusal
  v = laid_verdict dimension s d order blocks (counting k p m c o.minimums o.steps) (output_lengths o)

  abbrev b : Built
  b = built_from dimension s d order blocks

  abbrev between-passes : Outputs
  between-passes = outputs o.postings o.block_offsets o.summary_components o.component_offsets o.summary_ids o.codes low step

  cleared : cleared_output between-passes ≡ cleared_output o
  unfolding cleared_output
  cleared = λ j. outputs (zeros o.postings) (zeros o.block_offsets) (zeros o.summary_components) (zeros o.component_offsets) (zeros o.summary_ids) (zeros o.codes) (same-float-zeros o.minimums low (float_zeros low) refl hl j) (same-float-zeros o.steps step (float_zeros step) refl hs j)

  ended : (a : Result BuiltSizes Refusal) → a ≡ answer_by v b → settled a dimension s d order blocks store1 between-passes k1 p1 m1 c1 ≡ left_by v b o k p m c
  ended (Err r) e =
      let q = refused-by-answer v b r e in
      (λ j. left (e j) ((cleared ∙ sym (ap (λ v. output_by v b o) q.1)) j) (same-zeros k k1 (zeros k1) refl hk j) (same-zeros p p1 (zeros p1) refl hp j) (same-float-zeros m m1 (float_zeros m1) refl hm j) (same-zeros c c1 (zeros c1) refl hc j))
  ended (Ok z) e =
      let q = accepted-by-answer v b z e in
      (λ j. left (e j) ((filled_is dimension s d order blocks k p m c o q (tops-held dimension s d narrow fit (between blocks order)) store store1 stored k1 p1 m1 c1 low step hk hp hm
      measured.left ∙ sym (ap (λ v. output_by v b o) q)) j) (same-zeros k k1 (zeros k1) refl hk j) (same-zeros p p1 (zeros p1) refl hp j) (same-float-zeros m m1 (float_zeros m1) refl hm j) (same-zeros c c1 (zeros c1) refl hc j))

  pub wrote : (l : Left) → l ≡ settled a dimension s d order blocks store1 between-passes k1 p1 m1 c1 → l ≡ left_by v b o k p m c
  wrote l e = e ∙ ended a measured.answer
