-- The two ends of a build.
use Rattle.std.specs.Prelude.{Result, Ok, Err}
use Rattle.build_meaning.specs.declared.BuiltSizes.{BuiltSizes}
use Prim.Native.Nat.{ℕ, min}
use mathlib.Core.Path.{◌≡◌, sym, ap, ◌∙◌}
use mathlib.Core.List.{List}
use lib.ListN.{length, take}
use lib.Ieee.{Float}
use Rattle.refusal.specs.declared.Refusal.{Refusal}
use Rattle.configuration.specs.declared.SummarizationStrategy.{SummarizationStrategy}
use Rattle.documents.specs.Documents.{Documents}
use Rattle.build_meaning.specs.Building.{Outputs, output_lengths, zeros, cleared_output}
use Rattle.build_count_pass.specs.Counting.{counting}
use Rattle.build_layout.specs.Laid.{built_from, laid_verdict, left, left_by}
use Rattle.build_result.specs.Finished.{finished, finished_by, slots_by}
use Rattle.sequences.specs.Laws.Lists.{cut-is}

module _ (b : Result ℕ Refusal) (dimension : ℕ) (s : SummarizationStrategy) (d : Documents) (listed : ℕ) (o : Outputs) (order blocks k c : List ℕ) (x : List Float) (t : List ℕ) where
  pub refused_end : (r : Refusal) (o' : Outputs) → b ≡ Err r → o' ≡ cleared_output o → finished (left (Err r) o' k c x t) order blocks ≡ finished_by b dimension s d listed o order blocks k c x t
  refused_end r o' w e = ap (λ o. finished (left (Err r) o k c x t) order blocks) e ∙ ap (λ b. finished_by b dimension s d listed o order blocks k c x t) (sym w)

  pub written-end : (count n m : ℕ) → b ≡ Ok count → n ≡ min listed (length order) → m ≡ min count (length blocks) → (r : Result BuiltSizes Refusal) (o' : Outputs) (k' c' : List ℕ) (x' : List Float) (t' order' blocks' : List ℕ)
      → left r o' k' c' x' t' ≡ left_by (laid_verdict dimension s d (take n order) (take m blocks) (counting k c x t o.minimums o.steps) (output_lengths o)) (built_from dimension s d (take n order) (take m blocks)) o k c x t
      → order' ≡ zeros order → blocks' ≡ zeros blocks → finished (left r o' k' c' x' t') order' blocks' ≡ finished_by b dimension s d listed o order blocks k c x t
  written-end count n m w en em r o' k' c' x' t' order' blocks' e eo eb =
      (λ j. finished (e j) (eo j) (eb j))
      ∙ (λ j. finished (left_by (laid_verdict dimension s d (cut-is order listed n en j) (cut-is blocks count m em j) (counting k c x t o.minimums o.steps) (output_lengths o)) (built_from dimension s d (cut-is order listed n en j) (cut-is blocks count m em j)) o k c x t) (zeros order) (zeros blocks))
      ∙ ap (λ b. finished_by b dimension s d listed o order blocks k c x t) (sym w)

-- ---- the slots
pub slots-refused : (b : Result ℕ Refusal) (slots : List ℕ) (r : Refusal) → b ≡ Err r → slots ≡ slots_by b slots
slots-refused b slots r w = sym (ap (λ b. slots_by b slots) w)

pub slots-cleared : (b : Result ℕ Refusal) (slots after : List ℕ) (n : ℕ) → b ≡ Ok n → after ≡ zeros slots → after ≡ slots_by b slots
slots-cleared b slots after n w e = e ∙ sym (ap (λ b. slots_by b slots) w)
