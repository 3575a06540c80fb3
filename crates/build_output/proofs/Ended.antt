-- What is left of an answer, from what its parts left.
use Rattle.std.specs.Prelude.{Result, Ok, Err}
use Prim.Native.Nat.{ℕ}
use mathlib.Core.Path.{◌≡◌, sym, ap, ◌∙◌}
use mathlib.Core.List.{List}
use lib.Ieee.{Float}
use Rattle.refusal.specs.declared.Refusal.{Refusal}
use Rattle.configuration.specs.declared.SummarizationStrategy.{SummarizationStrategy}
use Rattle.documents.specs.Documents.{Documents}
use Rattle.build_meaning.specs.declared.BuiltSizes.{BuiltSizes}
use Rattle.build_meaning.specs.Building.{Outputs, zeros, float_zeros, cleared_output}
use Rattle.build_output.specs.Placed.{Written, second_pass}
use Rattle.build_output.specs.Settled.{left, written_of, over, settled}

module _ (dimension : ℕ) (s : SummarizationStrategy) (d : Documents) (order blocks store : List ℕ) (o o' : Outputs) (k p c k' p' c' : List ℕ) (m m' : List Float) (a : Result BuiltSizes Refusal) (ek : k' ≡ zeros k) (ep : p' ≡ zeros p) (em : m' ≡ float_zeros m) (ec : c' ≡ zeros c) where
  pub settled-refused : (r : Refusal) → a ≡ Err r → o' ≡ cleared_output o → left (Err r) o' k' p' m' c' ≡ settled a dimension s d order blocks store o k p m c
  settled-refused r w eo = (λ j. left (Err r) (eo j) (ek j) (ep j) (em j) (ec j)) ∙ ap (λ a. settled a dimension s d order blocks store o k p m c) (sym w)

  pub settled-built : (z : BuiltSizes) → a ≡ Ok z → (w : Written) → o' ≡ over w o → w ≡ second_pass dimension s d order blocks store k p m c (written_of o) → left (Ok z) o' k' p' m' c' ≡ settled a dimension s d order blocks store o k p m c
  settled-built z e w eo ew = (λ j. left (Ok z) ((eo ∙ ap (λ w. over w o) ew) j) (ek j) (ep j) (em j) (ec j)) ∙ ap (λ a. settled a dimension s d order blocks store o k p m c) (sym e)
