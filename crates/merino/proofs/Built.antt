-- What crosses to C of a build, from what the build left.
use Rattle.std.specs.Prelude.{Result}
use Rattle.build_meaning.specs.declared.BuiltSizes.{BuiltSizes}
use Rattle.refusal.specs.declared.Refusal.{Refusal}
use Prim.Native.Nat.{ℕ}
use mathlib.Core.Path.{◌≡◌, ap, ◌∙◌}
use mathlib.Core.List.{List}
use Rattle.configuration.specs.declared.BlockingStrategy.{BlockingStrategy}
use Rattle.configuration.specs.declared.SummarizationStrategy.{SummarizationStrategy}
use Rattle.documents.specs.Documents.{Documents}
use Rattle.build_meaning.specs.Built.{input}
use Rattle.build_meaning.specs.Building.{Lent, InNumbers, numbers, in_numbers, leaves, builds}
use Rattle.c_build.specs.Shown.{ShownBuilt, shown_built, seen_built}

pub build-shows : (d : ℕ) (b b' : BlockingStrategy) (k k' : SummarizationStrategy) (ds : Documents) (ids cs : List ℕ) (l : Lent) (a : Result BuiltSizes Refusal) (m : Lent) {n p o c e s : ℕ}
    → b ≡ b' → k ≡ k' → leaves a m ≡ builds (input d b k ds ids cs) l → numbers n p o c e s ≡ in_numbers a → shown_built n p o c e s m ≡ seen_built (builds (input d b' k' ds ids cs) l)
build-shows d b b' k k' ds ids cs l a m q r w h =
    ap shown h ∙ ap seen_built w ∙ ap (λ z. seen_built (builds (input d z k ds ids cs) l)) q ∙ ap (λ z. seen_built (builds (input d b' z ds ids cs) l)) r
  where
    shown : InNumbers → ShownBuilt
    shown z = record { answer = z; lent = m }
