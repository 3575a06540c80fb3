-- What building a short list leaves: a build with scratch for 64 documents, blocks and components, and for 512 terms of centroids.
use Rattle.build_meaning.specs.declared.BuiltSizes.{BuiltSizes}
use Rattle.refusal.specs.declared.Refusal.{Refusal}
use Rattle.std.specs.Prelude.{ℕ, List, replicate, Float, Result}
use Rattle.std.specs.Float.{binary32}
use Rattle.std.specs.Float.Ieee.{of_bits}
use Rattle.build_meaning.specs.Built.{Input}
use Rattle.build_meaning.specs.Building.{Outputs, Scratches, scratches, Left, lent, builds}

abbrev pub places : List ℕ
places = replicate 64 0

abbrev pub term_places : List ℕ
term_places = replicate 512 0

abbrev pub term_weights : List Float
term_weights = replicate 512 (of_bits binary32 0)

abbrev pub score_places : List Float
score_places = replicate 64 (of_bits binary32 0)

abbrev pub short_scratch : Scratches
short_scratch = scratches places places places places places places places term_places term_weights score_places places

-- the answer and the output
pub record Made : Type 0 where
  pub answer : Result BuiltSizes Refusal
  pub output : Outputs

abbrev pub made : Result BuiltSizes Refusal → Outputs → Made
made a o = record { answer = a; output = o }

-- of what a build leaves
unfoldable pub made_of : Left → Made
made_of l = made l.answer l.lent.output

unfoldable pub made_short : Input → Outputs → Made
made_short g o = made_of (builds g (lent o short_scratch))
