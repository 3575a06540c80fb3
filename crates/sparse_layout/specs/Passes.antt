-- A summary that can be stored.
use Rattle.std.specs.Prelude.{List, map}
use Rattle.sequences.specs.Groups.{RisesFrom}
use Rattle.documents.specs.Documents.{Term}
use Rattle.quantizing.specs.Demand3.{F32s}
use Rattle.quantizing.specs.Accepted.{Quantizable}
use Rattle.sparse_layout.specs.Layouts.{values}

-- a summary that can be stored: components strictly rise, and its values, one at least, are f32 in bound
pub record Storable (s : List Term) : Type 0 where
  pub rises : RisesFrom 0 (map (λ t. t.component) s)
  pub floats : F32s (values s)
  pub list : Quantizable (values s)
