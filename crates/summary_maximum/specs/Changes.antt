-- The components of terms, and the maximum of each.
use Rattle.std.specs.Prelude.{ℕ, List, map, Float}
use Rattle.documents.specs.Documents.{Term, values_at}
use Rattle.summary_maximum.specs.Maximum.{maximum}

abbrev pub components : List Term → List ℕ
components ts = map (λ t. t.component) ts

abbrev pub maximum_of : List Term → ℕ → Float
maximum_of ts c = maximum (values_at c ts)
