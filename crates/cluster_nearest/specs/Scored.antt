-- The scores of one document by slot.
use Rattle.std.specs.Prelude.{ℕ, false, List, replicate, pos, Float}
use Rattle.std.specs.Float.{fin}
use Rattle.documents.specs.Documents.{Term, Documents}
use Rattle.cluster_index.specs.Index.{add_terms}

-- from +0 at each of n slots on
abbrev pub scores_of : Documents → ℕ → List Term → List Float
scores_of index n qs = add_terms index (replicate n (fin false 0 (pos 0))) qs
