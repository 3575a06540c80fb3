-- For laws on Walk: the walk of all query components.
use Rattle.std.specs.Prelude.{ℕ, List, [], ◌∷◌, Float}
use Rattle.documents.specs.Documents.{Term}
use Rattle.sparse_scores.specs.Layout.{Layout, entries_of}
use Rattle.sparse_scores.specs.Walk.{grown_by}

unfoldable pub walked : ℕ → Layout → List Term → List Float → List Float
walked n l [] scores = scores
walked n l (q ∷ query) scores = walked n l query (grown_by n l.minimums l.steps q.value (entries_of l q.component) scores)
