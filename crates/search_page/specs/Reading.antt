-- What it is to read a page against a query. Document 01, "Scores" and refusal 14.
use Rattle.std.specs.Prelude.{List, cond, ℕ, Float, Option, Some, None}
use Rattle.documents.specs.Documents.{paired, dot}
use Rattle.documents.specs.Checks.{slices_hold}

-- nothing (14), or the dot product of the query's terms with the page's
unfoldable pub reading : List ℕ → List Float → List ℕ → List Float → Option Float
reading qs ws cs vs = cond (slices_hold cs vs) (Some (dot (paired qs ws) (paired cs vs))) None
