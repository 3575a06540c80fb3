-- For laws on Through: the table of a query.
use Rattle.std.specs.Prelude.{List, false, ℕ, replicate, pos, Float}
use Rattle.std.specs.Float.{fin}
use Rattle.search_page.specs.Through.{laying}

-- the weight of each component below 32,768 at its own place, and +0 at the others
unfoldable pub table_of : List ℕ → List Float → List Float
table_of qs ws = laying (replicate 32768 (fin false 0 (pos 0))) qs ws
