-- What a term of a summary is: document 01, "Block maximum and summaries".
use Rattle.std.specs.Prelude.{◌≡◌, true, List}
use Rattle.sequences.specs.Lists.{among}
use Rattle.documents.specs.Documents.{Term}
use Rattle.summary_maximum.specs.Changes.{components, maximum_of}

-- ---- each term of a summary is a component of its block with its maximum there
pub record OfBlock (ts : List Term) (t : Term) : Type 0 where
  pub present : among t.component (components ts) ≡ true
  pub is_maximum : t.value ≡ maximum_of ts t.component
