-- An index as three slices lend it.
use Rattle.cluster_index.specs.declared.Index.{Index as IndexLent}
use Rattle.documents.specs.Documents.{Documents, documents}

-- what the three slices hold: a component's entries stand as a document's terms do
abbrev pub entries_lent : IndexLent → Documents
entries_lent i = documents i.starts.now i.slots.now i.weights.now
