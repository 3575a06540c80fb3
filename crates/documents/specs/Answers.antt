-- Where a document's terms are.
use Rattle.std.specs.Prelude.{ℕ, ◌+◌, min, List, []}
use Rattle.documents.specs.declared.DocumentRange.{DocumentRange}
use Rattle.documents.specs.declared.TermPlaces.{TermPlaces}
use Rattle.documents.specs.Documents.{documents, start, size}

-- the places from an offset to the next: as many as a document with these offsets has terms
abbrev pub between_of : List ℕ → ℕ → TermPlaces
between_of offsets i = let d = documents offsets [] [] in record { from = start d i; to = start d i + size d i }

-- a document's range ends as many places after its start as it has terms
abbrev pub range_of : List ℕ → ℕ → DocumentRange
range_of offsets i = let d = documents offsets [] [] in record { start = record { 0 = start d i }; end = start d i + size d i }

-- the places of a document's terms among as many terms as there are: a range that reaches past them is cut
abbrev pub places_of : List ℕ → ℕ → ℕ → TermPlaces
places_of offsets count i = let d = documents offsets [] [] in record { from = min (start d i) count; to = min (start d i + size d i) count }
