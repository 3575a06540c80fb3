-- The longest of some documents.
use Rattle.std.specs.Prelude.{ℕ, max, List, [], ◌∷◌, length}
use Rattle.documents.specs.Documents.{Documents, terms}

-- how many terms it has; 0 where there is none
abbrev pub longest_of : Documents → List ℕ → ℕ
longest_of d [] = 0
longest_of d (i ∷ ids) = max (length (terms d i)) (longest_of d ids)
