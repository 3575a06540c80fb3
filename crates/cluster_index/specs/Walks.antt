-- Places in two slices that hold a document's terms.
use Rattle.std.specs.Prelude.{ℕ, ◌-◌, ◌≤◌, min, ◌≡◌, length}
use Rattle.sequences.specs.Lists.{part}
use Rattle.documents.specs.declared.TermPlaces.{TermPlaces}
use Rattle.documents.specs.Documents.{paired, Documents, terms}
use Rattle.documents.specs.Answers.{places_of}

-- ---- places that lie inside both slices and hold a document's terms
pub record Cut (d : Documents) (i : ℕ) (p : TermPlaces) : Type 0 where
  pub is : p ≡ places_of d.offsets (min (length d.components) (length d.values)) i
  pub ordered : p.from ≤ p.to
  pub in_components : p.to ≤ length d.components
  pub in_values : p.to ≤ length d.values
  pub holds : terms d i ≡ paired (part p.from (p.to - p.from) d.components) (part p.from (p.to - p.from) d.values)
