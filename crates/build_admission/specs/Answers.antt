-- What the parts of the admission answer.
use Rattle.std.specs.Prelude.{ℕ, List, []}
use Rattle.configuration.specs.declared.BlockingStrategy.{BlockingStrategy}
use Rattle.configuration.specs.declared.BlockingStrategy.TheVariants.{FixedSize, RandomKmeans}
use Rattle.documents.specs.Documents.{documents}
use Rattle.build_admission.specs.declared.RangesFit.{RangesFit}
use Rattle.build_admission.specs.Admission.{starts_fit, lengths_fit}

abbrev pub ranges_fit : List ℕ → List ℕ → RangesFit
ranges_fit offsets ids = let d = documents offsets [] [] in record { starts = starts_fit d ids; lengths = lengths_fit d ids }

-- how many of n centroids are used
abbrev pub taken_of : BlockingStrategy → ℕ → ℕ
taken_of (FixedSize size) n = 0
taken_of (RandomKmeans fraction minimum algorithm) n = n
