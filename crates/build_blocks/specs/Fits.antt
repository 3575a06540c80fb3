-- What the parts of making ask of what they are lent.
use Rattle.std.specs.Prelude.{ℕ, ◌≤◌, ◌<◌, ◌≡◌, List, length, Ok}
use Rattle.refusal.specs.First.{first_of}
use Rattle.blocking.specs.Blocking.{blocking_tests}
use Rattle.documents.specs.Documents.{Documents}
use Rattle.scratch.specs.Scratches.{Scratches, cleared_scratch}
use Rattle.clustering.specs.Enough.{Enough}

-- fixed blocking is accepted, and the order has a place for each id
pub record CutFits (size n order blocks : ℕ) : Type 0 where
  pub accepted : first_of (blocking_tests n size blocks) ≡ Ok tt
  pub listed : n ≤ order

-- the scratch is zero, and a list that is not empty finds place in it, with one offset more than centroids
pub record GroupFits (s : Scratches) (d : Documents) (ids centroids : List ℕ) : Type 0 where
  pub cleared : s ≡ cleared_scratch s
  pub some : (length ids ≡ 0 → ⊥) → 0 < length centroids
  pub enough : (length ids ≡ 0 → ⊥) → Enough d ids centroids s
  pub offsets : (length ids ≡ 0 → ⊥) → length centroids < length s.blocks
