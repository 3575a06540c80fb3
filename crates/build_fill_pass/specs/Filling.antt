-- What placing the entries of a list's blocks leaves in what it is lent: each kept term at its component's cursor. Document 01, "Sparse
-- layout".
use Rattle.std.specs.Prelude.{ℕ, suc, ◌%◌, min, List, [], ◌∷◌, ◌++◌, length, Float}
use Rattle.documents.specs.Documents.{Term}
use Rattle.sparse_layout.specs.Layouts.{Entry, entries_of}
use Rattle.sparse_layout.specs.Keys.{Lent, placed_within}
use Rattle.clearing.specs.Zeros.{zeros, float_zeros}

-- ---- what is lent: work space, and the entries with their cursors
pub record Filling : Type 0 where
  pub keys : List ℕ
  pub places : List ℕ
  pub maxima : List Float
  pub entries : Lent

abbrev pub filling : List ℕ → List ℕ → List Float → Lent → Filling
filling k p m e = record { keys = k; places = p; maxima = m; entries = e }

-- the entries of the kept terms, block by block from the number b on, of which an entry has the last 16 bits
abbrev pub numbered_from : ℕ → List (List Term) → List Entry
numbered_from b [] = []
numbered_from b (top ∷ tops) = entries_of (b % 65536) top ++ numbered_from (suc b) tops

-- placed one after another; none past the ids or past the codes
abbrev pub placed_in : Lent → List (List Term) → Lent
placed_in l tops = placed_within (min (length l.summary_ids) (length l.codes)) l (numbered_from 0 tops)

-- the work space all zero, and the entries placed
abbrev pub fill_left : List (List Term) → Filling → Filling
fill_left tops l = filling (zeros l.keys) (zeros l.places) (float_zeros l.maxima) (placed_in l.entries tops)
