-- Which centroid takes a document. Document 01, "Clusters".
use Rattle.std.specs.Prelude.{ℕ, Bool, false, cond, pos, Float}
use mathlib.Core.List.{List, [], ◌∷◌, map, foldl, zip_with}
use Rattle.std.specs.Float.{fin}
use Rattle.std.specs.Float.Ieee.{lt}
use Rattle.float32.specs.Order.{at_most}
use Rattle.sequences.specs.Lists.{those, every, first_or, last_or, among}
use Rattle.documents.specs.Documents.{Term, Documents, terms, dot, largest}
use Rattle.cluster_nearest.specs.declared.Candidate.{Candidate}

-- ---- a centroid, by its document, with a document's score
abbrev pub candidate : ℕ → Float → Candidate
candidate c x = record { centroid = record { 0 = c }; score = x }

abbrev pub centroid_of : Candidate → ℕ
centroid_of c = c.centroid.0

abbrev pub candidates : Documents → List Term → List ℕ → List Candidate
candidates d query centroids = map (λ c. candidate c (dot query (terms d c))) centroids

-- those with the greatest score by total order
unfoldable pub greatest : List Candidate → List Candidate
greatest cs = those (λ c. every (λ e. at_most e.score c.score) cs) cs

abbrev pub above_zero : Candidate → Bool
above_zero c = lt (fin false 0 (pos 0)) c.score

-- ---- exact: the first centroid with the greatest dot above 0, else the first centroid
unfoldable pub nearest : Documents → List ℕ → ℕ → ℕ
nearest d centroids i = first_or (first_or 0 centroids) (map centroid_of (greatest (those above_zero (candidates d (terms d i) centroids))))

-- a listed centroid takes itself
unfoldable pub nearest_or_itself : Documents → List ℕ → ℕ → ℕ
nearest_or_itself d centroids i = cond (among i centroids) i (nearest d centroids i)

-- ---- approximate: of those that compete, the last greatest by the `doc_cut` largest terms, largest first; if none compete, the first
-- centroid
unfoldable pub nearly : Documents → ℕ → ℕ → List ℕ → ℕ → ℕ
nearly d cut first competing i = last_or first (map centroid_of (greatest (candidates d (largest cut (terms d i)) competing)))

-- ---- the same by loops over centroids and scores side by side
-- the best so far gives way only to a greater score
abbrev pub if_greater : Candidate → Candidate → Candidate
if_greater best other = cond (lt best.score other.score) other best

-- the best so far gives way to one that is no less by total order
abbrev pub if_no_less : Candidate → Candidate → Candidate
if_no_less best other = cond (at_most best.score other.score) other best

unfoldable pub first_above : List ℕ → List Float → ℕ
first_above cs xs = centroid_of (foldl if_greater (candidate (first_or 0 cs) (fin false 0 (pos 0))) (zip_with candidate cs xs))

abbrev pub last_from : ℕ → List Candidate → ℕ
last_from first [] = first
last_from first (c ∷ cs) = centroid_of (foldl if_no_less c cs)

unfoldable pub last_no_less : ℕ → List ℕ → List Float → ℕ
last_no_less first cs xs = last_from first (zip_with candidate cs xs)
