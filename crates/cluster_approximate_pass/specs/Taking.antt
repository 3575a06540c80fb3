-- Which centroid takes a document in the approximate mode, for slices of any length: n scores, q keys.
use Rattle.std.specs.Prelude.{ℕ, cond, List, take}
use Rattle.documents.specs.Documents.{Documents, terms, largest}
use Rattle.cluster_nearest.specs.Nearest.{last_no_less}
use Rattle.cluster_nearest.specs.Scored.{scores_of}
use Rattle.sort.specs.Ranked.{rank_in}
use Rattle.cluster_passes.specs.Ranked.{is_small}

-- the last greatest of those that compete, by the largest of the terms that find a place
abbrev pub nearly_choice : ℕ → ℕ → List ℕ → Documents → ℕ → ℕ → Documents → ℕ → ℕ
nearly_choice cut first competing index n q d i = last_no_less first competing (scores_of index n (largest cut (take q (terms d i))))

-- the rank that a document has in the end: another one where its group dissolved
abbrev pub again_rank : List ℕ → List ℕ → ℕ → ℕ → ℕ → List ℕ → Documents → ℕ → ℕ → Documents → ℕ → ℕ → ℕ
again_rank known counts minimum cut first competing index n q d i r = cond (is_small counts minimum r) (rank_in known (nearly_choice cut first competing index n q d i)) r
