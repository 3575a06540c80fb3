-- When the input of a build is refused, before any buffer is looked at. Document 01, "Numbered refusals" and "Blocking".
use Rattle.std.specs.Prelude.{ℕ, ◌/◌, min, Bool, not, ◌&&◌, ◌||◌, List, [], ◌∷◌, ◌++◌, length, leb, ltb, eqb, Float}
use Rattle.refusal.specs.declared.Refusal.TheVariants.{StartTooLarge, RangeTooLong, NoBlockSize, WrongCentroids, WrongDocuments, OutsideLimits, WrongTerms}
use Rattle.refusal.specs.First.{Test, ◌gives◌}
use Rattle.configuration.specs.declared.BlockingStrategy.{BlockingStrategy}
use Rattle.configuration.specs.declared.BlockingStrategy.TheVariants.{FixedSize, RandomKmeans}
use Rattle.sequences.specs.Lists.{every}
use Rattle.packing.specs.Packing.{start_limit, length_limit}
use Rattle.blocking.specs.Limits.{list_limit, block_limit, centroid_limit, dimension_limit}
use Rattle.blocking.specs.Blocking.{centroid_count}
use Rattle.documents.specs.Documents.{Documents, count, start, size}
use Rattle.documents.specs.Checks.{offsets_hold, ids_hold, documents_hold}

-- fixed blocking takes no centroids
abbrev pub centroids_used : BlockingStrategy → List ℕ → List ℕ
centroids_used (FixedSize size) cs = []
centroids_used (RandomKmeans fraction minimum algorithm) cs = cs

-- too many centroids for n ids, or not as many listed as the smaller of count and n; of an empty list nothing is asked
abbrev pub wrong_centroids : Float → ℕ → ℕ → Bool
wrong_centroids fraction n listed = not (eqb n 0) && (ltb centroid_limit (centroid_count fraction n) || not (eqb listed (min (centroid_count fraction n) n)))

-- 3 and then 8 (blocks), or 5: clusters are never more than centroids
abbrev pub blocking_faults : BlockingStrategy → ℕ → ℕ → List Test
blocking_faults (FixedSize size) n listed = (eqb size 0 gives NoBlockSize) ∷ (ltb block_limit (n / size) gives OutsideLimits) ∷ []
blocking_faults (RandomKmeans fraction minimum algorithm) n listed = (wrong_centroids fraction n listed gives WrongCentroids) ∷ []

abbrev pub starts_fit : Documents → List ℕ → Bool
starts_fit d ids = every (λ i. ltb (start d i) start_limit) ids

abbrev pub lengths_fit : Documents → List ℕ → Bool
lengths_fit d ids = every (λ i. leb (size d i) length_limit) ids

-- 8 (length, dimension), 6, 14 (listed documents and centroids), 1, 2 (listed documents), 3 or 5, 8 (blocks)
unfoldable pub input_tests : ℕ → BlockingStrategy → Documents → List ℕ → List ℕ → List Test
input_tests dimension blocking d ids centroids =
    let listed = ids ++ centroids_used blocking centroids in
    (ltb list_limit (length ids) || (eqb dimension 0 || ltb dimension_limit dimension) gives OutsideLimits)
    ∷ (not (offsets_hold d && ids_hold (count d.offsets) listed) gives WrongDocuments)
    ∷ (not (documents_hold dimension d listed) gives WrongTerms)
    ∷ (not (starts_fit d ids) gives StartTooLarge)
    ∷ (not (lengths_fit d ids) gives RangeTooLong)
    ∷ blocking_faults blocking (length ids) (length centroids)
