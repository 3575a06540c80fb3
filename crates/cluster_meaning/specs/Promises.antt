-- Blocks partition the list: each listed document stands in the blocks as often as it is listed, and each in one block.
use Prim.Native.Nat.{ℕ}
use Rattle.std.specs.Prelude.{◌≡◌, refl, Bool, true, false, cond, length}
use Rattle.std.proofs.Common.{sym, ap, ◌∙◌, subst}
use mathlib.Core.List.Permᴰ
use mathlib.Core.List.{List, [], ◌∷◌, ◌++◌, map, Permᴰ}
use Rattle.sort.specs.Sorted.{sorted}
use Rattle.sort.specs.Promises.{permutes}
use Rattle.sequences.specs.Lists.{joined, first_or, rising, with_key, groups, between, offsets_from}
use Rattle.sequences.specs.Groups.{RisesFrom}
use Rattle.sequences.specs.Laws.Groups.{no_later, groups-sort, joined-map, rising-rises, between-offsets}
use Rattle.sequences.specs.Laws.Sorted.{sort-permutes, map-permutes}
use Rattle.documents.specs.Documents.{Documents}
use Rattle.cluster_nearest.specs.Nearest.{nearest, nearest_or_itself, nearly}
use Rattle.cluster_meaning.specs.Clusters.{Assigned, assigned, centroid_of, document_of, assign, dissolved, reassign, exactly, approximately, survivors, clusters}

front-permutes : {A : Type 0} (l : List A) {c d : List A} → Permᴰ c d → Permᴰ (l ++ c) (l ++ d)
front-permutes [] q = q
front-permutes (x ∷ l) q = Permᴰ.cons refl (front-permutes l q)

back-permutes : {A : Type 0} {a b : List A} (c : List A) → Permᴰ a b → Permᴰ (a ++ c) (b ++ c)
back-permutes c Permᴰ.nil = Permᴰ.refl c
back-permutes c (Permᴰ.cons e p) = Permᴰ.cons e (back-permutes c p)
back-permutes c (Permᴰ.swap e f) = Permᴰ.swap e f
back-permutes c (Permᴰ.trans p r) = Permᴰ.trans (back-permutes c p) (back-permutes c r)

all-permute : (pairs : List Assigned) (cs : List ℕ)
    → Permᴰ (joined (map (λ c. sorted (map document_of (with_key centroid_of c pairs))) cs)) (joined (map (map document_of) (map (λ c. with_key centroid_of c pairs) cs)))
all-permute pairs [] = Permᴰ.nil
all-permute pairs (c ∷ cs) =
    let own = map document_of (with_key centroid_of c pairs) in
    Permᴰ.trans (back-permutes (joined (map (λ c. sorted (map document_of (with_key centroid_of c pairs))) cs)) (permutes own)) (front-permutes own (all-permute pairs cs))

-- the blocks one after another are the documents of the pairs, each as often as it came
pub clusters-share : (pairs : List Assigned) → Permᴰ (joined (clusters pairs)) (map document_of pairs)
unfolding clusters
clusters-share pairs =
    Permᴰ.trans (all-permute pairs (rising (map centroid_of pairs)))
    (subst (λ l. Permᴰ l (map document_of pairs)) (sym (joined-map document_of (groups centroid_of pairs) ∙ ap (map document_of) (groups-sort centroid_of pairs)))
    (map-permutes document_of (sort-permutes (no_later centroid_of) pairs)))

-- and the offsets cut them into the blocks again
pub blocks-by-offsets : (pairs : List Assigned) → between (offsets_from 0 (clusters pairs)) (joined (clusters pairs)) ≡ clusters pairs
blocks-by-offsets pairs = between-offsets [] (clusters pairs)

-- one block per centroid present, the centroids rising
pub one-block-each : (pairs : List Assigned) → (length (clusters pairs) ≡ length (rising (map centroid_of pairs))) × RisesFrom 0 (rising (map centroid_of pairs))
unfolding clusters
one-block-each pairs = (go (rising (map centroid_of pairs)), rising-rises (map centroid_of pairs))
  where
    go : (cs : List ℕ) → length (map (λ c. sorted (map document_of (with_key centroid_of c pairs))) cs) ≡ length cs
    go [] = refl
    go (c ∷ cs) = ap Prim.Native.Nat.suc (go cs)

-- ---- assigning, once or again, changes no document
pub assign-documents : (f : ℕ → ℕ) (ids : List ℕ) → map document_of (assign f ids) ≡ ids
assign-documents f [] = refl
assign-documents f (i ∷ ids) = ap (λ l. i ∷ l) (assign-documents f ids)

pub reassign-documents : (minimum : ℕ) (again : ℕ → ℕ) (pairs : List Assigned) → map document_of (reassign minimum again pairs) ≡ map document_of pairs
unfolding reassign
reassign-documents minimum again pairs = go pairs
  where
    at : (b : Bool) (a : Assigned) → document_of (cond b (assigned (again a.document) a.document) a) ≡ a.document
    at true a = refl
    at false a = refl

    go : (l : List Assigned) → map document_of (map (λ a. cond (dissolved minimum pairs a.centroid) (assigned (again a.document) a.document) a) l) ≡ map document_of l
    go [] = refl
    go (a ∷ l) = let i = go l in let e = at (dissolved minimum pairs a.centroid) a in cc

pub exact-partitions : (d : Documents) (minimum : ℕ) (centroids ids : List ℕ) → Permᴰ (joined (clusters (exactly d minimum centroids ids))) ids
unfolding exactly
exact-partitions d minimum centroids ids =
    subst (λ l. Permᴰ (joined (clusters (exactly d minimum centroids ids))) l)
    (reassign-documents minimum (nearest d centroids) (assign (nearest_or_itself d centroids) ids) ∙ assign-documents (nearest_or_itself d centroids) ids)
    (clusters-share (exactly d minimum centroids ids))

pub approximate-partitions : (d : Documents) (cut minimum : ℕ) (centroids ids : List ℕ) → Permᴰ (joined (clusters (approximately d cut minimum centroids ids))) ids
unfolding approximately
approximate-partitions d cut minimum centroids ids =
    let pairs = assign (nearly d cut (first_or 0 centroids) centroids) ids in
    subst (λ l. Permᴰ (joined (clusters (approximately d cut minimum centroids ids))) l)
    (reassign-documents minimum (nearly d cut (first_or 0 centroids) (survivors minimum pairs centroids)) pairs ∙ assign-documents (nearly d cut (first_or 0 centroids) centroids) ids)
    (clusters-share (approximately d cut minimum centroids ids))
