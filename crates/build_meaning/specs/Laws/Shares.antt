-- Blocks share out the list: each listed posting lies in one block.
use Rattle.std.specs.Prelude.{ℕ, suc, ◌/◌, ◌<◌, ◌≡◌, refl, length, Float}
use Rattle.std.proofs.Common.{sym, ap, ◌∙◌, subst}
use mathlib.Core.List.Permᴰ
use mathlib.Core.List.{List, [], ◌∷◌, map, Permᴰ}
use Rattle.configuration.specs.declared.BlockingStrategy.TheVariants.{FixedSize, RandomKmeans}
use Rattle.configuration.specs.declared.ClusteringAlgorithm.{ClusteringAlgorithm}
use Rattle.configuration.specs.declared.ClusteringAlgorithm.TheVariants as algorithm
use Rattle.sequences.specs.Lists.{joined, between, first_or}
use Rattle.sequences.specs.Laws.Groups.{between-offsets}
use Rattle.documents.specs.Documents.{Documents}
use Rattle.blocking.specs.Laws.Blocking.{no_blocks}
use Rattle.blocking.specs.Laws.Shares as fixed
use Rattle.cluster_nearest.specs.Nearest.{nearest, nearest_or_itself, nearly}
use Rattle.cluster_meaning.specs.Clusters.{document_of, assign, exactly, approximately, survivors, clusters}
use Rattle.cluster_meaning.specs.Promises.{assign-documents, reassign-documents, clusters-share}
use Rattle.build_meaning.specs.Built.{Input, in_clusters, blocked_in, blocks, block_documents}
use Rattle.build_meaning.specs.Laws.Built.{assigned_in}

-- ---- clusters
permutes-joined : {A : Type 0} (f g : ℕ → List A) → ((k : ℕ) → Permᴰ (f k) (g k)) → (ks : List ℕ) → Permᴰ (joined (map f ks)) (joined (map g ks))
permutes-joined f g h [] = Permᴰ.nil
permutes-joined f g h (k ∷ ks) = Permᴰ.trans (Permᴰ.append_right (joined (map f ks)) (h k)) (Permᴰ.append_left (g k) (permutes-joined f g h ks))

exact-documents : (d : Documents) (minimum : ℕ) (centroids ids : List ℕ) → map document_of (exactly d minimum centroids ids) ≡ ids
unfolding exactly
exact-documents d minimum centroids ids = reassign-documents minimum (nearest d centroids) (assign (nearest_or_itself d centroids) ids) ∙ assign-documents (nearest_or_itself d centroids) ids

approximate-documents : (d : Documents) (cut minimum : ℕ) (centroids ids : List ℕ) → map document_of (approximately d cut minimum centroids ids) ≡ ids
unfolding approximately
approximate-documents d cut minimum centroids ids =
    let pairs = assign (nearly d cut (first_or 0 centroids) centroids) ids in
    reassign-documents minimum (nearly d cut (first_or 0 centroids) (survivors minimum pairs centroids)) pairs ∙ assign-documents (nearly d cut (first_or 0 centroids) centroids) ids

pub assigned-documents : (k : ClusteringAlgorithm) (minimum : ℕ) (g : Input) → map document_of (assigned_in k minimum g) ≡ g.ids
assigned-documents algorithm.RandomKmeans minimum g = exact-documents g.documents minimum g.centroids g.ids
assigned-documents (algorithm.RandomKmeansInvertedIndexApprox cut) minimum g = approximate-documents g.documents cut minimum g.centroids g.ids

-- the blocks of a clustered list are its clusters
pub clusters-read-back : (bs : List (List ℕ)) → between (in_clusters bs).block_offsets (in_clusters bs).documents ≡ bs
clusters-read-back [] = refl
clusters-read-back (b ∷ bs) = between-offsets [] (b ∷ bs)

-- ---- cluster blocking: every listed posting lies in one block, as often as it is listed
pub clustered-share : (g : Input) (fraction : Float) (minimum : ℕ) (k : ClusteringAlgorithm) → g.blocking ≡ RandomKmeans fraction minimum k → Permᴰ (joined (block_documents g)) g.ids
unfolding blocks
clustered-share g fraction minimum k e =
    subst (λ w. Permᴰ (joined (between (blocked_in w g).block_offsets (blocked_in w g).documents)) g.ids) (sym e)
    (subst (λ l. Permᴰ (joined l) g.ids) (sym (clusters-read-back (clusters (assigned_in k minimum g))))
    (subst (λ l. Permᴰ (joined (clusters (assigned_in k minimum g))) l) (assigned-documents k minimum g) (clusters-share (assigned_in k minimum g))))

-- ---- fixed blocking: the blocks, one after another, are the list; a list shorter than a block has none
pub fixed-share : (g : Input) (size q : ℕ) → g.blocking ≡ FixedSize size → length g.ids / size ≡ suc q → joined (block_documents g) ≡ g.ids
unfolding blocks
fixed-share g size q e h = ap (λ w. joined (between (blocked_in w g).block_offsets (blocked_in w g).documents)) e ∙ fixed.fixed_shares size q g.ids h

pub fixed-short : (g : Input) (size : ℕ) → g.blocking ≡ FixedSize size → length g.ids < size → block_documents g ≡ []
unfolding blocks
fixed-short g size e h = ap (λ w. between (blocked_in w g).block_offsets (blocked_in w g).documents) e ∙ no_blocks (length g.ids) size g.ids h
