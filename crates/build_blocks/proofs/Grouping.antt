-- Clusters in scratch that was zero: what clustering leaves is the list's documents and offsets, and zeros.
use Prim.Native.Nat.{ℕ, zero, suc, ◌+◌, ◌-◌, ◌≤◌, ◌<◌}
use native.Mathlib.Omega.{arith}
use native.Mathlib.Numerals.{add-one}
use mathlib.Core.Path.{◌≡◌, refl, sym, ap, ◌∙◌}
use mathlib.Core.List.{List, [], ◌∷◌, ◌++◌}
use lib.ListN.{length, drop, replicate}
use lib.Seq.{sets, sets-eq}
use Rattle.configuration.specs.declared.ClusteringAlgorithm.{ClusteringAlgorithm}
use Rattle.configuration.specs.declared.ClusteringAlgorithm.TheVariants as algorithm
use Rattle.configuration.specs.declared.BlockingStrategy.TheVariants as blocking
use Rattle.configuration.specs.declared.SummarizationStrategy.TheVariants as summarization
use Rattle.sequences.specs.Lists.{joined, offsets_from, rising}
use Rattle.sequences.specs.Laws.Groups.{offsets-count}
use Rattle.documents.specs.Documents.{Documents}
use Rattle.scratch.specs.Scratches.{Scratches, scratches, cleared_scratch}
use Rattle.cluster_meaning.specs.Clusters.{reassign, exactly, approximately, assigned_by, clusters}
use Rattle.clustering.specs.Clustered.{groups_in, clustered_in}
use Rattle.clustering.specs.Laws.Uncut.{uncut-none, uncut}
use Rattle.build_meaning.specs.Built.{Input, input, in_clusters}
use Rattle.build_meaning.specs.Building.{laid}
use Rattle.build_meaning.specs.Laws.Blocks.{blocks-within}
use Rattle.build_meaning.specs.Laws.Offsets.{clusters-long}
use Rattle.build_ready.specs.Made.{holding}
use Rattle.build_blocks.specs.Fits.{GroupFits}

-- ---- an empty list
none : (k : ClusteringAlgorithm) (d : Documents) (minimum : ℕ) (centroids : List ℕ) → clusters (assigned_by k d minimum centroids []) ≡ []
unfolding clusters exactly approximately reassign rising
none algorithm.RandomKmeans d minimum centroids = refl
none (algorithm.RandomKmeansInvertedIndexApprox cut) d minimum centroids = refl

-- ---- zeros past what is written
drop-zeros : (k m : ℕ) → drop {A = ℕ} k (replicate m 0) ≡ replicate (m - k) 0
drop-zeros zero m = ap (λ n. replicate n 0) (let z : m ≡ m - 0 = omega arith in z)
drop-zeros (suc k) zero = ap (λ n. replicate n 0) (let z : 0 ≡ 0 - suc k = omega arith in z)
drop-zeros (suc k) (suc m) = drop-zeros k m ∙ ap (λ n. replicate n 0) (let z : m - k ≡ suc m - suc k = omega arith in z)

sets-front : (l z os : List ℕ) → l ≡ z → length os ≤ length l → sets l 0 os ≡ laid os z
sets-front l z os e h = sets-eq os l 0 (omega arith) ∙ ap (λ n. os ++ drop n l) (let w : 0 + length os ≡ length os = omega arith in w) ∙ ap (λ l. os ++ drop (length os) l) e

-- clusters that hold some documents, as blocks
module _ (n : ℕ) (some : n ≡ 0 → ⊥) where
  order_is : (cs : List (List ℕ)) (m : ℕ) → length (joined cs) ≡ n → joined cs ++ replicate (m - n) 0 ≡ laid (in_clusters cs).documents (replicate m 0)
  order_is [] m e = absurd (some (sym e))
  order_is (b ∷ bs) m e = ap (λ l. joined (b ∷ bs) ++ l) (sym (ap (λ k. drop k (replicate m 0)) e ∙ drop-zeros n m))

  count-is : (cs : List (List ℕ)) → length (joined cs) ≡ n → length cs + 1 ≡ length (in_clusters cs).block_offsets
  count-is [] e = absurd (some (sym e))
  count-is (b ∷ bs) e = add-one (length (b ∷ bs)) ∙ sym (offsets-count 0 (b ∷ bs))

  blocks-are : (cs : List (List ℕ)) (l z : List ℕ) → length (joined cs) ≡ n → l ≡ z → length cs < length l → sets l 0 (offsets_from 0 cs) ≡ laid (in_clusters cs).block_offsets z
  blocks-are [] l z e f h = absurd (some (sym e))
  blocks-are (b ∷ bs) l z e f h = sets-front l z (offsets_from 0 (b ∷ bs)) f (let c = offsets-count 0 (b ∷ bs) in omega arith)

-- ---- what clustering leaves
module _ (s : Scratches) (minimum : ℕ) (k : ClusteringAlgorithm) (d : Documents) (centroids : List ℕ) where
  abbrev leaves : List ℕ → Type 0
  leaves ids =
      let b = in_clusters (clusters (assigned_by k d minimum centroids ids)) in
      ((groups_in k d minimum ids centroids s).count ≡ length b.block_offsets) × (clustered_in k d minimum ids centroids s ≡ holding b s)

  empty_group : GroupFits s d [] centroids → leaves []
  unfolding cleared_scratch clustered_in
  empty_group fits =
      let e = uncut-none k d minimum centroids s in
      let n = none k d minimum centroids in
      let z = cleared_scratch s in (
        ap (λ g. g.count) e ∙ sym (ap (λ c. length (in_clusters c).block_offsets) n),
        (λ j. scratches (e j).order ((ap (λ g. g.blocks) e ∙ ap (λ z. z.blocks) fits.cleared) j) z.sorted z.known z.taken z.counts z.starts z.slots z.weights z.sums z.keys)
            ∙ sym (ap (λ c. holding (in_clusters c) s) n),
      )

  module _ (ids : List ℕ) (fits : GroupFits s d ids centroids) (some : length ids ≡ 0 → ⊥) where
    abbrev cs : List (List ℕ)
    cs = clusters (assigned_by k d minimum centroids ids)

    abbrev given : Input
    given = input 0 (blocking.FixedSize 0) (summarization.FixedSize 0) d ids centroids

    long : length (joined cs) ≡ length ids
    long = clusters-long k minimum given

    few : length cs < length s.blocks
    few = let b = blocks-within given (fits.some some) k minimum in omega (arith, fits.offsets some)

    full-group : leaves ids
    unfolding cleared_scratch clustered_in
    full-group =
        let u = uncut k d minimum ids centroids s (fits.enough some) (positive (length ids) some) in
        let z = cleared_scratch s in (
          u.0 ∙ count-is (length ids) some cs long,
          λ j. scratches
              ((u.1 ∙ order_is (length ids) some cs (length s.order) long) j)
              ((u.2 ∙ blocks-are (length ids) some cs s.blocks (replicate (length s.blocks) 0) long (ap (λ z. z.blocks) fits.cleared) few) j)
              z.sorted z.known z.taken z.counts z.starts z.slots z.weights z.sums z.keys,
        )
      where
        positive : (n : ℕ) → (n ≡ 0 → ⊥) → 0 < n
        positive zero h = absurd (h refl)
        positive (suc n) h = omega arith

  pub group-is : (ids : List ℕ) → GroupFits s d ids centroids
      → ((groups_in k d minimum ids centroids s).count ≡ length (in_clusters (clusters (assigned_by k d minimum centroids ids))).block_offsets)
      × (clustered_in k d minimum ids centroids s ≡ holding (in_clusters (clusters (assigned_by k d minimum centroids ids))) s)
  group-is [] fits = empty_group fits
  group-is (i ∷ ids) fits = full-group (i ∷ ids) fits (λ e. let z : ⊥ = omega arith in absurd z)
