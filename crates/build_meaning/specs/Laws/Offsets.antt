-- The block offsets of an accepted list hold, and its numbers of blocks and postings keep their limits.
use Rattle.std.specs.Prelude.{ℕ, zero, suc, ◌-◌, ◌/◌, ◌≤◌, ◌<◌, min, ◌≡◌, refl, Bool, true, false, not, ◌||◌, List, [], ◌∷◌, ltb, eqb, Float}
use Rattle.std.proofs.Common.{arith, sym, ap, ◌∙◌, true≢false, eq-eqb, ne_eqb, le-leb, eqb-true, ltb-false}
use Rattle.std.proofs.Math.Decide.{ℕ_discrete}
use Rattle.std.proofs.Math.Path.{subst}
use Rattle.std.proofs.Math.ListN.{length}
use Rattle.std.proofs.lemmas.List.{length-map}
use Rattle.refusal.specs.First.{Faultless}
use Rattle.configuration.specs.declared.BlockingStrategy.{BlockingStrategy}
use Rattle.configuration.specs.declared.BlockingStrategy.TheVariants.{FixedSize, RandomKmeans}
use Rattle.configuration.specs.declared.ClusteringAlgorithm.{ClusteringAlgorithm}
use Rattle.sequences.specs.Lists.{last_or, joined, offsets_from, never_falls}
use Rattle.sequences.specs.Laws.Groups.{offsets-rise, offsets-count, offsets-last}
use Rattle.sequences.specs.Laws.Lists.{between-count, never-test, permuted-length}
use Rattle.blocking.specs.Limits.{block_limit, centroid_limit}
use Rattle.blocking.specs.Laws.Limits.{centroids-within}
use Rattle.blocking.specs.Blocking.{centroid_count}
use Rattle.blocking.specs.Laws.Blocking as fixed
use Rattle.cluster_meaning.specs.Clusters.{clusters, document_of}
use Rattle.cluster_meaning.specs.Promises.{clusters-share}
use Rattle.sparse_scores.specs.WellFormed.{blocks_hold}
use Rattle.build_admission.specs.Admission.{wrong_centroids, blocking_faults}
use Rattle.build_meaning.specs.Built.{Input, in_clusters, blocked_in, blocks, block_documents, summaries}
use Rattle.build_meaning.specs.Laws.Built.{assigned_in}
use Rattle.build_meaning.specs.Laws.Shares.{assigned-documents}
use Rattle.build_meaning.specs.Laws.Blocks.{blocks-few, blocks-within}

-- ---- offsets that never fall and do not reach past n
pub record OffsetsHold (n : ℕ) (os : List ℕ) : Type 0 where
  pub never-fall : never_falls os ≡ true
  pub last : last_or 0 os ≤ n

holds_test : (n : ℕ) (os : List ℕ) → OffsetsHold n os → blocks_hold n (length os - 1) os ≡ true
unfolding blocks_hold
holds_test n [] h = refl
holds_test n (a ∷ os) h =
    let e : suc (length os) ≡ suc (suc (length os) - 1) = omega arith in
    let f = h.never-fall in
    rw (eq-eqb (suc (length os)) (suc (suc (length os) - 1)) e, f, le-leb (last_or a os) n h.last) (or-true (eqb (suc (length os) - 1) 0))
  where
    or-true : (b : Bool) → (b || true) ≡ true
    or-true true = refl
    or-true false = refl

clusters-hold : (bs : List (List ℕ)) → OffsetsHold (length (in_clusters bs).documents) (in_clusters bs).block_offsets
clusters-hold [] = record { never-fall = refl; last = omega arith }
clusters-hold (b ∷ bs) = record { never-fall = never-test 0 (offsets_from 0 (b ∷ bs)) (offsets-rise 0 (b ∷ bs)); last = let l = offsets-last 0 (b ∷ bs) in omega arith }

offsets-hold : (k : BlockingStrategy) (g : Input) → OffsetsHold (length (blocked_in k g).documents) (blocked_in k g).block_offsets
offsets-hold (FixedSize size) g = record { never-fall = fixed.offsets-never-fall (length g.ids) size; last = let l = fixed.offsets-last (length g.ids) size in omega arith }
offsets-hold (RandomKmeans fraction minimum algorithm) g = clusters-hold (clusters (assigned_in algorithm minimum g))

-- as many summaries as blocks
summary-count : (g : Input) → length (summaries g) ≡ length (blocks g).block_offsets - 1
unfolding summaries
summary-count g = length-map (block_documents g) _ ∙ between-count (blocks g).block_offsets (blocks g).documents

pub blocks-hold : (g : Input) → blocks_hold (length (blocks g).documents) (length (summaries g)) (blocks g).block_offsets ≡ true
unfolding blocks
blocks-hold g = subst (λ n. blocks_hold (length (blocked_in g.blocking g).documents) n (blocked_in g.blocking g).block_offsets ≡ true) (sym (summary-count g))
    (holds_test (length (blocked_in g.blocking g).documents) (blocked_in g.blocking g).block_offsets (offsets-hold g.blocking g))

-- ---- as many documents as listed
in-clusters-long : (bs : List (List ℕ)) → length (in_clusters bs).documents ≡ length (joined bs)
in-clusters-long [] = refl
in-clusters-long (b ∷ bs) = refl

pub clusters-long : (k : ClusteringAlgorithm) (minimum : ℕ) (g : Input) → length (joined (clusters (assigned_in k minimum g))) ≡ length g.ids
clusters-long k minimum g = permuted-length (clusters-share (assigned_in k minimum g)) ∙ ap length (assigned-documents k minimum g)

pub as_many : (g : Input) → length (blocks g).documents ≡ length g.ids
unfolding blocks
as_many g = go g.blocking
  where
    go : (k : BlockingStrategy) → length (blocked_in k g).documents ≡ length g.ids
    go (FixedSize size) = refl
    go (RandomKmeans fraction minimum algorithm) =
        in-clusters-long (clusters (assigned_in algorithm minimum g)) ∙ clusters-long algorithm minimum g

-- ---- what an accepted input says of its numbers
module _ (g : Input) where
  few-fixed : (size : ℕ) → Faultless (blocking_faults (FixedSize size) (length g.ids) (length g.centroids)) → length (blocked_in (FixedSize size) g).block_offsets - 1 ≤ block_limit
  few-fixed size f = let n = fixed.offsets-number (length g.ids) size in let h = ltb-false block_limit (length g.ids / size) f.1.0 in omega arith

  -- the centroids listed are as many as wanted, so there are no more blocks than centroids may be
  pub right-count : (fraction : Float) (n listed : ℕ) → wrong_centroids fraction n listed ≡ false → (n ≡ 0 → ⊥) → (0 < listed) × (listed ≤ centroid_limit) × (listed ≤ n)
  right-count fraction n listed f some = go (ltb centroid_limit (centroid_count fraction n)) refl (eqb listed (min (centroid_count fraction n) n)) refl (rw (ne_eqb n 0 some) at f)
    where
      go : (a : Bool) → ltb centroid_limit (centroid_count fraction n) ≡ a → (b : Bool) → eqb listed (min (centroid_count fraction n) n) ≡ b → (a || not b) ≡ false → (0 < listed)
          × (listed ≤ centroid_limit) × (listed ≤ n)
      go true p b q h = absurd (true≢false h)
      go false p false q h = absurd (true≢false h)
      go false p true q h =
          let c = ltb-false centroid_limit (centroid_count fraction n) p in
          let e = eqb-true listed (min (centroid_count fraction n) n) q in
          let o = fixed.some-centroid fraction n in
          (at listed (centroid_count fraction n) n e o (λ z. some z), within listed (centroid_count fraction n) n e c, below listed (centroid_count fraction n) n e)
        where
          at : (l c n : ℕ) → l ≡ min c n → 1 ≤ c → (n ≡ 0 → ⊥) → 0 < l
          at l c zero e o s = absurd (s refl)
          at l c (suc n) e o s = omega arith

          within : (l c n : ℕ) → l ≡ min c n → c ≤ centroid_limit → l ≤ centroid_limit
          within l c n e o = omega arith

          below : (l c n : ℕ) → l ≡ min c n → l ≤ n
          below l c n e = omega arith

  few-clusters : (fraction : Float) (minimum : ℕ) (k : ClusteringAlgorithm) → Faultless (blocking_faults (RandomKmeans fraction minimum k) (length g.ids) (length g.centroids))
      → length (blocked_in (RandomKmeans fraction minimum k) g).block_offsets - 1 ≤ block_limit
  few-clusters fraction minimum k f = offsets (clusters (assigned_in k minimum g)) (go (ℕ_discrete (length g.ids) 0))
    where
      offsets : (bs : List (List ℕ)) → length bs ≤ block_limit → length (in_clusters bs).block_offsets - 1 ≤ block_limit
      offsets [] h = omega arith
      offsets (b ∷ bs) h = let c = offsets-count 0 (b ∷ bs) in omega arith

      go : Dec (length g.ids ≡ 0) → length (clusters (assigned_in k minimum g)) ≤ block_limit
      go (yes z) =
          let a = blocks-few (assigned_in k minimum g) in
          let b = length-map (assigned_in k minimum g) document_of in
          let e = ap length (assigned-documents k minimum g) in
          omega arith
      go (no z) = let r = right-count fraction (length g.ids) (length g.centroids) f.0 z in let w = blocks-within g r.0 k minimum in
          let s = centroids-within (length g.centroids) r.1 in omega arith

  pub few-blocks : Faultless (blocking_faults g.blocking (length g.ids) (length g.centroids)) → length (summaries g) ≤ block_limit
  unfolding blocks
  few-blocks f = subst (λ n. n ≤ block_limit) (sym (summary-count g)) (go g.blocking f)
    where
      go : (k : BlockingStrategy) → Faultless (blocking_faults k (length g.ids) (length g.centroids)) → length (blocked_in k g).block_offsets - 1 ≤ block_limit
      go (FixedSize size) f = few-fixed size f
      go (RandomKmeans fraction minimum k) f = few-clusters fraction minimum k f
