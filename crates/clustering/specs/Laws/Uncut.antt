-- A clustering that cuts nothing leaves document 01's clusters.
use Rattle.std.specs.Prelude.{ℕ, ◌+◌, ◌-◌, ◌≤◌, ◌<◌, ◌^◌, min, ◌≡◌, refl, List, [], ◌∷◌, ◌++◌, replicate}
use Rattle.std.proofs.Common.{arith, sym, ap, ◌∙◌, take_all}
use Rattle.std.proofs.Math.ListN.{length, length-replicate}
use Rattle.std.proofs.lemmas.List.Edits.{sets}
use Rattle.configuration.specs.declared.ClusteringAlgorithm.{ClusteringAlgorithm}
use Rattle.sequences.specs.Lists.{joined, offsets_from, those, sorted_by}
use Rattle.documents.specs.Documents.{Documents}
use Rattle.counting_sort.specs.Counting.{Grouped, grouped, grouped_by}
use Rattle.counting_sort.specs.Laws.Grouping.{nonempty, ranks, groups-are, ends_from}
use Rattle.sort.specs.Sorted.{sorted}
use Rattle.sort.specs.Laws.Insert.{length-sorted}
use Rattle.cluster_meaning.specs.Clusters.{Assigned, clusters, assigned_by}
use Rattle.cluster_meaning.specs.Laws.Ranks.{rank_of, rank_below}
use Rattle.cluster_meaning.specs.Laws.Canonical.{clusters-ranked, joined-nonempty}
use Rattle.cluster_by_mode.specs.Modes.{fitting, ranks_by}
use Rattle.cluster_by_mode.specs.Laws.Modes.{Given, given_by}
use Rattle.clearing.specs.Zeros.{zeros}
use Rattle.scratch.specs.Scratches.{Scratches}
use Rattle.clustering.specs.Clustered.{some_groups, listed_in, centroids_in, ranks_in, groups_in}
use Rattle.clustering.specs.Enough.{Enough}

-- ---- the blocks
blocks-are : (centroids ids t : List ℕ) (pairs : List Assigned) → Given centroids ids t pairs → (k : ℕ) → length centroids ≤ k → length ids < 2 ^ 64 → (rest : ℕ) (bs : List ℕ)
    → (g : Grouped) → g ≡ grouped_by t (sorted ids) k (length ids + rest) bs
    → (g.count ≡ length (clusters pairs)) × (g.order ≡ joined (clusters pairs) ++ replicate rest 0) × (g.blocks ≡ sets bs 0 (offsets_from 0 (clusters pairs)))
blocks-are centroids ids t pairs G k room few rest bs g q =
    let l = length-sorted ids in
    let w = length-sorted centroids in
    let r : ℕ → ℕ = λ i. rank_of (sorted centroids) (G.by i) in
    let fit : (i : ℕ) → r i < k = λ i. let z = rank_below (G.by i) (sorted centroids) (G.known i) in omega arith in
    let ls = ranks r k fit (sorted ids) bs rest (omega arith) in
    let c : those nonempty ls ≡ clusters pairs = clusters-ranked (sorted centroids) G.by G.known ids k (omega arith) ∙ ap clusters G.paired in
    let E : g ≡ grouped (length (those nonempty ls)) (ends_from 0 ls) (joined ls ++ replicate rest 0) (sets bs 0 (offsets_from 0 (those nonempty ls))) =
    q ∙ (λ j. grouped_by (G.ranked j) (sorted ids) k (sym l j + rest) bs) ∙ groups-are r k fit (sorted ids) bs rest (omega arith) in (
      ap (λ (x : Grouped). x.count) E ∙ ap length c,
      ap (λ (x : Grouped). x.order) E ∙ ap (λ z. z ++ replicate rest 0) (sym (joined-nonempty ls) ∙ ap joined c),
      ap (λ (x : Grouped). x.blocks) E ∙ ap (λ z. sets bs 0 (offsets_from 0 z)) c,
    )

-- ---- an empty list
none-listed : (s : Scratches) → listed_in [] s ≡ []
unfolding sorted_by
none-listed s =
    let e : fitting (length s.sorted) (length s.taken) [] ≡ [] = take_all (min (length s.sorted) (length s.taken)) [] (omega arith) in
    ap sorted e

pub uncut-none : (g : ClusteringAlgorithm) (d : Documents) (minimum : ℕ) (centroids : List ℕ) (s : Scratches)
    → groups_in g d minimum [] centroids s ≡ grouped 0 (zeros s.counts) (zeros s.order) s.blocks
unfolding groups_in
uncut-none g d minimum centroids s = ap (λ l. some_groups (ranks_in g d minimum [] centroids s) l (zeros s.counts) (zeros s.order) s.blocks) (none-listed s)

-- ---- one that is not empty
of_some : (keys entries counts order blocks : List ℕ) → 0 < length entries
    → some_groups keys entries counts order blocks ≡ (let g = grouped_by keys entries (length counts) (length order) blocks in grouped (g.count + 1) g.cursors g.order g.blocks)
of_some keys [] counts order blocks h = absurd (let z : ⊥ = omega arith in z)
of_some keys (e ∷ es) counts order blocks h = refl

module _ (g : ClusteringAlgorithm) (d : Documents) (minimum : ℕ) (ids centroids : List ℕ) (s : Scratches) (enough : Enough d ids centroids s) (some : 0 < length ids) where
  abbrev all_ranks : List ℕ
  all_ranks =
      ranks_by g d minimum centroids (sorted centroids) (length s.order) (length s.starts) (length s.slots) (length s.weights) (length s.sums)
      (length s.counts) (length s.keys) (sorted ids)

  all_listed : fitting (length s.sorted) (length s.taken) ids ≡ ids
  all_listed = take_all (min (length s.sorted) (length s.taken)) ids (omega (arith, enough.sorted, enough.taken))

  all-centroids : centroids_in centroids s ≡ centroids
  all-centroids = take_all (min (length s.known) (length s.order)) centroids (omega (arith, enough.known, enough.competing))

  all-ranks : ranks_in g d minimum ids centroids s ≡ all_ranks
  all-ranks =
      λ j. ranks_by g d minimum (all-centroids j) (sorted (all-centroids j)) (length s.order) (length s.starts) (length s.slots) (length s.weights) (length s.sums)
      (length s.counts) (length s.keys) (sorted (all_listed j))

  all-groups : groups_in g d minimum ids centroids s
      ≡ (let r = grouped_by all_ranks (sorted ids) (length s.counts) (length ids + (length s.order - length ids)) s.blocks in grouped (r.count + 1) r.cursors r.order r.blocks)
  unfolding groups_in
  all-groups =
      (λ j. some_groups (all-ranks j) (sorted (all_listed j)) (zeros s.counts) (zeros s.order) s.blocks)
      ∙ of_some all_ranks (sorted ids) (zeros s.counts) (zeros s.order) s.blocks (let l = length-sorted ids in omega (arith, some))
      ∙ (λ j. let r = grouped_by all_ranks (sorted ids) (length-replicate {A = ℕ} (length s.counts) 0 j) (long j) s.blocks in grouped (r.count + 1) r.cursors r.order r.blocks)
    where
      long : length (zeros s.order) ≡ length ids + (length s.order - length ids)
      long = length-replicate {A = ℕ} (length s.order) 0 ∙ omega (arith, enough.order)

  pub uncut : ((groups_in g d minimum ids centroids s).count ≡ length (clusters (assigned_by g d minimum centroids ids)) + 1)
      × ((groups_in g d minimum ids centroids s).order ≡ joined (clusters (assigned_by g d minimum centroids ids)) ++ replicate (length s.order - length ids) 0)
      × ((groups_in g d minimum ids centroids s).blocks ≡ sets s.blocks 0 (offsets_from 0 (clusters (assigned_by g d minimum centroids ids))))
  uncut =
      let r = enough.room some in
      let w = blocks-are centroids ids all_ranks (assigned_by g d minimum centroids ids)
      (given_by g d minimum centroids (length s.order) (length s.starts) (length s.slots) (length s.weights) (length s.sums) (length s.counts)
      (length s.keys) enough.competing r ids enough.few enough.short)
      (length s.counts) r.counters enough.few (length s.order - length ids) s.blocks
      (grouped_by all_ranks (sorted ids) (length s.counts) (length ids + (length s.order - length ids)) s.blocks) refl in (
        ap (λ (x : Grouped). x.count) all-groups ∙ ap (λ n. n + 1) w.0,
        ap (λ (x : Grouped). x.order) all-groups ∙ w.1,
        ap (λ (x : Grouped). x.blocks) all-groups ∙ w.2,
      )
