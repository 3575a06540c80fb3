-- The steps of a clustering one after another: what the ranks left in their buffer, cut to the documents that find a place, come to.
use Rattle.std.specs.Prelude.{ℕ, zero, suc, ◌+◌, ◌≤◌, min, ◌≡◌, refl, Bool, true, false, cond, List, [], ◌∷◌, ◌++◌, length, take, drop, eqb}
use Rattle.std.proofs.Common.{arith, sym, ap, ◌∙◌, subst, take_all, take_at}
use Rattle.configuration.specs.declared.ClusteringAlgorithm.{ClusteringAlgorithm}
use Rattle.documents.specs.Documents.{Documents}
use Rattle.sort.specs.Sorted.{sorted}
use Rattle.sort.specs.Laws.Insert.{length-sorted}
use Rattle.clearing.specs.Zeros.{zeros}
use Rattle.counting_sort.specs.Counting.{changes, Grouped, grouped, grouped_by}
use Rattle.scratch.specs.Scratches.{Scratches}
use Rattle.cluster_by_mode.specs.Modes.{fitting, ranks_by}
use Rattle.cluster_by_mode.specs.Laws.Modes.{ranks-by-length, fit-take, fit_length, fit-sorted}
use Rattle.clustering.specs.Clustered.{some_groups, listed_in, centroids_in, ranks_in, groups_in}

-- ---- groups of n entries
pub grouped-none : (n : ℕ) (keys entries counts order blocks : List ℕ) → n ≡ 0 → grouped 0 counts order blocks ≡ some_groups (take n keys) (take n entries) counts order blocks
grouped-none zero keys entries counts order blocks h = refl
grouped-none (suc n) keys entries counts order blocks h = absurd (let z : ⊥ = omega arith in z)

pub grouped-some : (n : ℕ) (keys entries counts order blocks : List ℕ) (g : Grouped) → (n ≡ 0 → ⊥) → n ≤ length entries
    → g ≡ grouped_by (take n keys) (take n entries) (length counts) (length order) blocks
    → grouped (g.count + 1) g.cursors g.order g.blocks ≡ some_groups (take n keys) (take n entries) counts order blocks
grouped-some zero keys entries counts order blocks g h l e = absurd (h refl)
grouped-some (suc n) keys [] counts order blocks g h l e = absurd (let z : ⊥ = omega arith in z)
grouped-some (suc n) keys (x ∷ xs) counts order blocks g h l e = λ j. grouped ((e j).count + 1) (e j).cursors (e j).order (e j).blocks

-- there are no more groups than keys are counted
changes-few : (a : ℕ) (es : List ℕ) → length (changes a es) ≤ length es
changes-few a [] = omega arith
changes-few a (e ∷ es) = go (eqb e a) (changes-few a es) (changes-few e es)
  where
    go : (b : Bool) → length (changes a es) ≤ length es → length (changes e es) ≤ length es → length (cond b (changes a es) (e ∷ changes e es)) ≤ length (e ∷ es)
    go true h k = omega arith
    go false h k = omega arith

pub groups-few : (keys entries : List ℕ) (k n : ℕ) (blocks : List ℕ) (g : Grouped) → g ≡ grouped_by keys entries k n blocks → g.count ≤ length g.cursors
unfolding grouped_by
groups-few keys entries k n blocks g e = subst (λ g. g.count ≤ length g.cursors) (sym e) (changes-few 0 (grouped_by keys entries k n blocks).cursors)

-- ---- all steps: S is what stands in `sorted` once the n ids are sorted into it, t what the ranks leave in `taken`
pub steps-are : (g : ClusteringAlgorithm) (d : Documents) (minimum : ℕ) (ids centroids : List ℕ) (s : Scratches) (places n : ℕ)
    → places ≡ min (length s.sorted) (length s.taken) → n ≡ min (length ids) places
    → (S t counts order : List ℕ) → S ≡ sorted (take (length s.sorted) (take n ids)) ++ drop (length (take n ids)) s.sorted
    → t ≡ ranks_by g d minimum (fitting (length s.known) (length s.order) centroids) (sorted (fitting (length s.known) (length s.order) centroids)) (length s.order)
    (length s.starts) (length s.slots) (length s.weights) (length s.sums) (length s.counts) (length s.keys) (take (length s.taken) (take n S))
    ++ drop (length (take n S)) s.taken
    → counts ≡ zeros s.counts → order ≡ zeros s.order
    → some_groups (take n t) (take n S) counts order s.blocks ≡ groups_in g d minimum ids centroids s
unfolding groups_in
steps-are g d minimum ids centroids s places n ep en S t counts order e_s et e_c e_o =
    let o = length s.order in
    let e : n ≡ min (length ids) (min (length s.sorted) (length s.taken)) = en ∙ ap (min (length ids)) ep in
    let f_i : take n ids ≡ fitting (length s.sorted) (length s.taken) ids = fit-take ids (min (length s.sorted) (length s.taken)) n e in
    let f_s : take n S ≡ listed_in ids s = fit-sorted ids s.sorted S (length s.taken) n e e_s ∙ ap sorted f_i in
    let l : length (listed_in ids s) ≡ n =
    length-sorted (fitting (length s.sorted) (length s.taken) ids) ∙ ap length (sym f_i) ∙ fit_length ids (min (length s.sorted) (length s.taken)) n e in
    let f_t : take (length s.taken) (take n S) ≡ listed_in ids s = ap (take (length s.taken)) f_s ∙ take_all (length s.taken) (listed_in ids s) (omega arith) in
    let R = ranks_in g d minimum ids centroids s in
    let ft : take n t ≡ R =
    ap (take n)
    (et ∙ (λ j. ranks_by g d minimum (centroids_in centroids s) (sorted (centroids_in centroids s)) o (length s.starts) (length s.slots) (length s.weights) (length s.sums)
    (length s.counts) (length s.keys) (f_t j) ++ drop (length (f_s j)) s.taken))
    ∙ take_at R (drop (length (listed_in ids s)) s.taken) n
    (ranks-by-length g d minimum (centroids_in centroids s) (sorted (centroids_in centroids s)) o (length s.starts) (length s.slots) (length s.weights) (length s.sums)
    (length s.counts) (length s.keys) (listed_in ids s) ∙ l) in
    λ j. some_groups (ft j) (f_s j) (e_c j) (e_o j) s.blocks
