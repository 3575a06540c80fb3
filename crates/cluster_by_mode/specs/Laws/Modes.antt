-- Laws of Modes: both modes give each document its centroid by a function, and leave its rank.
use Rattle.std.specs.Prelude.{ℕ, zero, suc, ◌≤◌, ◌<◌, ◌^◌, min, ◌≡◌, List, [], ◌∷◌, ◌++◌, map, length, take, drop}
use Rattle.std.proofs.Common.{arith, sym, ap, ◌∙◌, length-take, take_all, take_at}
use Rattle.configuration.specs.declared.ClusteringAlgorithm.{ClusteringAlgorithm}
use Rattle.configuration.specs.declared.ClusteringAlgorithm.TheVariants as algorithm
use Rattle.documents.specs.Documents.{Documents, terms}
use Rattle.sort.specs.Sorted.{sorted}
use Rattle.sort.specs.Laws.Insert.{length-sorted}
use Rattle.cluster_meaning.specs.Clusters.{Assigned, assign, assigned_by}
use Rattle.cluster_meaning.specs.Laws.Ranks.{rank_of}
use Rattle.cluster_meaning.specs.Ranks.{Among}
use Rattle.cluster_passes.specs.Room.{Room}
use Rattle.cluster_passes.specs.Laws.Room.{room_cut}
use Rattle.cluster_exact.specs.Laws.Exact.{ranks-length, exact-ranks, exactly-is, last_centroid, last-among}
use Rattle.cluster_approximate.specs.Approximate.{approximate_ranks}
use Rattle.cluster_approximate.specs.Laws.Approximate.{approximate-length, approximate-ranks, approximately-is, last_nearly, last-known}
use Rattle.cluster_by_mode.specs.Modes.{fitting, ranks_by}

pub ranks-by-length : (g : ClusteringAlgorithm) (d : Documents) (minimum : ℕ) (C K : List ℕ) (o s a b n k q : ℕ) (ids : List ℕ) → length (ranks_by g d minimum C K o s a b n k q ids) ≡ length ids
ranks-by-length algorithm.RandomKmeans d minimum C K o s a b n k q ids = ranks-length d minimum C K s a b (min (length C) n) k ids
ranks-by-length (algorithm.RandomKmeansInvertedIndexApprox cut) d minimum C K o s a b n k q ids = approximate-length d cut minimum (take o C) K s a b n k q ids

-- ---- each document's centroid by a function
pub record Given (centroids ids t : List ℕ) (pairs : List Assigned) : Type 0 where
  pub by : ℕ → ℕ
  pub known : (i : ℕ) → Among (sorted centroids) (by i)
  pub ranked : t ≡ map (λ i. rank_of (sorted centroids) (by i)) (sorted ids)
  pub paired : assign by ids ≡ pairs

pub given_by : (g : ClusteringAlgorithm) (d : Documents) (minimum : ℕ) (centroids : List ℕ) (o s a b n k q : ℕ) → length centroids ≤ o → Room d centroids s a b n k → (ids : List ℕ)
    → length ids < 2 ^ 64 → ((i : ℕ) → Among (sorted ids) i → length (terms d i) ≤ q)
    → Given centroids ids (ranks_by g d minimum centroids (sorted centroids) o s a b n k q (sorted ids)) (assigned_by g d minimum centroids ids)
given_by algorithm.RandomKmeans d minimum centroids o s a b n k q h room ids few fit =
    let m = min (length centroids) n in
    let enough = room_cut d centroids s a b n k room in
    record {
      by = last_centroid d minimum centroids s a b m k enough ids few;
      known = last-among d minimum centroids s a b m k enough ids few;
      ranked = exact-ranks d minimum centroids s a b m k enough ids few;
      paired = exactly-is d minimum centroids s a b m k enough ids few;
    }
given_by (algorithm.RandomKmeansInvertedIndexApprox cut) d minimum centroids o s a b n k q h room ids few fit =
    record {
      by = last_nearly d cut minimum centroids s a b n k q room ids few fit;
      known = last-known d cut minimum centroids s a b n k q room ids few fit;
      ranked = ap (λ l. approximate_ranks d cut minimum l (sorted centroids) s a b n k q (sorted ids)) (take_all o centroids h) ∙ approximate-ranks d cut minimum centroids s a b n k q room ids few fit;
      paired = approximately-is d cut minimum centroids s a b n k q room ids few fit;
    }

-- ---- the steps one after another: K is what stands in the known centroids' slice once they are sorted into it
pub fit-take : (C : List ℕ) (r m : ℕ) → m ≡ min (length C) r → take m C ≡ take r C
fit-take [] r m e = ap (λ k. take k []) (let z : m ≡ 0 = omega arith in z) ∙ sym (take_all r [] (omega arith))
fit-take (x ∷ C) zero m e = ap (λ k. take k (x ∷ C)) (let z : m ≡ 0 = omega arith in z)
fit-take (x ∷ C) (suc r) zero e = absurd (let z : ⊥ = omega arith in z)
fit-take (x ∷ C) (suc r) (suc m) e = ap (λ l. x ∷ l) (fit-take C r m (omega arith))

pub fit_length : (C : List ℕ) (r m : ℕ) → m ≡ min (length C) r → length (take m C) ≡ m
fit_length C r m e = length-take m C ∙ omega arith

-- sorted into a slice with room
pub fit-sorted : (C known K : List ℕ) (o m : ℕ) → m ≡ min (length C) (min (length known) o) → K ≡ sorted (take (length known) (take m C)) ++ drop (length (take m C)) known → take m K
    ≡ sorted (take m C)
fit-sorted C known K o m e h =
    let l = fit_length C (min (length known) o) m e in
    let t : take (length known) (take m C) ≡ take m C = take_all (length known) (take m C) (omega arith) in
    ap (take m) h ∙ take_at (sorted (take (length known) (take m C))) (drop (length (take m C)) known) m (length-sorted (take (length known) (take m C)) ∙ ap length t ∙ l) ∙ ap sorted t

pub taken-by : (g : ClusteringAlgorithm) (d : Documents) (minimum : ℕ) (C known K : List ℕ) (o s a b n k q : ℕ) (ids rest t : List ℕ) (r m : ℕ) → r ≡ min (length known) o → m ≡ min (length C) r
    → K ≡ sorted (take (length known) (take m C)) ++ drop (length (take m C)) known
    → t ≡ ranks_by g d minimum (take m C) (take m K) o s a b n k q ids ++ rest
    → t ≡ ranks_by g d minimum (fitting (length known) o C) (sorted (fitting (length known) o C)) o s a b n k q ids ++ rest
taken-by g d minimum C known K o s a b n k q ids rest t r m er em e_k et =
    let e : m ≡ min (length C) (min (length known) o) = em ∙ ap (min (length C)) er in
    let f : take m C ≡ fitting (length known) o C = fit-take C (min (length known) o) m e in
    et ∙ (λ j. ranks_by g d minimum (f j) ((fit-sorted C known K o m e e_k ∙ ap sorted f) j) o s a b n k q ids ++ rest)
