-- Clusters of documents that a function assigns: by their sorted list, and by ranks.
use Rattle.std.specs.Prelude.{ℕ, ◌≤◌, ◌<◌, ◌≡◌, refl, Bool, true, false, ◌||◌, cond, leb}
use Rattle.std.proofs.Common.{arith, ◌∙◌}
use Rattle.std.proofs.Math.Path.{sym, ap}
use mathlib.Core.List.{List, [], ◌∷◌, ◌++◌, map, map-map}
use Rattle.std.proofs.Math.ListN.{length}
use Rattle.std.proofs.lemmas.List.{length-map}
use Rattle.std.proofs.Math.Dec.{eqb}
use Rattle.sort.specs.Laws.Sorted.{insert}
use Rattle.sort.specs.Sorted.{sorted}
use Rattle.sort.specs.Laws.Insert.{length-sorted}
use Rattle.sequences.specs.Lists.{EachOf, those, joined, among, from, rising, with_key, sorted_by, insert_by}
use Rattle.sequences.specs.Laws.Lists.{eqb_swap, those-same}
use Rattle.counting_sort.specs.Laws.Grouping.{nonempty}
use Rattle.cluster_meaning.specs.Clusters.{assigned, centroid_of, document_of, assign, small, dissolved, reassign, clusters}
use Rattle.cluster_meaning.specs.Laws.Ordered.{those-sorted}
use Rattle.cluster_meaning.specs.Laws.Ranks.{rank_of, rank-eqb, rank_below, rising-rank, rising-among, rising-those}
use Rattle.cluster_meaning.specs.Ranks.{Among}

module _ (h : ℕ → ℕ) where
  -- the documents of a centroid
  pub taken-by : (c : ℕ) (ids : List ℕ) → map document_of (with_key centroid_of c (assign h ids)) ≡ those (λ i. eqb (h i) c) ids
  taken-by c [] = refl
  taken-by c (i ∷ ids) = go (eqb (h i) c) (taken-by c ids)
    where
      go : (b : Bool) → map document_of (with_key centroid_of c (assign h ids)) ≡ those (λ i. eqb (h i) c) ids
          → map document_of (cond b (assigned (h i) i ∷ with_key centroid_of c (assign h ids)) (with_key centroid_of c (assign h ids))) ≡ cond b (i ∷ those (λ i. eqb (h i) c) ids) (those (λ i. eqb (h i) c)
          ids)
      go true e = ap (λ l. i ∷ l) e
      go false e = e

  clusters-all : (ids cs : List ℕ) → map (λ c. sorted (map document_of (with_key centroid_of c (assign h ids)))) cs ≡ map (λ c. those (λ i. eqb (h i) c) (sorted ids)) cs
  clusters-all ids [] = refl
  clusters-all ids (c ∷ cs) = let e = ap sorted (taken-by c ids) ∙ those-sorted (λ i. eqb (h i) c) ids in let i = clusters-all ids cs in cc

  -- the sorted list serves every block
  pub clusters-sorted : (ids : List ℕ) → clusters (assign h ids) ≡ map (λ c. those (λ i. eqb (h i) c) (sorted ids)) (rising (map h ids))
  unfolding clusters
  clusters-sorted ids = ap (λ l. map (λ c. sorted (map document_of (with_key centroid_of c (assign h ids)))) (rising l)) (map-map centroid_of (λ i. assigned (h i) i) ids)
      ∙ clusters-all ids (rising (map h ids))

  -- the size of a group
  pub dissolved-by : (minimum : ℕ) (ids : List ℕ) (c : ℕ) → dissolved minimum (assign h ids) c ≡ small minimum (length (those (λ i. eqb (h i) c) (sorted ids)))
  unfolding dissolved
  dissolved-by minimum ids c =
      ap (small minimum)
      (sym (length-map (with_key centroid_of c (assign h ids)) document_of)
      ∙ ap length (taken-by c ids)
      ∙ sym (length-sorted (those (λ i. eqb (h i) c) ids))
      ∙ ap length (those-sorted (λ i. eqb (h i) c) ids))

-- assigned again, all the same by a function
pub reassign-is : (minimum : ℕ) (f again : ℕ → ℕ) (ids : List ℕ) → reassign minimum again (assign f ids) ≡ assign (λ i. cond (dissolved minimum (assign f ids) (f i)) (again i) (f i)) ids
unfolding reassign
reassign-is minimum f again ids = go ids
  where
    at : (b : Bool) (i : ℕ) → cond b (assigned (again i) i) (assigned (f i) i) ≡ assigned (cond b (again i) (f i)) i
    at true i = refl
    at false i = refl

    go : (l : List ℕ) → map (λ a. cond (dissolved minimum (assign f ids) a.centroid) (assigned (again a.document) a.document) a) (assign f l)
        ≡ assign (λ i. cond (dissolved minimum (assign f ids) (f i)) (again i) (f i)) l
    go [] = refl
    go (i ∷ l) = let e = at (dissolved minimum (assign f ids) (f i)) i in let j = go l in cc

-- ---- blocks that are not empty
pub joined-nonempty : (ls : List (List ℕ)) → joined (those nonempty ls) ≡ joined ls
joined-nonempty [] = refl
joined-nonempty ([] ∷ ls) = joined-nonempty ls
joined-nonempty ((x ∷ l) ∷ ls) = ap (λ t. (x ∷ l) ++ t) (joined-nonempty ls)

those-map : (G : ℕ → List ℕ) (ks : List ℕ) → those nonempty (map G ks) ≡ map G (those (λ k. nonempty (G k)) ks)
those-map G [] = refl
those-map G (k ∷ ks) = go (nonempty (G k)) (those-map G ks)
  where
    go : (b : Bool) → those nonempty (map G ks) ≡ map G (those (λ k. nonempty (G k)) ks) → cond b (G k ∷ those nonempty (map G ks)) (those nonempty (map G ks))
        ≡ map G (cond b (k ∷ those (λ k. nonempty (G k)) ks) (those (λ k. nonempty (G k)) ks))
    go true e = ap (λ l. G k ∷ l) e
    go false e = e

nonempty-insert : (x : ℕ) (l : List ℕ) → nonempty (insert x l) ≡ true
unfolding insert_by
nonempty-insert x [] = refl
nonempty-insert x (y ∷ l) = go (leb x y)
  where
    go : (b : Bool) → nonempty (cond b (x ∷ y ∷ l) (y ∷ insert x l)) ≡ true
    go true = refl
    go false = refl

nonempty-sorted : (l : List ℕ) → nonempty (sorted l) ≡ nonempty l
unfolding sorted_by
nonempty-sorted [] = refl
nonempty-sorted (x ∷ l) = nonempty-insert x (sorted l)

nonempty-those : (r : ℕ → ℕ) (k : ℕ) (ids : List ℕ) → nonempty (those (λ i. eqb (r i) k) ids) ≡ among k (map r ids)
nonempty-those r k [] = refl
nonempty-those r k (i ∷ ids) = go (eqb (r i) k) (nonempty-those r k ids) ∙ ap (λ b. b || among k (map r ids)) (eqb_swap (r i) k)
  where
    go : (b : Bool) → nonempty (those (λ i. eqb (r i) k) ids) ≡ among k (map r ids) → nonempty (cond b (i ∷ those (λ i. eqb (r i) k) ids) (those (λ i. eqb (r i) k) ids)) ≡ (b || among k (map r ids))
    go true e = refl
    go false e = e

map_same : (F G : ℕ → List ℕ) (P : ℕ → Type 0) → ((c : ℕ) → P c → F c ≡ G c) → (l : List ℕ) → EachOf P l → map F l ≡ map G l
map_same F G P e [] a = refl
map_same F G P e (c ∷ l) a = let x = e c a.0 in let j = map_same F G P e l a.1 in cc

each_map : (P : ℕ → Type 0) (f : ℕ → ℕ) → ((i : ℕ) → P (f i)) → (l : List ℕ) → EachOf P (map f l)
each_map P f e [] = tt
each_map P f e (i ∷ l) = (e i, each_map P f e l)

-- ---- the blocks by rank
module _ (l : List ℕ) (h : ℕ → ℕ) (known : (i : ℕ) → Among l (h i)) (ids : List ℕ) (n : ℕ) (room : length l ≤ n) where
  abbrev ranked : ℕ → List ℕ
  ranked k = those (λ i. eqb (rank_of l (h i)) k) (sorted ids)

  present : (k : ℕ) → nonempty (ranked k) ≡ among k (map (λ i. rank_of l (h i)) ids)
  present k =
      ap nonempty (sym (those-sorted (λ i. eqb (rank_of l (h i)) k) ids))
      ∙ nonempty-sorted (those (λ i. eqb (rank_of l (h i)) k) ids)
      ∙ nonempty-those (λ i. rank_of l (h i)) k ids

  pub clusters-ranked : those nonempty (map ranked (from 0 n)) ≡ clusters (assign h ids)
  clusters-ranked =
      those-map ranked (from 0 n)
      ∙ ap (map ranked) (those-same (λ k. nonempty (ranked k)) (λ k. among k (map (λ i. rank_of l (h i)) ids)) present (from 0 n)
      ∙ sym (rising-those n (map (λ i. rank_of l (h i)) ids) (each_map (λ t. t < n) (λ i. rank_of l (h i)) (λ i. let b = rank_below (h i) l (known i) in omega arith) ids))
      ∙ ap rising (sym (map-map (rank_of l) h ids))
      ∙ rising-rank l (map h ids) (each_map (Among l) h known ids))
      ∙ map-map ranked (rank_of l) (rising (map h ids))
      ∙ map_same (λ c. ranked (rank_of l c)) (λ c. those (λ i. eqb (h i) c) (sorted ids)) (Among l)
      (λ c a. those-same (λ i. eqb (rank_of l (h i)) (rank_of l c)) (λ i. eqb (h i) c) (λ i. rank-eqb l (h i) c (known i) a) (sorted ids))
      (rising (map h ids)) (rising-among l (map h ids) (each_map (Among l) h known ids))
      ∙ sym (clusters-sorted h ids)
