-- Counts by rank are the sizes of groups.
use Rattle.std.specs.Prelude.{ℕ, ◌+◌, ◌≤◌, ◌<◌, ◌≡◌, refl, List, [], ◌∷◌, map, length, get_or, eqb}
use Rattle.std.proofs.Common.{arith, sym, ap, ◌∙◌}
use Rattle.std.proofs.lemmas.List.{length-map}
use Rattle.sort.specs.Sorted.{sorted}
use Rattle.sort.specs.Laws.Insert.{length-sorted}
use Rattle.sequences.specs.Lists.{EachOf, those, from}
use Rattle.sequences.specs.Laws.Lists.{from-length, those-same, from_at}
use Rattle.counting_sort.specs.Laws.Counting.{tally}
use Rattle.cluster_meaning.specs.Clusters.{assign, small, dissolved}
use Rattle.cluster_meaning.specs.Laws.Ranks.{rank_of, rank-eqb, rank_below}
use Rattle.cluster_meaning.specs.Ranks.{Among}
use Rattle.cluster_meaning.specs.Laws.Canonical.{dissolved-by}

-- two functions that agree on a list's entries
pub each_same : {A : Type 0} (F G : ℕ → A) (l m : List ℕ) → ((i : ℕ) → Among l i → F i ≡ G i) → EachOf (Among l) m → map F m ≡ map G m
each_same F G l [] h e = refl
each_same F G l (i ∷ m) h e = let x = h i e.0 in let y = each_same F G l m h e.1 in cc

-- documents go to known centroids by f
module _ (centroids : List ℕ) (k : ℕ) (room : length centroids ≤ k) (f : ℕ → ℕ) (known : (i : ℕ) → Among (sorted centroids) (f i)) (ids : List ℕ) where
  abbrev pub ranked : ℕ → ℕ
  ranked i = rank_of (sorted centroids) (f i)

  pub rank-fits : (c : ℕ) → Among (sorted centroids) c → rank_of (sorted centroids) c < k
  rank-fits c a = let r = rank_below c (sorted centroids) a in let l = length-sorted centroids in omega arith

  pub tally-length : length (tally ranked k (sorted ids)) ≡ k
  tally-length = length-map (from 0 k) _ ∙ from-length 0 k

  -- the count at a centroid's rank is the size of its group
  pub count-is : (c : ℕ) → Among (sorted centroids) c → get_or (tally ranked k (sorted ids)) (rank_of (sorted centroids) c) 0 ≡ length (those (λ j. eqb (f j) c) (sorted ids))
  count-is c a =
      let r = rank_of (sorted centroids) c in
      let G : ℕ → ℕ = λ c. length (those (λ j. eqb (ranked j) c) (sorted ids)) in
      from_at G 0 0 k r (rank-fits c a)
      ∙ ap G (let z : 0 + r ≡ r = omega arith in z)
      ∙ ap length (those-same (λ j. eqb (ranked j) r) (λ j. eqb (f j) c) (λ j. rank-eqb (sorted centroids) (f j) c (known j) a) (sorted ids))

  -- and says whether it dissolves
  pub small_is : (minimum c : ℕ) → Among (sorted centroids) c → small minimum (get_or (tally ranked k (sorted ids)) (rank_of (sorted centroids) c) 0) ≡ dissolved minimum (assign f ids) c
  small_is minimum c a = ap (small minimum) (count-is c a) ∙ sym (dissolved-by f minimum ids c)
