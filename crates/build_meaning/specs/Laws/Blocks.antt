-- There are no more blocks than there are centroids.
use Rattle.std.specs.Prelude.{ℕ, suc, ◌≤◌, ◌<◌, ◌≡◌, Bool, ◌||◌, cond, List, [], ◌∷◌, map, ltb, eqb}
use Rattle.std.proofs.Common.{arith, sym, ◌∙◌, true≢false, ne_eqb}
use Rattle.std.proofs.Math.Path.{subst}
use Rattle.std.proofs.Math.Bool.{true, false}
use Rattle.std.proofs.Math.ListN.{length}
use Rattle.std.proofs.lemmas.List.{length-map}
use Rattle.configuration.specs.declared.ClusteringAlgorithm.{ClusteringAlgorithm}
use Rattle.configuration.specs.declared.ClusteringAlgorithm.TheVariants as algorithm
use Rattle.sequences.specs.Lists.{EachOf, first_or, among, put_once, rising, with_key}
use Rattle.sequences.specs.Groups.{RisesFrom}
use Rattle.sequences.specs.Laws.Groups.{Against, less, same, more, against, rising-rises, among-rising, not-among}
use Rattle.sort.specs.Sorted.{sorted}
use Rattle.cluster_nearest.specs.Nearest.{nearest, nearest_or_itself, nearly}
use Rattle.cluster_meaning.specs.Clusters.{Assigned, assigned, centroid_of, document_of, assign, dissolved, reassign, exactly, approximately, survivors, clusters}
use Rattle.cluster_meaning.specs.Ranks.{Among}
use Rattle.cluster_meaning.specs.Laws.Ranks.{rising-among}
use Rattle.cluster_meaning.specs.Laws.Members.{each-among, nearest-among, itself-among, nearly-among, those-among}
use Rattle.build_meaning.specs.Built.{Input}
use Rattle.build_meaning.specs.Laws.Built.{assigned_in}

-- ---- of a list's numbers, each once, there are no more than in any list that has them all
put-more : (n : ℕ) (l : List ℕ) → length (put_once n l) ≤ suc (length l)
unfolding put_once
put-more n [] = omega arith
put-more n (x ∷ l) = go (ltb n x) (eqb n x) (put-more n l)
  where
    go : (b t : Bool) → length (put_once n l) ≤ suc (length l) → length (cond b (n ∷ x ∷ l) (cond t (x ∷ l) (x ∷ put_once n l))) ≤ suc (suc (length l))
    go true t i = omega arith
    go false true i = omega arith
    go false false i = omega arith

pub rising-fewer : (l : List ℕ) → length (rising l) ≤ length l
unfolding rising
rising-fewer [] = omega arith
rising-fewer (x ∷ l) = let i = rising-fewer l in let p = put-more x (rising l) in omega arith

-- those that rise from above y stand in what follows y
past : (y b : ℕ) (ks l : List ℕ) → y < b → RisesFrom b ks → EachOf (Among (y ∷ l)) ks → EachOf (Among l) ks
past y b [] l h r e = tt
past y b (k ∷ ks) l h r e = (
  let n : eqb k y ≡ false = ne_eqb k y (λ z. omega (arith, r.0)) in subst (λ t. (t || among k l) ≡ true) n e.0,
  past y (suc k) ks l (omega (arith, r.0)) r.1 e.1,
)

no_more : (a b : ℕ) (ks l : List ℕ) → RisesFrom a ks → RisesFrom b l → EachOf (Among l) ks → length ks ≤ length l
no_more a b [] l r s e = omega arith
no_more a b (k ∷ ks) [] r s e = absurd (true≢false (sym e.0))
no_more a b (k ∷ ks) (y ∷ l) r s e = go (against k y) (λ w. no_more (suc k) (suc y) ks l r.1 s.1 w) (λ w. no_more a (suc y) (k ∷ ks) l r s.1 w)
  where
    go : Against k y → (EachOf (Among l) ks → length ks ≤ length l) → (EachOf (Among l) (k ∷ ks) → suc (length ks) ≤ length l) → suc (length ks) ≤ suc (length l)
    go (less p) f h = absurd (true≢false (sym e.0 ∙ not-among k y (y ∷ l) p (omega arith, s.1)))
    go (same p) f h = let i = f (past y (suc k) ks l (omega arith) r.1 e.1) in omega arith
    go (more p) f h = let i = h (past y k (k ∷ ks) l p (omega arith, r.1) e) in omega arith

pub distinct-fewer : (xs l : List ℕ) → EachOf (Among l) xs → length (rising xs) ≤ length l
distinct-fewer xs l e =
    let i = no_more 0 0 (rising xs) (rising l) (rising-rises xs) (rising-rises l) (each (rising xs) (rising-among l xs e)) in
    let j = rising-fewer l in
    omega arith
  where
    each : (ks : List ℕ) → EachOf (Among l) ks → EachOf (Among (rising l)) ks
    each [] e = tt
    each (k ∷ ks) e = (among-rising k l ∙ e.0, each ks e.1)

-- ---- each document is taken by one of the centroids
module _ (cs : List ℕ) where
  assign-among : (f : ℕ → ℕ) → ((i : ℕ) → Among cs (f i)) → (ids : List ℕ) → EachOf (Among cs) (map centroid_of (assign f ids))
  assign-among f h [] = tt
  assign-among f h (i ∷ ids) = (h i, assign-among f h ids)

  reassign-among : (minimum : ℕ) (again : ℕ → ℕ) → ((i : ℕ) → Among cs (again i)) → (pairs : List Assigned) → EachOf (Among cs) (map centroid_of pairs)
      → EachOf (Among cs) (map centroid_of (reassign minimum again pairs))
  unfolding reassign
  reassign-among minimum again h pairs e = go pairs e
    where
      at : (b : Bool) (a : Assigned) → Among cs a.centroid → Among cs (centroid_of (cond b (assigned (again a.document) a.document) a))
      at true a w = h a.document
      at false a w = w

      go : (l : List Assigned) → EachOf (Among cs) (map centroid_of l) → EachOf (Among cs) (map centroid_of (map (λ a. cond (dissolved minimum pairs a.centroid) (assigned (again a.document)
          a.document) a) l))
      go [] e = tt
      go (a ∷ l) e = (at (dissolved minimum pairs a.centroid) a e.0, go l e.1)

-- nor more than documents
pub blocks-few : (pairs : List Assigned) → length (clusters pairs) ≤ length pairs
unfolding clusters
blocks-few pairs =
    let a = length-map (rising (map centroid_of pairs)) (λ c. sorted (map document_of (with_key centroid_of c pairs))) in
    let b = length-map pairs centroid_of in
    let c = rising-fewer (map centroid_of pairs) in
    omega arith

module _ (g : Input) (some : 0 < length g.centroids) where
  taken : (k : ClusteringAlgorithm) (minimum : ℕ) → EachOf (Among g.centroids) (map centroid_of (assigned_in k minimum g))
  unfolding exactly approximately
  taken algorithm.RandomKmeans minimum =
      let d = g.documents in
      let cs = g.centroids in
      reassign-among cs minimum (nearest d cs) (nearest-among d cs some) (assign (nearest_or_itself d cs) g.ids) (assign-among cs (nearest_or_itself d cs) (itself-among d cs some) g.ids)
  taken (algorithm.RandomKmeansInvertedIndexApprox cut) minimum =
      let d = g.documents in
      let cs = g.centroids in
      let first = nearly d cut (first_or 0 cs) cs in
      let pairs = assign first g.ids in
      reassign-among cs minimum (nearly d cut (first_or 0 cs) (survivors minimum pairs cs)) (nearly-among d cs some cut (survivors minimum pairs cs) (those-among cs _)) pairs
      (assign-among cs first (nearly-among d cs some cut cs (each-among cs)) g.ids)

  -- one block per centroid present
  pub blocks-within : (k : ClusteringAlgorithm) (minimum : ℕ) → length (clusters (assigned_in k minimum g)) ≤ length g.centroids
  unfolding clusters
  blocks-within k minimum = subst (λ n. n ≤ length g.centroids) (sym (length-map (rising (map centroid_of (assigned_in k minimum g))) _)) (distinct-fewer (map centroid_of (assigned_in k minimum g))
      g.centroids (taken k minimum))
