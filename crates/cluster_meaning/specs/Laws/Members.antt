-- A document is taken by one of the centroids.
use Rattle.std.specs.Prelude.{ℕ, ◌<◌, ◌≡◌, Bool, ◌||◌, cond, List, [], ◌∷◌, map, length, eqb}
use Rattle.std.proofs.Common.{arith, ap, eq-eqb}
use Rattle.std.proofs.Math.Path.{refl}
use Rattle.std.proofs.Math.Bool.{true, false}
use Rattle.sequences.specs.Lists.{EachOf, those, first_or, last_or, among}
use Rattle.sequences.specs.Laws.Each.{each-those}
use Rattle.documents.specs.Documents.{Term, Documents, terms, largest}
use Rattle.cluster_nearest.specs.declared.Candidate.{Candidate}
use Rattle.cluster_nearest.specs.Nearest.{centroid_of, candidates, greatest, above_zero, nearest, nearest_or_itself, nearly}
use Rattle.cluster_meaning.specs.Ranks.{Among}

-- ---- a property of each
first-has : (P : ℕ → Type 0) (d : ℕ) (l : List ℕ) → P d → EachOf P l → P (first_or d l)
first-has P d [] p e = p
first-has P d (x ∷ l) p e = e.0

last_has : (P : ℕ → Type 0) (d : ℕ) (l : List ℕ) → P d → EachOf P l → P (last_or d l)
last_has P d [] p e = p
last_has P d (x ∷ l) p e = last_has P x l e.0 e.1

each-centroid : (P : ℕ → Type 0) (cs : List Candidate) → EachOf (λ c. P (centroid_of c)) cs → EachOf P (map centroid_of cs)
each-centroid P [] e = tt
each-centroid P (c ∷ cs) e = (e.0, each-centroid P cs e.1)

each-candidate : (P : ℕ → Type 0) (d : Documents) (q : List Term) (cs : List ℕ) → EachOf P cs → EachOf (λ c. P (centroid_of c)) (candidates d q cs)
each-candidate P d q [] e = tt
each-candidate P d q (c ∷ cs) e = (e.0, each-candidate P d q cs e.1)

each-greatest : (P : Candidate → Type 0) (cs : List Candidate) → EachOf P cs → EachOf P (greatest cs)
unfolding greatest
each-greatest P cs e = each-those P _ cs e

-- ---- each of a list is among it
more-among : (x : ℕ) (l : List ℕ) (ks : List ℕ) → EachOf (Among l) ks → EachOf (Among (x ∷ l)) ks
more-among x l [] e = tt
more-among x l (k ∷ ks) e = (or_right (eqb k x) (among k l) e.0, more-among x l ks e.1)
  where
    or_right : (a b : Bool) → b ≡ true → (a || b) ≡ true
    or_right true b h = refl
    or_right false b h = h

pub each-among : (l : List ℕ) → EachOf (Among l) l
each-among [] = tt
each-among (x ∷ l) = (ap (λ b. b || among x l) (eq-eqb x x refl), more-among x l l (each-among l))

pub first-among : (l : List ℕ) → 0 < length l → Among l (first_or 0 l)
first-among [] h = absurd (let z : ⊥ = omega arith in z)
first-among (x ∷ l) h = (each-among (x ∷ l)).0

module _ (d : Documents) (centroids : List ℕ) (some : 0 < length centroids) where
  pub nearest-among : (i : ℕ) → Among centroids (nearest d centroids i)
  unfolding nearest
  nearest-among i =
      let cs = candidates d (terms d i) centroids in
      let above = those above_zero cs in
      first-has (Among centroids) (first_or 0 centroids) (map centroid_of (greatest above)) (first-among centroids some)
      (each-centroid (Among centroids) (greatest above)
      (each-greatest (λ c. Among centroids (centroid_of c)) above (each-those (λ c. Among centroids (centroid_of c)) above_zero cs (each-candidate (Among centroids) d (terms d i) centroids
      (each-among centroids)))))

  pub itself-among : (i : ℕ) → Among centroids (nearest_or_itself d centroids i)
  unfolding nearest_or_itself
  itself-among i = go (among i centroids) refl
    where
      go : (b : Bool) → among i centroids ≡ b → Among centroids (cond b i (nearest d centroids i))
      go true e = e
      go false e = nearest-among i

  pub nearly-among : (cut : ℕ) (competing : List ℕ) → EachOf (Among centroids) competing → (i : ℕ) → Among centroids (nearly d cut (first_or 0 centroids) competing i)
  unfolding nearly
  nearly-among cut competing e i =
      let cs = candidates d (largest cut (terms d i)) competing in
      last_has (Among centroids) (first_or 0 centroids) (map centroid_of (greatest cs)) (first-among centroids some)
      (each-centroid (Among centroids) (greatest cs) (each-greatest (λ c. Among centroids (centroid_of c)) cs (each-candidate (Among centroids) d (largest cut (terms d i)) competing e)))

pub those-among : (l : List ℕ) (p : ℕ → Bool) → EachOf (Among l) (those p l)
those-among l p = each-those (Among l) p l (each-among l)
