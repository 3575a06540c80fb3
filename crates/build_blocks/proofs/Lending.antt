-- Parts of scratch that is zero, lent to clustering and put back: nothing is cut, and all is zero again.
use Prim.Native.Nat.{ℕ, zero, suc, ◌+◌, ◌-◌, ◌≤◌, ◌<◌, min, max}
use native.Mathlib.Omega.{arith}
use native.Mathlib.Numerals.{add-one}
use mathlib.Core.Path.{◌≡◌, refl, sym, ap, ◌∙◌, subst}
use mathlib.Core.Bool.{Bool, true, false, ◌||◌, true≢false}
use mathlib.Core.List.{List, [], ◌∷◌, ◌++◌}
use lib.ListN.{length, get_or, take, drop, replicate, take-append-drop, drop_of_length-le}
use lib.Seq.{length-take-le, drop-cons}
use lib.Dec.{eqb}
use borrow.Author.Tests.{eqb-true}
use Rattle.configuration.specs.declared.ClusteringAlgorithm.{ClusteringAlgorithm}
use Rattle.sequences.specs.Lists.{part, among}
use Rattle.sequences.specs.Laws.Lists.{part_length}
use Rattle.documents.specs.declared.TermPlaces.{TermPlaces}
use Rattle.documents.specs.Documents.{Documents, terms}
use Rattle.documents.specs.Laws.Places.{paired-count}
use Rattle.scratch.specs.Scratches.{Scratches, scratches, cleared_scratch}
use Rattle.cluster_index.specs.Walks.{Cut}
use Rattle.cluster_meaning.specs.Ranks.{Among}
use Rattle.cluster_meaning.specs.Laws.Ordered.{among-sorted}
use Rattle.cluster_meaning.specs.Clusters.{assigned_by, clusters}
use Rattle.clustering.specs.Clustered.{groups_in, clustered_in}
use Rattle.clustering.specs.Enough.{Enough}
use Rattle.build_meaning.specs.Built.{Blocked, in_clusters}
use Rattle.build_ready.specs.Made.{holding}
use Rattle.build_blocks.specs.Fits.{GroupFits}
use Rattle.build_blocks.specs.Longest.{longest_of}
use Rattle.build_blocks.proofs.Grouping.{group-is}

-- ---- the longest document
count_at : (d : Documents) (i : ℕ) (p : TermPlaces) → Cut d i p → length (terms d i) ≡ p.to - p.from
count_at d i p c =
    let a = part_length p.from (p.to - p.from) d.components (omega (arith, c.ordered, c.in_components)) in
    let b = part_length p.from (p.to - p.from) d.values (omega (arith, c.ordered, c.in_values)) in
    ap length c.holds ∙ paired-count (part p.from (p.to - p.from) d.components) (part p.from (p.to - p.from) d.values) ∙ shorter (p.to - p.from) _ _ a b
  where
    shorter : (n x y : ℕ) → x ≡ n → y ≡ n → min x y ≡ n
    shorter n x y e f = omega arith

-- one document more
pub longest-step : (d : Documents) (ids : List ℕ) (i most more : ℕ) (p : TermPlaces) → i < length ids → Cut d (get_or ids i 0) p → more ≡ max most (p.to - p.from)
    → max most (longest_of d (drop i ids)) ≡ longest_of d ids → max more (longest_of d (drop (i + 1) ids)) ≡ longest_of d ids
longest-step d ids i most more p h c m inv =
    rw (add-one i)
    (go most more (p.to - p.from) (length (terms d (get_or ids i 0))) (longest_of d (drop (suc i) ids)) (longest_of d (drop i ids)) m (count_at d (get_or ids i 0) p c) (ap (longest_of d) (drop-cons ids i 0 h))
    ∙ inv)
  where
    go : (most more n t rest all : ℕ) → more ≡ max most n → t ≡ n → all ≡ max t rest → max more rest ≡ max most all
    go most more n t rest all e f g = omega arith

pub longest-start : (d : Documents) (ids : List ℕ) → max 0 (longest_of d (drop 0 ids)) ≡ longest_of d ids
longest-start d ids = at (longest_of d ids)
  where
    at : (a : ℕ) → max 0 a ≡ a
    at a = omega arith

pub longest-end : (d : Documents) (ids : List ℕ) (i most : ℕ) → length ids ≤ i → max most (longest_of d (drop i ids)) ≡ longest_of d ids → most ≡ longest_of d ids
longest-end d ids i most h inv = at most (longest_of d (drop i ids)) (ap (longest_of d) (drop_of_length-le ids h)) ∙ inv
  where
    at : (m a : ℕ) → a ≡ 0 → m ≡ max m a
    at m a e = omega arith

-- no listed document is longer
none-longer : (d : Documents) (ids : List ℕ) (i : ℕ) → Among ids i → length (terms d i) ≤ longest_of d ids
none-longer d [] i m = absurd (true≢false (sym m))
none-longer d (x ∷ ids) i m = go (eqb i x) refl m (none-longer d ids i)
  where
    less : (a b : ℕ) → a ≤ max a b
    less a b = omega arith

    go : (t : Bool) → eqb i x ≡ t → (t || among i ids) ≡ true → (Among ids i → length (terms d i) ≤ longest_of d ids) → length (terms d i) ≤ max (length (terms d x)) (longest_of d ids)
    go true e m f = subst (λ y. length (terms d y) ≤ max (length (terms d x)) (longest_of d ids)) (sym (eqb-true i x e)) (less (length (terms d x)) (longest_of d ids))
    go false e m f = let z = f m in omega arith

-- ---- a front of zeros
module _ {A : Type 0} (x : A) where
  front_same : (k n : ℕ) → take k (replicate n x) ≡ replicate (length (take k (replicate n x))) x
  front_same zero n = refl
  front_same (suc k) zero = refl
  front_same (suc k) (suc n) = ap (λ l. x ∷ l) (front_same k n)

  front : (k : ℕ) (l : List A) → l ≡ replicate (length l) x → take k l ≡ replicate (length (take k l)) x
  front k l e = ap (take k) e ∙ front_same k (length l) ∙ ap (λ l. replicate (length (take k l)) x) (sym e)

  -- cleared and put back
  put_back : (k : ℕ) (l : List A) → l ≡ replicate (length l) x → replicate (length (take k l)) x ++ drop k l ≡ replicate (length l) x
  put_back k l e = ap (λ f. f ++ drop k l) (sym (front k l e)) ∙ take-append-drop k l ∙ e

-- ---- scratch of which counts, sums and keys are lent in part
abbrev lent_to : Scratches → ℕ → ℕ → ℕ → Scratches
lent_to s a b m = scratches s.order s.blocks s.sorted s.known s.taken (take a s.counts) s.starts s.slots s.weights (take b s.sums) (take m s.keys)

-- and with the rest behind these parts again
abbrev behind : Scratches → ℕ → ℕ → ℕ → Scratches → Scratches
behind s a b m z =
    scratches z.order z.blocks z.sorted z.known z.taken (z.counts ++ drop a s.counts) z.starts z.slots z.weights (z.sums ++ drop b s.sums) (z.keys ++ drop m s.keys)

module _ (s : Scratches) (d : Documents) (ids centroids : List ℕ) (fits : GroupFits s d ids centroids) (a b m : ℕ) where
  put-back-all : (h : Blocked) → behind s a b m (holding h (lent_to s a b m)) ≡ holding h s
  unfolding cleared_scratch
  put-back-all h =
      let z = cleared_scratch s in
      let w = holding h s in
      λ j. scratches w.order w.blocks z.sorted z.known z.taken (put_back 0 a s.counts (ap (λ z. z.counts) fits.cleared) j) z.starts z.slots z.weights
      (put_back _ b s.sums (ap (λ z. z.sums) fits.cleared) j) (put_back 0 m s.keys (ap (λ z. z.keys) fits.cleared) j)

  lent-cleared : lent_to s a b m ≡ cleared_scratch (lent_to s a b m)
  unfolding cleared_scratch
  lent-cleared =
      let c = fits.cleared in
      λ j. scratches (c j).order (c j).blocks (c j).sorted (c j).known (c j).taken (front 0 a s.counts (ap (λ z. z.counts) c) j) (c j).starts (c j).slots (c j).weights
      (front _ b s.sums (ap (λ z. z.sums) c) j) (front 0 m s.keys (ap (λ z. z.keys) c) j)

  module _ (la : a ≡ min (length centroids) (length s.counts)) (lb : b ≡ min (length centroids) (length s.sums)) (lm : m ≡ min (longest_of d ids) (length s.keys)) where
    lent-enough : Enough d ids centroids s → Enough d ids centroids (lent_to s a b m)
    lent-enough e =
        let ka = length-take-le a s.counts (omega arith) in
        let kb = length-take-le b s.sums (omega arith) in
        let km = length-take-le m s.keys (omega arith) in
        record {
          order = e.order;
          competing = e.competing;
          sorted = e.sorted;
          taken = e.taken;
          known = e.known;
          few = e.few;
          short = λ i t. let x = none-longer d ids i (sym (among-sorted i ids) ∙ t) in let y = e.short i t in omega arith;
          room = λ g. let r = e.room g in record {
            some = r.some;
            index = record {
              offsets = r.index.offsets;
              below = r.index.below;
              slots = r.index.slots;
              weights = r.index.weights;
              short = r.index.short;
              sums = omega (arith, r.index.sums);
            };
            counters = omega (arith, r.counters);
          };
        }

    lent_fits : GroupFits (lent_to s a b m) d ids centroids
    lent_fits = record { cleared = lent-cleared; some = fits.some; enough = λ some. lent-enough (fits.enough some); offsets = fits.offsets }

    module _ (k : ClusteringAlgorithm) (minimum : ℕ) where
      abbrev made : Blocked
      made = in_clusters (clusters (assigned_by k d minimum centroids ids))

      pub clusters-made : (count : ℕ) (z : Scratches) → count ≡ (groups_in k d minimum ids centroids (lent_to s a b m)).count → z ≡ clustered_in k d minimum ids centroids (lent_to s a b m)
          → (count ≡ length (in_clusters (clusters (assigned_by k d minimum centroids ids))).block_offsets) × (behind s a b m z ≡ holding (in_clusters (clusters (assigned_by k d minimum centroids ids))) s)
      clusters-made count z e w =
          let g = group-is (lent_to s a b m) minimum k d centroids ids lent_fits in
          (e ∙ g.0, ap (behind s a b m) (w ∙ g.1) ∙ put-back-all made)
