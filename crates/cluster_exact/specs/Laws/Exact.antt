-- Laws of Exact: the ranks are those of document 01's centroids, step by step through the passes.
use Prim.Native.Nat.{ℕ, ◌≤◌, ◌<◌, ◌^◌, min}
use Rattle.std.proofs.Common.{arith, ◌∙◌, true≢false, length-take, take_at, lt-ltb, eq-eqb, eqb-true}
use Rattle.std.specs.Prelude.{◌≡◌, refl, Bool, true, false, ◌&&◌, ◌||◌, List, [], ◌∷◌, ◌++◌, map, length, get_or, take, drop, replicate, leb, ltb, eqb, Float}
use Rattle.std.proofs.Math.Path.{sym, ap}
use Rattle.std.proofs.Math.Bool.{cond}
use Rattle.std.proofs.lemmas.List.{length-map}
use Rattle.std.proofs.lemmas.Bool.{eqb-false}
use Rattle.sort.specs.Sorted.{sorted}
use Rattle.sort.specs.Laws.Insert.{length-sorted}
use Rattle.sequences.specs.Lists.{those, among}
use Rattle.documents.specs.Documents.{Documents, documents, terms}
use Rattle.counting_sort.specs.Counting.{laid_out, counted}
use Rattle.counting_sort.specs.Laws.Counting.{tally}
use Rattle.counting_sort.specs.Laws.Tally.{tally-is}
use Rattle.cluster_index.specs.Index.{indexed}
use Rattle.cluster_nearest.specs.Nearest.{nearest, nearest_or_itself, first_above}
use Rattle.cluster_nearest.specs.Laws.Loops.{nearest-loop}
use Rattle.cluster_nearest.specs.Scored.{scores_of}
use Rattle.cluster_meaning.specs.Clusters.{assign, dissolved, exactly}
use Rattle.cluster_meaning.specs.Laws.Ordered.{sorted-ordered, among-sorted}
use Rattle.cluster_meaning.specs.Laws.Ranks.{rank_of, rank_below}
use Rattle.cluster_meaning.specs.Ranks.{Among}
use Rattle.cluster_meaning.specs.Laws.Canonical.{dissolved-by, reassign-is}
use Rattle.cluster_meaning.specs.Laws.Members.{nearest-among, itself-among, each-among}
use Rattle.cluster_meaning.specs.Laws.Search.{at-rank}
use Rattle.sort.specs.Ranked.{rank_in}
use Rattle.cluster_passes.specs.Ranked.{took_itself}
use Rattle.cluster_passes.specs.Laws.Ranked.{rank-in, listed_in}
use Rattle.cluster_passes.specs.Passes.{over}
use Rattle.cluster_passes.specs.Laws.Passes.{over-map, over-mapped, cut-take, cut-drop}
use Rattle.cluster_passes.specs.Indexes.{index_documents}
use Rattle.cluster_passes.specs.Laws.Indexes.{rest, scores-are}
use Rattle.cluster_passes.specs.Laws.Sizes.{count-is, tally-length, each_same}
use Rattle.cluster_passes.specs.Room.{Room}
use Rattle.cluster_exact.specs.Exact.{first_choice, second_rank, first_ranks, exact_ranks}

module _ (d : Documents) (centroids : List ℕ) (s a b n k : ℕ) (room : Room d centroids s a b n k) where
  -- ---- the first choice
  above-is-nearest : (i : ℕ) → first_above centroids (scores_of (index_documents (indexed d centroids s a b)) n (terms d i)) ≡ nearest d centroids i
  above-is-nearest i = ap (first_above centroids) (scores-are d centroids s a b n room.index (terms d i)) ∙ nearest-loop d centroids i (rest d centroids s a b n room.index)

  choice-is : (i : ℕ) → first_choice (sorted centroids) centroids (index_documents (indexed d centroids s a b)) n d i ≡ nearest_or_itself d centroids i
  unfolding nearest_or_itself
  choice-is i = (λ j. cond ((listed_in (sorted centroids) i (sorted-ordered centroids) ∙ among-sorted i centroids) j) i (above-is-nearest i j))

some-those : (p : ℕ → Bool) (l : List ℕ) (i : ℕ) → Among l i → p i ≡ true → 0 < length (those p l)
some-those p [] i a h = absurd (true≢false (sym a))
some-those p (x ∷ l) i a h = go (eqb i x) refl (p x) refl a (some-those p l i)
  where
    go : (t : Bool) → eqb i x ≡ t → (b : Bool) → p x ≡ b → (t || among i l) ≡ true → (Among l i → p i ≡ true → 0 < length (those p l)) → 0 < length (cond b (x ∷ those p l) (those p l))
    go t e true f a k = omega arith
    go true e false f a k = absurd (true≢false (sym h ∙ ap p (eqb-true i x e) ∙ f))
    go false e false f a k = k a h

-- who does not take itself is taken by the nearest
not_itself : (d : Documents) (centroids : List ℕ) (i : ℕ) → (nearest_or_itself d centroids i ≡ i → ⊥) → nearest_or_itself d centroids i ≡ nearest d centroids i
unfolding nearest_or_itself
not_itself d centroids i x = go (among i centroids) refl
  where
    go : (b : Bool) → among i centroids ≡ b → nearest_or_itself d centroids i ≡ nearest d centroids i
    go true w = absurd (x (ap (λ z. cond z i (nearest d centroids i)) w))
    go false w = ap (λ z. cond z i (nearest d centroids i)) w

module _ (d : Documents) (minimum : ℕ) (centroids : List ℕ) (s a b n k : ℕ) (room : Room d centroids s a b n k) (ids : List ℕ) (few : length ids < 2 ^ 64) where
  -- the first centroid, and the last
  abbrev pub first_centroid : ℕ → ℕ
  first_centroid i = nearest_or_itself d centroids i

  abbrev pub last_centroid : ℕ → ℕ
  last_centroid i = cond (dissolved minimum (assign (nearest_or_itself d centroids) ids) (nearest_or_itself d centroids i)) (nearest d centroids i) (nearest_or_itself d centroids i)

  pub last-among : (i : ℕ) → Among (sorted centroids) (last_centroid i)
  last-among i = among-sorted (last_centroid i) centroids ∙ go (dissolved minimum (assign (nearest_or_itself d centroids) ids) (nearest_or_itself d centroids i))
    where
      go : (t : Bool) → Among centroids (cond t (nearest d centroids i) (nearest_or_itself d centroids i))
      go true = nearest-among d centroids room.some i
      go false = itself-among d centroids room.some i

  first-among : (i : ℕ) → Among (sorted centroids) (nearest_or_itself d centroids i)
  first-among i = among-sorted (nearest_or_itself d centroids i) centroids ∙ itself-among d centroids room.some i

  -- a document of the list ends where document 01 says
  second_is : (counts : List ℕ) → counts ≡ tally (λ j. rank_of (sorted centroids) (nearest_or_itself d centroids j)) k (sorted ids) → (i : ℕ) → Among (sorted ids) i
      → second_rank (sorted centroids) counts minimum centroids (index_documents (indexed d centroids s a b)) n d i (rank_of (sorted centroids) (nearest_or_itself d centroids i))
      ≡ rank_of (sorted centroids) (last_centroid i)
  second_is counts e i m =
      let r = rank_of (sorted centroids) (nearest_or_itself d centroids i) in
      let f = nearest_or_itself d centroids i in
      let g = length (those (λ j. eqb (nearest_or_itself d centroids j) f) (sorted ids)) in
      let l : length counts ≡ k = ap length e ∙ tally-length centroids k room.counters (nearest_or_itself d centroids) first-among ids in
      let h = rank_below f (sorted centroids) (first-among i) in
      let p : ltb r (length counts) ≡ true = lt-ltb r (length counts) (let w = length-sorted centroids in omega (arith, room.counters)) in
      let q : ltb r (length (sorted centroids)) ≡ true = lt-ltb r (length (sorted centroids)) (let w = length-sorted centroids in omega arith) in
      let c : get_or counts r 0 ≡ g = ap (λ t. get_or t r 0) e ∙ count-is centroids k room.counters (nearest_or_itself d centroids) first-among ids f (first-among i) in
      let v : get_or (sorted centroids) r 0 ≡ f = at-rank (sorted centroids) f (sorted-ordered centroids) (first-among i) in
      let o : ltb 0 g ≡ true = lt-ltb 0 g (some-those (λ j. eqb (nearest_or_itself d centroids j) f) (sorted ids) i m (eq-eqb f f refl)) in
      let t : took_itself (sorted centroids) counts minimum i r ≡ (leb g minimum && eqb f i) = (λ j. (p j && leb (c j) minimum) && (q j && eqb (v j) i)) in
      let u : dissolved minimum (assign (nearest_or_itself d centroids) ids) f ≡ leb g minimum = dissolved-by (nearest_or_itself d centroids) minimum ids f ∙ ap (λ z. z && leb g minimum) o in
      (λ j. cond (t j) ((rank-in (sorted centroids) (first_above centroids (scores_of (index_documents (indexed d centroids s a b)) n (terms d i))) (sorted-ordered centroids)
      ∙ ap (rank_of (sorted centroids)) (above-is-nearest d centroids s a b n k room i)) j) r)
      ∙ go (leb g minimum) (eqb f i) refl
      ∙ ap (λ z. rank_of (sorted centroids) (cond z (nearest d centroids i) f)) (sym u)
    where
      go : (x y : Bool) → eqb (nearest_or_itself d centroids i) i ≡ y
          → cond (x && y) (rank_of (sorted centroids) (nearest d centroids i)) (rank_of (sorted centroids) (nearest_or_itself d centroids i))
          ≡ rank_of (sorted centroids) (cond x (nearest d centroids i) (nearest_or_itself d centroids i))
      go true true w = refl
      go true false w = ap (rank_of (sorted centroids)) (not_itself d centroids i (eqb-false (nearest_or_itself d centroids i) i w))
      go false y w = refl

  map_same : (F G : ℕ → ℕ) → ((i : ℕ) → F i ≡ G i) → (m : List ℕ) → map F m ≡ map G m
  map_same F G h [] = refl
  map_same F G h (i ∷ m) = let x = h i in let y = map_same F G h m in cc

  -- the ranks that the passes leave
  pub exact-ranks : exact_ranks d minimum centroids (sorted centroids) s a b n k (sorted ids) ≡ map (λ i. rank_of (sorted centroids) (last_centroid i)) (sorted ids)
  unfolding exact_ranks
  exact-ranks =
      let R : ℕ → ℕ = λ i. rank_of (sorted centroids) (nearest_or_itself d centroids i) in
      let first : (i : ℕ) → first_ranks d centroids (sorted centroids) s a b n i ≡ R i = λ i. rank-in (sorted centroids) (first_choice (sorted centroids) centroids
      (index_documents (indexed d centroids s a b)) n d i) (sorted-ordered centroids) ∙ ap (rank_of (sorted centroids)) (choice-is d centroids s a b n k room i) in
      let counts : counted (replicate k 0) (map (first_ranks d centroids (sorted centroids) s a b n) (sorted ids)) ≡ tally R k (sorted ids) =
      ap (counted (replicate k 0)) (map_same (first_ranks d centroids (sorted centroids) s a b n) R first (sorted ids)) ∙ tally-is R k (sorted ids) (let l = length-sorted ids in omega arith) in
      let K = counted (replicate k 0) (map (first_ranks d centroids (sorted centroids) s a b n) (sorted ids)) in
      let second : ℕ → ℕ → ℕ = second_rank (sorted centroids) K minimum centroids (index_documents (indexed d centroids s a b)) n d in
      each_same (λ i. second i (first_ranks d centroids (sorted centroids) s a b n i)) (λ i. rank_of (sorted centroids) (last_centroid i)) (sorted ids) (sorted ids)
      (λ i m. ap (second i) (first i) ∙ second_is K counts i m)
      (each-among (sorted ids))

  -- and these centroids are the exact mode's
  pub exactly-is : assign last_centroid ids ≡ exactly d minimum centroids ids
  unfolding exactly
  exactly-is = sym (reassign-is minimum (nearest_or_itself d centroids) (nearest d centroids) ids)

-- ---- the steps one after another
pub assigned-exactly : (d : Documents) (minimum : ℕ) (C K : List ℕ) (s a b n k : ℕ) (ids t S F : List ℕ) (W : List Float) (m : ℕ) (t1 z counts t2 : List ℕ) → m ≡ n → laid_out S F W ≡ indexed d C s a b
    → length ids ≤ length t
    → t1 ≡ over (λ i r. rank_in K (first_choice K C (documents S F W) n d i)) ids t → z ≡ replicate k 0 → counts ≡ counted z (take (length ids) t1)
    → t2 ≡ over (second_rank K counts minimum C (documents S F W) m d) ids t1 → t2 ≡ exact_ranks d minimum C K s a b n k ids ++ drop (length ids) t
unfolding exact_ranks
assigned-exactly d minimum C K s a b n k ids t S F W m t1 z counts t2 e f h p q c g =
    let I : documents S F W ≡ index_documents (indexed d C s a b) = ap index_documents f in
    let R : ℕ → ℕ = first_ranks d C K s a b n in
    let P : t1 ≡ map R ids ++ drop (length ids) t =
    p ∙ ap (λ x. over (λ i r. rank_in K (first_choice K C x n d i)) ids t) I ∙ over-map R ids t h in
    let T : take (length ids) t1 ≡ map R ids = ap (take (length ids)) P ∙ take_at (map R ids) (drop (length ids) t) (length ids) (length-map ids R) in
    let N : counts ≡ counted (replicate k 0) (map R ids) = c ∙ (λ j. counted (q j) (T j)) in
    g
    ∙ (λ j. over (second_rank K (N j) minimum C (I j) (e j) d) ids (P j))
    ∙ over-mapped (second_rank K (counted (replicate k 0) (map R ids)) minimum C (index_documents (indexed d C s a b)) n d) R ids (drop (length ids) t)

pub ranks-length : (d : Documents) (minimum : ℕ) (C K : List ℕ) (s a b n k : ℕ) (ids : List ℕ) → length (exact_ranks d minimum C K s a b n k ids) ≡ length ids
unfolding exact_ranks
ranks-length d minimum C K s a b n k ids = length-map ids _

-- ---- cut to the room there is
pub assigned-cut : (d : Documents) (minimum : ℕ) (C K : List ℕ) (s a b n k : ℕ) (ids t : List ℕ) (i : ℕ) (t2 : List ℕ) → i ≡ min (length ids) (length t)
    → t2 ≡ exact_ranks d minimum C K s a b n k (take i ids) ++ drop (length (take i ids)) t → t2 ≡ exact_ranks d minimum C K s a b n k (take (length t) ids) ++ drop (length ids) t
assigned-cut d minimum C K s a b n k ids t i t2 e p =
    let l : length (take i ids) ≡ i = length-take i ids ∙ omega arith in
    p ∙ (λ j. exact_ranks d minimum C K s a b n k (cut-take ids t i e j) ++ (ap (λ z. drop z t) l ∙ cut-drop ids t i e) j)
