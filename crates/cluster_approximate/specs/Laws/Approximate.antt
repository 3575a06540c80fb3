-- Laws of Approximate: the ranks are those of document 01's centroids, step by step through the passes.
use Rattle.std.specs.Prelude.{ℕ, ◌≤◌, ◌<◌, ◌^◌, min, ◌≡◌, Bool, length, take, drop, replicate, Float}
use Rattle.std.proofs.Common.{arith, ◌∙◌, length-take, take_at, take_all}
use Rattle.std.proofs.Math.Path.{refl, sym, ap}
use Rattle.std.proofs.Math.Bool.{true, false, not, cond}
use mathlib.Core.List.{List, [], ◌∷◌, ◌++◌, map, zip_with}
use Rattle.std.proofs.lemmas.List.{length-map}
use Rattle.sort.specs.Sorted.{sorted}
use Rattle.sort.specs.Laws.Insert.{length-sorted}
use Rattle.sequences.specs.Lists.{EachOf, those, first_or}
use Rattle.documents.specs.Documents.{Documents, documents, terms, largest}
use Rattle.counting_sort.specs.Counting.{laid_out, counted}
use Rattle.counting_sort.specs.Laws.Counting.{tally}
use Rattle.counting_sort.specs.Laws.Tally.{tally-is}
use Rattle.cluster_index.specs.Index.{indexed}
use Rattle.cluster_nearest.specs.Nearest.{nearly, last_no_less}
use Rattle.cluster_nearest.specs.Laws.Loops.{nearly-loop}
use Rattle.cluster_nearest.specs.Scored.{scores_of}
use Rattle.cluster_meaning.specs.Clusters.{assign, dissolved, survivors, approximately}
use Rattle.cluster_meaning.specs.Laws.Ordered.{sorted-ordered, among-sorted}
use Rattle.cluster_meaning.specs.Laws.Ranks.{rank_of}
use Rattle.cluster_meaning.specs.Ranks.{Among}
use Rattle.cluster_meaning.specs.Laws.Canonical.{reassign-is}
use Rattle.cluster_meaning.specs.Laws.Members.{nearly-among, each-among, those-among}
use Rattle.sort.specs.Ranked.{rank_in}
use Rattle.cluster_passes.specs.Ranked.{is_small}
use Rattle.cluster_passes.specs.Laws.Ranked.{rank-in}
use Rattle.cluster_passes.specs.Passes.{over}
use Rattle.cluster_passes.specs.Laws.Passes.{over-map, over-mapped, cut-take, cut-drop}
use Rattle.cluster_passes.specs.Indexes.{index_documents, Indexes}
use Rattle.cluster_passes.specs.Laws.Indexes.{rest, scores-are, indexes-some}
use Rattle.cluster_passes.specs.Laws.Sizes.{small_is, each_same}
use Rattle.cluster_passes.specs.Room.{Room}
use Rattle.cluster_approximate_pass.specs.Taking.{nearly_choice, again_rank}
use Rattle.cluster_approximate.specs.Approximate.{remaining, nearly_ranks, counts_of, both_ranks, approximate_ranks}

-- ---- the choice is document 01's where each term finds a place
nearly-is : (d : Documents) (cut first : ℕ) (cs : List ℕ) (s a b n q : ℕ) → Indexes d cs s a b n → (i : ℕ) → length (terms d i) ≤ q → nearly_choice cut first cs (index_documents (indexed d cs s a b)) n
    q d i ≡ nearly d cut first cs i
nearly-is d cut first cs s a b n q room i h =
    ap (λ l. last_no_less first cs (scores_of (index_documents (indexed d cs s a b)) n (largest cut l))) (take_all q (terms d i) h)
    ∙ ap (last_no_less first cs) (scores-are d cs s a b n room (largest cut (terms d i)))
    ∙ nearly-loop d cut first cs i (rest d cs s a b n room)

those-each : (p q : ℕ → Bool) (l m : List ℕ) → ((c : ℕ) → Among l c → p c ≡ q c) → EachOf (Among l) m → those p m ≡ those q m
those-each p q l [] h e = refl
those-each p q l (c ∷ m) h e = let x = h c e.0 in let y = those-each p q l m h e.1 in rw (x, y)

module _ (d : Documents) (cut minimum : ℕ) (centroids : List ℕ) (s a b n k q : ℕ) (room : Room d centroids s a b n k) (ids : List ℕ) (few : length ids < 2 ^ 64)
    (fit : (i : ℕ) → Among (sorted ids) i → length (terms d i) ≤ q) where
  abbrev first_nearly : ℕ → ℕ
  first_nearly i = nearly d cut (first_or 0 centroids) centroids i

  abbrev again_nearly : ℕ → ℕ
  again_nearly i = nearly d cut (first_or 0 centroids) (survivors minimum (assign first_nearly ids) centroids) i

  abbrev pub last_nearly : ℕ → ℕ
  last_nearly i = cond (dissolved minimum (assign first_nearly ids) (first_nearly i)) (again_nearly i) (first_nearly i)

  first-known : (i : ℕ) → Among (sorted centroids) (first_nearly i)
  first-known i = among-sorted (first_nearly i) centroids ∙ nearly-among d centroids room.some cut centroids (each-among centroids) i

  pub last-known : (i : ℕ) → Among (sorted centroids) (last_nearly i)
  last-known i = go (dissolved minimum (assign first_nearly ids) (first_nearly i))
    where
      go : (t : Bool) → Among (sorted centroids) (cond t (again_nearly i) (first_nearly i))
      go true = among-sorted (again_nearly i) centroids ∙ nearly-among d centroids room.some cut (survivors minimum (assign first_nearly ids) centroids) (those-among centroids _) i
      go false = first-known i

  R : ℕ → ℕ
  R i = rank_of (sorted centroids) (first_nearly i)

  first-is : (i : ℕ) → Among (sorted ids) i → nearly_ranks d cut centroids (sorted centroids) s a b n q i ≡ R i
  unfolding R
  first-is i m = rank-in (sorted centroids) (nearly_choice cut (first_or 0 centroids) centroids (index_documents (indexed d centroids s a b)) n q d i) (sorted-ordered centroids)
      ∙ ap (rank_of (sorted centroids)) (nearly-is d cut (first_or 0 centroids) centroids s a b n q room.index i (fit i m))

  counts-are : counts_of d cut centroids (sorted centroids) s a b n k q (sorted ids) ≡ tally (λ j. rank_of (sorted centroids) (first_nearly j)) k (sorted ids)
  unfolding R
  counts-are =
      ap (counted (replicate k 0)) (each_same (nearly_ranks d cut centroids (sorted centroids) s a b n q) R (sorted ids) (sorted ids) first-is (each-among (sorted ids)))
      ∙ tally-is R k (sorted ids) (let l = length-sorted ids in omega arith)

  module _ (counts : List ℕ) (e : counts ≡ tally (λ j. rank_of (sorted centroids) (first_nearly j)) k (sorted ids)) where
    small_at : (c : ℕ) → Among (sorted centroids) c → is_small counts minimum (rank_of (sorted centroids) c) ≡ dissolved minimum (assign first_nearly ids) c
    small_at c m = ap (λ t. is_small t minimum (rank_of (sorted centroids) c)) e ∙ small_is centroids k room.counters first_nearly first-known ids minimum c m

    remain : remaining (sorted centroids) counts minimum centroids ≡ survivors minimum (assign first_nearly ids) centroids
    remain =
        those-each (λ c. not (is_small counts minimum (rank_in (sorted centroids) c))) (λ c. not (dissolved minimum (assign first_nearly ids) c)) centroids centroids
        (λ c m. ap not (ap (is_small counts minimum) (rank-in (sorted centroids) c (sorted-ordered centroids)) ∙ small_at c (among-sorted c centroids ∙ m))) (each-among centroids)

    both-are : (i : ℕ) → Among (sorted ids) i → both_ranks d cut minimum centroids (sorted centroids) counts s a b n q i (R i) ≡ rank_of (sorted centroids) (last_nearly i)
    unfolding R
    both-are i m =
        let L = survivors minimum (assign first_nearly ids) centroids in
        let w : nearly_choice cut (first_or 0 centroids) L (index_documents (indexed d L s a b)) n q d i ≡ again_nearly i =
        nearly-is d cut (first_or 0 centroids) L s a b n q (indexes-some (λ c. not (dissolved minimum (assign first_nearly ids) c)) d centroids s a b n room.index) i (fit i m) in
        ap (λ l. again_rank (sorted centroids) counts minimum cut (first_or 0 centroids) l (index_documents (indexed d l s a b)) n q d i (rank_of (sorted centroids) (first_nearly i))) remain
        ∙ (λ j. cond (small_at (first_nearly i) (first-known i) j) ((rank-in (sorted centroids) (nearly_choice cut (first_or 0 centroids) L (index_documents (indexed d L s a b)) n q d i)
        (sorted-ordered centroids) ∙ ap (rank_of (sorted centroids)) w) j) (rank_of (sorted centroids) (first_nearly i)))
        ∙ go (dissolved minimum (assign first_nearly ids) (first_nearly i))
      where
        go : (t : Bool) → cond t (rank_of (sorted centroids) (again_nearly i)) (rank_of (sorted centroids) (first_nearly i)) ≡ rank_of (sorted centroids) (cond t (again_nearly i) (first_nearly i))
        go true = refl
        go false = refl

  -- the ranks that the passes leave
  pub approximate-ranks : approximate_ranks d cut minimum centroids (sorted centroids) s a b n k q (sorted ids) ≡ map (λ i. rank_of (sorted centroids) (last_nearly i)) (sorted ids)
  unfolding approximate_ranks
  approximate-ranks =
      let C = counts_of d cut centroids (sorted centroids) s a b n k q (sorted ids) in
      each_same (λ i. both_ranks d cut minimum centroids (sorted centroids) C s a b n q i (nearly_ranks d cut centroids (sorted centroids) s a b n q i)) (λ i. rank_of (sorted centroids) (last_nearly i))
      (sorted ids) (sorted ids)
      (λ i m. ap (both_ranks d cut minimum centroids (sorted centroids) C s a b n q i) (first-is i m) ∙ both-are C counts-are i m)
      (each-among (sorted ids))

  -- and these centroids are the approximate mode's
  pub approximately-is : assign last_nearly ids ≡ approximately d cut minimum centroids ids
  unfolding approximately
  approximately-is = sym (reassign-is minimum first_nearly again_nearly ids)

-- ---- documents cut to the places there are for them
over-take : (f : ℕ → ℕ → ℕ) (ids ts : List ℕ) → over f ids ts ≡ over f (take (length ts) ids) ts
unfolding zip_with
over-take f [] [] = refl
over-take f [] (t ∷ ts) = refl
over-take f (i ∷ ids) [] = refl
over-take f (i ∷ ids) (t ∷ ts) = ap (λ l. f i t ∷ l) (over-take f ids ts)

drop-take : (ids ts : List ℕ) → drop (length (take (length ts) ids)) ts ≡ drop (length ids) ts
drop-take ids ts = cut-drop ids ts (length (take (length ts) ids)) (let l = length-take (length ts) ids in omega arith)

-- ---- the steps one after another
-- the first pass over the index of all centroids, and counts of those that found a place
pub assigned-first : (d : Documents) (cut : ℕ) (C K : List ℕ) (s a b n k q : ℕ) (ids t S F : List ℕ) (W : List Float) (m : ℕ) (t1 z counts : List ℕ) (i : ℕ) → laid_out S F W ≡ indexed d C s a b
    → t1 ≡ over (λ i r. rank_in K (nearly_choice cut m C (documents S F W) n q d i)) ids t → m ≡ first_or 0 C → z ≡ replicate k 0 → i ≡ min (length ids) (length t1) → length t1 ≡ length t → counts
    ≡ counted z (take i t1)
    → (t1 ≡ map (nearly_ranks d cut C K s a b n q) (take (length t) ids) ++ drop (length ids) t) × (counts ≡ counts_of d cut C K s a b n k q (take (length t) ids))
assigned-first d cut C K s a b n k q ids t S F W m t1 z counts i f p e y h l c =
    let R : ℕ → ℕ = nearly_ranks d cut C K s a b n q in
    let J : List ℕ = take (length t) ids in
    let J-length : length J ≡ min (length t) (length ids) = length-take (length t) ids in
    let I : documents S F W ≡ index_documents (indexed d C s a b) = ap index_documents f in
    let P : t1 ≡ map R J ++ drop (length ids) t =
    p
    ∙ (λ j. over (λ i r. rank_in K (nearly_choice cut (e j) C (I j) n q d i)) ids t)
    ∙ over-take (λ i r. R i) ids t
    ∙ over-map R J t (omega (arith, J-length))
    ∙ ap (λ r. map R J ++ r) (drop-take ids t) in
    let T : take i t1 ≡ map R J = ap (take i) P ∙ take_at (map R J) (drop (length ids) t) i (length-map J R ∙ omega (arith, J-length, h, l)) in
    (P, c ∙ (λ j. counted (y j) (T j)))

-- the second pass over the index of those that remain
pub assigned-again : (d : Documents) (cut minimum : ℕ) (C K : List ℕ) (s a b n q : ℕ) (ids counts t G S F : List ℕ) (W : List Float) (m : ℕ) (t2 : List ℕ) → G ≡ remaining K counts minimum C
    → laid_out S F W ≡ indexed d G s a b
    → m ≡ first_or 0 C → t2 ≡ over (again_rank K counts minimum cut m G (documents S F W) n q d) ids t → t2 ≡ over (both_ranks d cut minimum C K counts s a b n q) ids t
assigned-again d cut minimum C K s a b n q ids counts t G S F W m t2 g f e p =
    p
    ∙ ap (λ x. over (again_rank K counts minimum cut m G x n q d) ids t) (ap index_documents f)
    ∙ (λ j. over (again_rank K counts minimum cut (e j) (g j) (index_documents (indexed d (g j) s a b)) n q d) ids t)

-- both, of the m centroids that find a place to be gathered in
pub assigned-both : (d : Documents) (cut minimum : ℕ) (C K competing : List ℕ) (s a b n k q : ℕ) (ids t t1 counts t2 : List ℕ) (s' a' b' n' q' m : ℕ) → m ≡ min (length C) (length competing)
    → t1 ≡ map (nearly_ranks d cut (take m C) K s a b n q) (take (length t) ids) ++ drop (length ids) t → counts ≡ counts_of d cut (take m C) K s a b n k q (take (length t) ids) → length t1 ≡ length t
    → s' ≡ s → a' ≡ a → b' ≡ b → n' ≡ n → q' ≡ q → t2 ≡ over (both_ranks d cut minimum (take m C) K counts s' a' b' n' q') ids t1
    → t2 ≡ approximate_ranks d cut minimum (take (length competing) C) K s a b n k q (take (length t) ids) ++ drop (length ids) t
unfolding approximate_ranks
assigned-both d cut minimum C K competing s a b n k q ids t t1 counts t2 s' a' b' n' q' m f p c l es ea eb en eq e =
    let J : List ℕ = take (length t) ids in
    let B : ℕ → ℕ → ℕ = both_ranks d cut minimum (take m C) K (counts_of d cut (take m C) K s a b n k q J) s a b n q in
    e
    ∙ (λ j. over (both_ranks d cut minimum (take m C) K (c j) (es j) (ea j) (eb j) (en j) (eq j)) ids t1)
    ∙ over-take B ids t1
    ∙ (λ j. over B (take (l j) ids) (p j))
    ∙ over-mapped B (nearly_ranks d cut (take m C) K s a b n q) J (drop (length ids) t)
    ∙ ap (λ x. approximate_ranks d cut minimum x K s a b n k q J ++ drop (length ids) t) (cut-take C competing m f)

pub approximate-length : (d : Documents) (cut minimum : ℕ) (C K : List ℕ) (s a b n k q : ℕ) (ids : List ℕ) → length (approximate_ranks d cut minimum C K s a b n k q ids) ≡ length ids
unfolding approximate_ranks
approximate-length d cut minimum C K s a b n k q ids = length-map ids _
