-- Laws of Indexes: slices with room hold the index of centroids, and the scores through it are theirs.
use Rattle.std.specs.Prelude.{ℕ, suc, ◌+◌, ◌-◌, ◌≤◌, ◌<◌, ◌≡◌, Bool, true, false, cond, List, [], ◌∷◌, ◌++◌, map, length, replicate, pos, Float}
use Rattle.std.proofs.Common.{arith, sym, ap, ◌∙◌, subst, length-append}
use Rattle.std.proofs.lemmas.List.{replicate-append-replicate, length-map}
use Rattle.std.specs.Float.{fin}
use Rattle.sequences.specs.Lists.{EachOf, those}
use Rattle.sequences.specs.Laws.Each.{each_append}
use Rattle.documents.specs.Documents.{Term, Documents, terms, dot}
use Rattle.counting_sort.specs.Counting.{Laid, laid_out}
use Rattle.cluster_index.specs.Index.{Entry, entry, component_of, entries_from, entries, indexed, add_terms}
use Rattle.cluster_index.specs.Laws.Index.{index_of}
use Rattle.cluster_index.specs.Laws.Filled.{index-filled}
use Rattle.cluster_index.specs.Laws.Lookup.{index-for}
use Rattle.cluster_index.specs.Laws.Scores.{IndexFor, scores-are-dots}
use Rattle.cluster_nearest.specs.Scored.{scores_of}
use Rattle.cluster_passes.specs.Indexes.{index_documents, Indexes}

module _ (d : Documents) (centroids : List ℕ) (s a b n : ℕ) (room : Indexes d centroids s a b n) where
  index-right : IndexFor (index_documents (indexed d centroids s a b)) d centroids
  index-right =
      let e = length (entries d centroids) in
      let p : suc (s - 1) ≡ s = omega (arith, room.offsets) in
      let q : e + (a - e) ≡ a = omega (arith, room.slots) in
      let r : e + (b - e) ≡ b = omega (arith, room.weights) in
      let w : indexed d centroids s a b ≡ laid_out (index_of (s - 1) d centroids).offsets ((index_of (s - 1) d centroids).components ++ replicate (a - e) 0) ((index_of (s - 1) d centroids).values
      ++ replicate (b - e) (fin false 0 (pos 0))) =
      (λ i. indexed d centroids (sym p i) (sym q i) (sym r i)) ∙ index-filled (s - 1) d centroids room.below room.short (a - e) (b - e) in
      subst (λ (t : Laid ℕ Float). IndexFor (index_documents t) d centroids) (sym w) (index-for (s - 1) d centroids room.below (replicate (a - e) 0) (replicate (b - e) (fin false 0 (pos 0))))

  -- what stands after the centroids' scores
  abbrev pub rest : List Float
  rest = replicate (n - length centroids) (fin false 0 (pos 0))

  pub scores-are : (qs : List Term) → scores_of (index_documents (indexed d centroids s a b)) n qs ≡ map (λ c. dot qs (terms d c)) centroids ++ rest
  scores-are qs =
      let m = length centroids in
      let q : m + (n - m) ≡ n = omega (arith, room.sums) in
      ap (λ t. scores_of (index_documents (indexed d centroids s a b)) t qs) (sym q)
      ∙ ap (λ l. add_terms (index_documents (indexed d centroids s a b)) l qs) (sym (replicate-append-replicate m (n - m) (fin false 0 (pos 0))))
      ∙ scores-are-dots (index_documents (indexed d centroids s a b)) d centroids index-right rest qs

-- ---- some of the centroids need no more room
module _ (p : ℕ → Bool) (d : Documents) where
  fewer-entries : (s t : ℕ) (cs : List ℕ) → length (entries_from d s (those p cs)) ≤ length (entries_from d t cs)
  fewer-entries s t [] = omega arith
  fewer-entries s t (c ∷ cs) = go (p c) (fewer-entries (suc s) (suc t) cs) (fewer-entries s (suc t) cs)
    where
      size : (s : ℕ) (l : List ℕ) → length (entries_from d s (c ∷ l)) ≡ length (terms d c) + length (entries_from d (suc s) l)
      size s l = length-append (map (entry s) (terms d c)) (entries_from d (suc s) l) ∙ ap (λ n. n + length (entries_from d (suc s) l)) (length-map (terms d c) (entry s))

      go : (b : Bool) → length (entries_from d (suc s) (those p cs)) ≤ length (entries_from d (suc t) cs) → length (entries_from d s (those p cs)) ≤ length (entries_from d (suc t) cs)
          → length (entries_from d s (cond b (c ∷ those p cs) (those p cs))) ≤ length (entries_from d t (c ∷ cs))
      go true i j = let e = size s (those p cs) in let f = size t cs in omega arith
      go false i j = let f = size t cs in omega arith

  each-front : (P : Entry → Type 0) (l m : List Entry) → EachOf P (l ++ m) → EachOf P l × EachOf P m
  each-front P [] m e = (tt, e)
  each-front P (x ∷ l) m e = let i = each-front P l m e.1 in ((e.0, i.0), i.1)

  other-slot : (k s t : ℕ) (ts : List Term) → EachOf (λ e. component_of e < k) (map (entry t) ts) → EachOf (λ e. component_of e < k) (map (entry s) ts)
  other-slot k s t [] e = tt
  other-slot k s t (x ∷ ts) e = (e.0, other-slot k s t ts e.1)

  below-still : (k s t : ℕ) (cs : List ℕ) → EachOf (λ e. component_of e < k) (entries_from d t cs) → EachOf (λ e. component_of e < k) (entries_from d s (those p cs))
  below-still k s t [] e = tt
  below-still k s t (c ∷ cs) e = let w = each-front (λ e. component_of e < k) (map (entry t) (terms d c)) (entries_from d (suc t) cs) e in
      go (p c) w (below-still k (suc s) (suc t) cs w.1) (below-still k s (suc t) cs w.1)
    where
      go : (b : Bool) → EachOf (λ e. component_of e < k) (map (entry t) (terms d c)) × EachOf (λ e. component_of e < k) (entries_from d (suc t) cs)
          → EachOf (λ e. component_of e < k) (entries_from d (suc s) (those p cs)) → EachOf (λ e. component_of e < k) (entries_from d s (those p cs))
          → EachOf (λ e. component_of e < k) (entries_from d s (cond b (c ∷ those p cs) (those p cs)))
      go true w i j = each_append (λ e. component_of e < k) (map (entry s) (terms d c)) (entries_from d (suc s) (those p cs)) (other-slot k s t (terms d c) w.0) i
      go false w i j = j

  fewer : (cs : List ℕ) → length (those p cs) ≤ length cs
  fewer [] = omega arith
  fewer (c ∷ cs) = go (p c) (fewer cs)
    where
      go : (b : Bool) → length (those p cs) ≤ length cs → length (cond b (c ∷ those p cs) (those p cs)) ≤ suc (length cs)
      go true i = omega arith
      go false i = omega arith

  pub indexes-some : (cs : List ℕ) (s a b n : ℕ) → Indexes d cs s a b n → Indexes d (those p cs) s a b n
  indexes-some cs s a b n r =
      let f = fewer-entries 0 0 cs in let g = fewer cs in
      record {
        offsets = r.offsets;
        below = below-still (s - 1) 0 0 cs r.below;
        slots = omega (arith, r.slots);
        weights = omega (arith, r.weights);
        short = omega (arith, r.short);
        sums = omega (arith, r.sums);
      }
