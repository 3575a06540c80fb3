-- Scores through the index are the dot products with the centroids.
use Rattle.std.specs.Prelude.{ℕ, suc, ◌≡◌, refl, Bool, true, cond, length, set, replicate, eqb, pos, Float}
use Rattle.std.proofs.Common.{arith, sym, ◌∙◌, length-append}
use Rattle.std.proofs.Math.Path.{ap}
use Rattle.std.proofs.Math.Bool.{false}
use mathlib.Core.List.{List, [], ◌∷◌, ◌++◌, map, foldl, foldl-append, append_assoc, map-append}
use Rattle.std.proofs.lemmas.List.{set_at, get_or_at}
use Rattle.std.specs.Float.{nan, binary32}
use Rattle.std.specs.Float.Ieee.{fin, add, mul}
use Rattle.sequences.specs.Lists.{with_key}
use Rattle.sequences.specs.Laws.Groups.{those-append}
use Rattle.documents.specs.Documents.{Term, term, Documents, terms, values_at, products, dot}
use Rattle.cluster_index.specs.Index.{entry, slot_of, component_of, weight_of, entries_from, entries, add_entry, add_terms}

-- ---- sums by a value: the products of weights with it are added one after another
abbrev pub plus : Float → Float → Float → Float
plus v x w = add binary32 x (mul binary32 w v)

-- the entries of one component, slot by slot
abbrev slotted : Documents → ℕ → ℕ → List ℕ → List Term
slotted d k s [] = []
slotted d k s (c ∷ cs) = map (λ w. term s w) (values_at k (terms d c)) ++ slotted d k (suc s) cs

-- entries of one slot change that slot alone
one-slot : (v : Float) (front : List Float) (x : Float) (back : List Float) (s : ℕ) (ws : List Float) → length front ≡ s
    → foldl (add_entry v) (front ++ (x ∷ back)) (map (λ w. term s w) ws) ≡ front ++ (foldl (plus v) x ws ∷ back)
one-slot v front x back s [] e = refl
one-slot v front x back s (w ∷ ws) e =
    ap (λ y. foldl (add_entry v) (set (front ++ (x ∷ back)) s (add binary32 y (mul binary32 w v))) (map (λ w. term s w) ws)) (get_or_at front x back nan s e)
    ∙ ap (λ l. foldl (add_entry v) l (map (λ w. term s w) ws)) (set_at front x back (plus v x w) s e)
    ∙ one-slot v front (plus v x w) back s ws e

-- entries of all slots change each slot by its own
all_slots : (d : Documents) (k : ℕ) (v : Float) (F : ℕ → Float) (front : List Float) (cs : List ℕ) (back : List Float) (s : ℕ) → length front ≡ s
    → foldl (add_entry v) (front ++ (map F cs ++ back)) (slotted d k s cs) ≡ front ++ (map (λ c. foldl (plus v) (F c) (values_at k (terms d c))) cs ++ back)
all_slots d k v F front [] back s e = refl
all_slots d k v F front (c ∷ cs) back s e =
    let x = foldl (plus v) (F c) (values_at k (terms d c)) in
    let l : length (front ++ (x ∷ [])) ≡ suc s = length-append front (x ∷ []) ∙ omega arith in
    foldl-append (add_entry v) (front ++ (F c ∷ (map F cs ++ back))) (map (λ w. term s w) (values_at k (terms d c))) (slotted d k (suc s) cs)
    ∙ ap (λ t. foldl (add_entry v) t (slotted d k (suc s) cs))
    (one-slot v front (F c) (map F cs ++ back) s (values_at k (terms d c)) e ∙ sym (append_assoc front (x ∷ []) (map F cs ++ back)))
    ∙ all_slots d k v F (front ++ (x ∷ [])) cs back (suc s) l
    ∙ append_assoc front (x ∷ []) (map (λ c. foldl (plus v) (F c) (values_at k (terms d c))) cs ++ back)

-- ---- an index is one for these centroids if each component's entries are theirs
abbrev pub IndexFor : Documents → Documents → List ℕ → Type 0
IndexFor index d cs = (k : ℕ) → terms index k ≡ map (λ e. term (slot_of e) (weight_of e)) (with_key component_of k (entries d cs))

own : (k s : ℕ) (ts : List Term) → map (λ e. term (slot_of e) (weight_of e)) (with_key component_of k (map (entry s) ts)) ≡ map (λ w. term s w) (values_at k ts)
own k s [] = refl
own k s (t ∷ ts) = go (eqb t.component k) (own k s ts)
  where
    go : (b : Bool) → map (λ e. term (slot_of e) (weight_of e)) (with_key component_of k (map (entry s) ts)) ≡ map (λ w. term s w) (values_at k ts)
        → map (λ e. term (slot_of e) (weight_of e)) (cond b (entry s t ∷ with_key component_of k (map (entry s) ts)) (with_key component_of k (map (entry s) ts)))
        ≡ map (λ w. term s w) (map (λ t. t.value) (cond b (t ∷ with_key (λ t. t.component) k ts) (with_key (λ t. t.component) k ts)))
    go true i = ap (λ l. term s t.value ∷ l) i
    go false i = i

by-slot : (d : Documents) (k s : ℕ) (cs : List ℕ) → map (λ e. term (slot_of e) (weight_of e)) (with_key component_of k (entries_from d s cs)) ≡ slotted d k s cs
by-slot d k s [] = refl
by-slot d k s (c ∷ cs) =
    ap (map (λ e. term (slot_of e) (weight_of e))) (those-append (λ e. eqb (component_of e) k) (map (entry s) (terms d c)) (entries_from d (suc s) cs))
    ∙ map-append (λ e. term (slot_of e) (weight_of e)) (with_key component_of k (map (entry s) (terms d c))) (with_key component_of k (entries_from d (suc s) cs))
    ∙ ap (λ l. l ++ map (λ e. term (slot_of e) (weight_of e)) (with_key component_of k (entries_from d (suc s) cs))) (own k s (terms d c))
    ∙ ap (λ l. map (λ w. term s w) (values_at k (terms d c)) ++ l) (by-slot d k (suc s) cs)

fold-products : (v x : Float) (ws : List Float) → foldl (plus v) x ws ≡ foldl (add binary32) x (map (λ w. mul binary32 w v) ws)
fold-products v x [] = refl
fold-products v x (w ∷ ws) = fold-products v (plus v x w) ws

module _ (index d : Documents) (cs : List ℕ) (right : IndexFor index d cs) where
  -- the sum that a centroid has so far
  abbrev so_far : (ℕ → Float) → List Term → ℕ → Float
  so_far F qs c = foldl (add binary32) (F c) (products qs (terms d c))

  terms-add : (F : ℕ → Float) (back : List Float) (qs : List Term) → add_terms index (map F cs ++ back) qs ≡ map (so_far F qs) cs ++ back
  terms-add F back [] = refl
  terms-add F back (q ∷ qs) =
      ap (λ l. add_terms index l qs)
      (ap (foldl (add_entry q.value) (map F cs ++ back)) (right q.component ∙ by-slot d q.component 0 cs)
      ∙ all_slots d q.component q.value F [] cs back 0 refl)
      ∙ terms-add (λ c. foldl (plus q.value) (F c) (values_at q.component (terms d c))) back qs
      ∙ ap (λ l. l ++ back) (all cs)
    where
      at : (c : ℕ) → so_far (λ c. foldl (plus q.value) (F c) (values_at q.component (terms d c))) qs c ≡ so_far F (q ∷ qs) c
      at c =
          ap (λ x. foldl (add binary32) x (products qs (terms d c))) (fold-products q.value (F c) (values_at q.component (terms d c)))
          ∙ sym (foldl-append (add binary32) (F c) (map (λ w. mul binary32 w q.value) (values_at q.component (terms d c))) (products qs (terms d c)))

      all : (l : List ℕ) → map (so_far (λ c. foldl (plus q.value) (F c) (values_at q.component (terms d c))) qs) l ≡ map (so_far F (q ∷ qs)) l
      all [] = refl
      all (c ∷ l) = let i = all l in let e = at c in cc

  zero-map : (l : List ℕ) → map (λ c. fin false 0 (pos 0)) l ≡ replicate (length l) (fin false 0 (pos 0))
  zero-map [] = refl
  zero-map (c ∷ l) = ap (λ t. fin false 0 (pos 0) ∷ t) (zero-map l)

  -- from zeros each centroid has its dot product
  pub scores-are-dots : (back : List Float) (qs : List Term) → add_terms index (replicate (length cs) (fin false 0 (pos 0)) ++ back) qs ≡ map (λ c. dot qs (terms d c)) cs ++ back
  unfolding dot
  scores-are-dots back qs = ap (λ l. add_terms index (l ++ back) qs) (sym (zero-map cs)) ∙ terms-add (λ c. fin false 0 (pos 0)) back qs
