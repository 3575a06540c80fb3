-- When a clustering cuts nothing.
use Rattle.std.specs.Prelude.{ℕ, suc, ◌+◌, ◌-◌, ◌≤◌, ◌<◌, ◌^◌, ◌≡◌, refl, Bool, true, false, ◌||◌, List, [], ◌∷◌, ◌++◌, map, length, ltb, eqb}
use Rattle.std.proofs.Common.{arith, sym, ◌∙◌, subst, true≢false, ltb-true, eqb-true}
use Rattle.float32.specs.Bound.{in_bound}
use Rattle.sequences.specs.Lists.{EachOf, every, among, strictly_rise}
use Rattle.sequences.specs.Laws.Lists.{both}
use Rattle.documents.specs.Documents.{Term, Documents, terms}
use Rattle.documents.specs.Checks.{terms_hold, terms_hold_below, documents_hold}
use Rattle.cluster_index.specs.Index.{Entry, entry, component_of, entries_from, entries}
use Rattle.scratch.specs.Scratches.{Scratches}
use Rattle.cluster_meaning.specs.Laws.Ordered.{among-sorted}
use Rattle.cluster_meaning.specs.Ranks.{Among}
use Rattle.clustering.specs.Enough.{Enough}

-- ---- components stay below the dimension
each_below : (dimension s : ℕ) (ts : List Term) → every (λ t. ltb t.component dimension) ts ≡ true → EachOf (λ e. component_of e < dimension) (map (entry s) ts)
each_below dimension s [] h = tt
each_below dimension s (t ∷ ts) h =
    let b = both (ltb t.component dimension) (every (λ t. ltb t.component dimension) ts) h in
    (ltb-true t.component dimension b.0, each_below dimension s ts b.1)

each-join : {A : Type 0} (P : A → Type 0) (l m : List A) → EachOf P l → EachOf P m → EachOf P (l ++ m)
each-join P [] m e f = f
each-join P (x ∷ l) m e f = (e.0, each-join P l m e.1 f)

entries_below : (dimension : ℕ) (d : Documents) (s : ℕ) (cs : List ℕ) → documents_hold dimension d cs ≡ true → EachOf (λ e. component_of e < dimension) (entries_from d s cs)
unfolding terms_hold_below documents_hold
entries_below dimension d s [] h = tt
entries_below dimension d s (c ∷ cs) h =
    let b = both (terms_hold_below dimension (terms d c)) (every (λ i. terms_hold_below dimension (terms d i)) cs) h in
    let t = both (terms_hold (terms d c)) (every (λ t. ltb t.component dimension) (terms d c)) b.0 in
    each-join (λ e. component_of e < dimension) (map (entry s) (terms d c)) (entries_from d (suc s) cs) (each_below dimension s (terms d c) t.1) (entries_below dimension d (suc s) cs b.1)

each-weaker : (a b : ℕ) (es : List Entry) → a ≤ b → EachOf (λ e. component_of e < a) es → EachOf (λ e. component_of e < b) es
each-weaker a b [] h e = tt
each-weaker a b (x ∷ es) h e = (omega (arith, e.0), each-weaker a b es h e.1)

-- ---- a document has at most as many terms as there are components
rise-short : (dimension a : ℕ) (ts : List Term) → strictly_rise (a ∷ map (λ t. t.component) ts) ≡ true → every (λ t. ltb t.component dimension) ts ≡ true → a < dimension → a + length ts < dimension
rise-short dimension a [] r h l = omega arith
rise-short dimension a (t ∷ ts) r h l =
    let p = both (ltb a t.component) (strictly_rise (t.component ∷ map (λ t. t.component) ts)) r in
    let q = both (ltb t.component dimension) (every (λ t. ltb t.component dimension) ts) h in
    let i = rise-short dimension t.component ts p.1 q.1 (ltb-true t.component dimension q.0) in
    let x = ltb-true a t.component p.0 in omega arith

short-terms : (dimension : ℕ) (ts : List Term) → terms_hold_below dimension ts ≡ true → length ts ≤ dimension
unfolding terms_hold_below terms_hold
short-terms dimension [] h = omega arith
short-terms dimension (t ∷ ts) h =
    let b = both (terms_hold (t ∷ ts)) (every (λ t. ltb t.component dimension) (t ∷ ts)) h in
    let r = both (strictly_rise (map (λ t. t.component) (t ∷ ts))) (every (λ t. in_bound t.value) (t ∷ ts)) b.0 in
    let q = both (ltb t.component dimension) (every (λ t. ltb t.component dimension) ts) b.1 in
    let i = rise-short dimension t.component ts r.0 q.1 (ltb-true t.component dimension q.0) in omega arith

-- so of each that is listed
listed-short : (dimension : ℕ) (d : Documents) (ids : List ℕ) → documents_hold dimension d ids ≡ true → (i : ℕ) → Among ids i → length (terms d i) ≤ dimension
unfolding documents_hold
listed-short dimension d [] h i m = absurd (true≢false (sym m))
listed-short dimension d (x ∷ ids) h i m =
    let b = both (terms_hold_below dimension (terms d x)) (every (λ i. terms_hold_below dimension (terms d i)) ids) h in
    go (eqb i x) refl m b (listed-short dimension d ids)
  where
    go : (t : Bool) → eqb i x ≡ t → (t || among i ids) ≡ true → (terms_hold_below dimension (terms d x) ≡ true) × (every (λ i. terms_hold_below dimension (terms d i)) ids ≡ true)
        → (documents_hold dimension d ids ≡ true → (i : ℕ) → Among ids i → length (terms d i) ≤ dimension) → length (terms d i) ≤ dimension
    go true e m b f = subst (λ y. length (terms d y) ≤ dimension) (sym (eqb-true i x e)) (short-terms dimension (terms d x) b.0)
    go false e m b f = f b.1 i m

-- terms below the dimension, and a place for each of what is counted
pub enough : (dimension : ℕ) (d : Documents) (ids centroids : List ℕ) (s : Scratches) → documents_hold dimension d ids ≡ true → documents_hold dimension d centroids ≡ true
    → (0 < length ids → 0 < length centroids) → length ids < 2 ^ 64 → length s.slots < 2 ^ 64
    → length ids ≤ length s.order → length centroids ≤ length s.order → length ids ≤ length s.sorted → length ids ≤ length s.taken → length centroids ≤ length s.known
    → length centroids ≤ length s.counts → length centroids ≤ length s.sums → dimension < length s.starts → dimension ≤ length s.keys
    → length (entries d centroids) ≤ length s.slots → length (entries d centroids) ≤ length s.weights → Enough d ids centroids s
enough dimension d ids centroids s listed given some few short order competing sorted taken known counts sums starts keys slots weights =
    record {
      order = order;
      competing = competing;
      sorted = sorted;
      taken = taken;
      known = known;
      few = few;
      short = λ i a. let z = listed-short dimension d ids listed i (sym (among-sorted i ids) ∙ a) in omega arith;
      room = λ g. record {
        some = some g;
        index = record {
          offsets = omega arith;
          below = each-weaker dimension (length s.starts - 1) (entries d centroids) (omega arith) (entries_below dimension d 0 centroids given);
          slots = slots;
          weights = weights;
          short = omega arith;
          sums = sums;
        };
        counters = counts;
      };
    }
