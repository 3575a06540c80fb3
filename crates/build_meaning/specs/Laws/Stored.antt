-- What the summaries of an accepted list hold: rising components, and values that are f32 in bound, one at least.
use Rattle.std.specs.Prelude.{ℕ, zero, suc, ◌-◌, ◌<◌, ◌≡◌, refl, Bool, true, false, ◌&&◌, cond, length, get_or, drop, T, ltb, eqb, Float}
use Rattle.std.proofs.Common.{arith, sym, subst, true≢false, ne_eqb}
use Rattle.std.proofs.Math.Bool.{not}
use mathlib.Core.List.Permᴰ
use mathlib.Core.List.{List, [], ◌∷◌, map, foldl}
use Rattle.std.specs.Float.{binary32}
use Rattle.std.specs.Float.Ieee.{fits, lt}
use Rattle.std.proofs.lemmas.Bool.{eqb-false}
use Rattle.configuration.specs.declared.SummarizationStrategy.{SummarizationStrategy}
use Rattle.configuration.specs.declared.BlockingStrategy.{BlockingStrategy}
use Rattle.configuration.specs.declared.BlockingStrategy.TheVariants.{FixedSize, RandomKmeans}
use Rattle.sequences.specs.Lists.{EachOf, every, those, among, joined, between, keys, strictly_rise}
use Rattle.sequences.specs.Laws.Sorted.{each-sorted_by}
use Rattle.sequences.specs.Laws.Lists.{and_right, every-each}
use Rattle.float32.specs.Bound.{in_bound}
use Rattle.documents.specs.Documents.{Term, term, Documents, terms, values_at, greater_first, falling}
use Rattle.documents.specs.Checks.{terms_hold, terms_hold_below, documents_hold}
use Rattle.documents.specs.Laws.TermKeys.{Held}
use Rattle.summary_maximum.specs.Maximum.{block_terms, maximum, maxima, block_maximum}
use Rattle.summary_terms.specs.Summaries.{kept, lower, summary}
use Rattle.sequences.specs.Laws.Each.{each-permuted, each_take, each-drop, each_append, each-those}
use Rattle.summary_terms.specs.Laws.Whole.{block_held}
use Rattle.summary_terms.specs.Laws.Promises.{kept-first}
use Rattle.summary_terms.specs.Laws.Once.{summary-rises}
use Rattle.quantizing.specs.Demand3.{F32s}
use Rattle.sparse_layout.specs.Layouts.{values}
use Rattle.sparse_layout.specs.Passes.{Storable}
use Rattle.cluster_meaning.specs.Clusters.{clusters}
use Rattle.cluster_meaning.specs.Ranks.{Among}
use Rattle.cluster_meaning.specs.Laws.Ranks.{rising-among}
use Rattle.cluster_meaning.specs.Laws.Members.{each-among}
use Rattle.cluster_meaning.specs.Promises.{clusters-share}
use Rattle.build_meaning.specs.Built.{Input, in_clusters, blocked_in, blocks, block_documents, summaries}
use Rattle.build_meaning.specs.Laws.Built.{assigned_in}
use Rattle.build_meaning.specs.Laws.Shares.{assigned-documents}

-- ---- what holds of each
module _ {A : Type 0} (P : A → Type 0) where
  each-between : (os : List ℕ) (xs : List A) → EachOf P xs → EachOf (EachOf P) (between os xs)
  each-between [] xs e = tt
  each-between (a ∷ []) xs e = tt
  each-between (a ∷ b ∷ os) xs e = (each_take P (b - a) (drop a xs) (each-drop P a xs e), each-between (b ∷ os) xs e)

-- ---- each document of the list's blocks is listed
in-clusters-each : (P : ℕ → Type 0) (bs : List (List ℕ)) → EachOf P (joined bs) → EachOf P (in_clusters bs).documents
in-clusters-each P [] e = tt
in-clusters-each P (b ∷ bs) e = e

pub documents-each : (P : ℕ → Type 0) (g : Input) → EachOf P g.ids → EachOf P (blocks g).documents
unfolding blocks
documents-each P g e = go g.blocking
  where
    go : (k : BlockingStrategy) → EachOf P (blocked_in k g).documents
    go (FixedSize size) = e
    go (RandomKmeans fraction minimum algorithm) =
        let pairs = assigned_in algorithm minimum g in
        in-clusters-each P (clusters pairs) (each-permuted P (Permᴰ.symm (clusters-share pairs)) (subst (EachOf P) (sym (assigned-documents algorithm minimum g)) e))

pub blocks-each : (P : ℕ → Type 0) (g : Input) → EachOf P g.ids → EachOf (EachOf P) (block_documents g)
blocks-each P g e = each-between P (blocks g).block_offsets (blocks g).documents (documents-each P g e)

-- ---- values that are f32 in bound
pub record Good (v : Float) : Type 0 where
  pub fit : T (fits binary32 v)
  pub bound : in_bound v ≡ true

abbrev GoodTerm : Term → Type 0
GoodTerm t = Good t.value

greatest-good : (v : Float) (vs : List Float) → Good v → EachOf Good vs → Good (maximum (v ∷ vs))
greatest-good v [] p e = p
greatest-good v (x ∷ vs) p e = go (lt v x) (λ w q. greatest-good w vs q e.1)
  where
    go : (b : Bool) → ((w : Float) → Good w → Good (maximum (w ∷ vs))) → Good (foldl (λ m x. cond (lt m x) x m) (cond b x v) vs)
    go true i = i x e.0
    go false i = i v p

values-good : (c : ℕ) (ts : List Term) → EachOf GoodTerm ts → EachOf Good (values_at c ts)
values-good c ts e = go (those (λ t. eqb t.component c) ts) (each-those GoodTerm (λ t. eqb t.component c) ts e)
  where
    go : (l : List Term) → EachOf GoodTerm l → EachOf Good (map (λ t. t.value) l)
    go [] e = tt
    go (t ∷ l) e = (e.0, go l e.1)

good-at : (c : ℕ) (ts : List Term) → EachOf GoodTerm ts → among c (map (λ t. t.component) ts) ≡ true → Good (maximum (values_at c ts))
good-at c [] e a = absurd (true≢false (sym a))
good-at c (t ∷ ts) e a = go (eqb t.component c) refl (good-at c ts e.1)
  where
    go : (b : Bool) → eqb t.component c ≡ b → (among c (map (λ t. t.component) ts) ≡ true → Good (maximum (values_at c ts)))
        → Good (maximum (map (λ t. t.value) (cond b (t ∷ those (λ t. eqb t.component c) ts) (those (λ t. eqb t.component c) ts))))
    go true h i = greatest-good t.value (values_at c ts) e.0 (values-good c ts e.1)
    go false h i = i (rw (ne_eqb c t.component (λ z. eqb-false t.component c h (sym z))) at a)

maxima-good : (ts : List Term) → EachOf GoodTerm ts → EachOf GoodTerm (maxima ts)
unfolding maxima
maxima-good ts e = go (keys (λ t. t.component) ts) (rising-among (map (λ t. t.component) ts) (map (λ t. t.component) ts) (each-among (map (λ t. t.component) ts)))
  where
    go : (ks : List ℕ) → EachOf (Among (map (λ t. t.component) ts)) ks → EachOf GoodTerm (map (λ c. term c (maximum (values_at c ts))) ks)
    go [] a = tt
    go (k ∷ ks) a = (good-at k ts e a.0, go ks a.1)

summary-good : (s : SummarizationStrategy) (d : Documents) (block : List ℕ) → EachOf GoodTerm (block_terms d block) → EachOf GoodTerm (summary s d block)
unfolding summary falling
summary-good s d block e =
    let ts = block_maximum d block in
    let k = kept-first s ts in
    each-sorted_by lower GoodTerm (kept s ts) (subst (EachOf GoodTerm) (sym k.1) (each_take GoodTerm k.0 (falling ts) (each-sorted_by greater_first GoodTerm ts (maxima-good (block_terms d block)
    e))))

and_left : (a b : Bool) → (a && b) ≡ true → a ≡ true
and_left true b h = refl
and_left false b h = h

terms-bound : (n : ℕ) (ts : List Term) → terms_hold_below n ts ≡ true → EachOf (λ t. in_bound t.value ≡ true) ts
unfolding terms_hold_below terms_hold
terms-bound n ts h = every-each (λ t. in_bound t.value) ts (and_right (strictly_rise (map (λ t. t.component) ts)) (every (λ t. in_bound t.value) ts)
    (and_left (strictly_rise (map (λ t. t.component) ts) && every (λ t. in_bound t.value) ts) (every (λ t. ltb t.component n) ts) h))

block-bound : (n : ℕ) (d : Documents) (block : List ℕ) → EachOf (λ i. terms_hold_below n (terms d i) ≡ true) block → EachOf (λ t. in_bound t.value ≡ true) (block_terms d block)
block-bound n d [] e = tt
block-bound n d (i ∷ block) e = each_append (λ t. in_bound t.value ≡ true) (terms d i) (block_terms d block) (terms-bound n (terms d i) e.0) (block-bound n d block e.1)

both-good : (ts : List Term) → EachOf Held ts → EachOf (λ t. in_bound t.value ≡ true) ts → EachOf GoodTerm ts
both-good [] a b = tt
both-good (t ∷ ts) a b = (record { fit = a.0.fit; bound = b.0 }, both-good ts a.1 b.1)

-- ---- such a summary can be stored
good-at-place : (s : List Term) → EachOf GoodTerm s → F32s (values s)
unfolding fits
good-at-place [] e k = tt
good-at-place (t ∷ s) e zero = e.0.fit
good-at-place (t ∷ s) e (suc k) = good-at-place s e.1 k

good-bound : (s : List Term) → EachOf GoodTerm s → every in_bound (values s) ≡ true
good-bound [] e = refl
good-bound (t ∷ s) e = let i = good-bound s e.1 in let b = e.0.bound in rw (b, i)

filled-some : (s : List Term) → not (eqb (length s) 0) ≡ true → 0 < length (values s)
filled-some [] h = absurd (true≢false (sym h))
filled-some (t ∷ s) h = omega arith

module _ (g : Input) (narrow : (k : ℕ) → get_or g.documents.components k 0 < 4294967296) (fs : F32s g.documents.values) where
  summary-storable : (block : List ℕ) → EachOf (λ i. terms_hold_below g.dimension (terms g.documents i) ≡ true) block
      → not (eqb (length (summary g.summarization g.documents block)) 0) ≡ true → Storable (summary g.summarization g.documents block)
  summary-storable block e f =
      let d = g.documents in
      let w = summary-good g.summarization d block (both-good (block_terms d block) (block_held d block narrow fs) (block-bound g.dimension d block e)) in
      record {
        rises = summary-rises g.summarization d block;
        floats = good-at-place (summary g.summarization d block) w;
        list = record { some = filled-some (summary g.summarization d block) f; in-bound = good-bound (summary g.summarization d block) w };
      }

  -- each summary of a list whose listed documents hold and whose summaries are not empty
  pub summaries-storable : documents_hold g.dimension g.documents g.ids ≡ true → every (λ s. not (eqb (length s) 0)) (summaries g) ≡ true → EachOf Storable (summaries g)
  unfolding summaries documents_hold
  summaries-storable h f = go (block_documents g) (blocks-each (λ i. terms_hold_below g.dimension (terms g.documents i)
      ≡ true) g (every-each (λ i. terms_hold_below g.dimension (terms g.documents i)) g.ids h)) (every-each (λ s. not (eqb (length s) 0)) (map (summary g.summarization g.documents)
      (block_documents g)) f)
    where
      go : (bs : List (List ℕ)) → EachOf (EachOf (λ i. terms_hold_below g.dimension (terms g.documents i) ≡ true)) bs → EachOf (λ s. not (eqb (length s) 0)
          ≡ true) (map (summary g.summarization g.documents) bs)
          → EachOf Storable (map (summary g.summarization g.documents) bs)
      go [] e f = tt
      go (b ∷ bs) e f = (summary-storable b e.0 f.0, go bs e.1 f.1)
