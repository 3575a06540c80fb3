-- From what the pass over a block's terms left to what summarizing it answers and leaves.
use Rattle.std.specs.Prelude.{ℕ, ◌%◌, ◌<◌, ◌≡◌, Bool, true, false, cond, T, eqb, Float}
use Rattle.std.proofs.Common.{arith, ◌∙◌, subst}
use Rattle.std.proofs.Math.Path.{refl, sym, ap}
use mathlib.Core.List.{List, [], ◌∷◌, map, foldl, zip_with}
use Rattle.std.proofs.Math.ListN.{length}
use Rattle.std.proofs.lemmas.List.{length-map}
use Rattle.std.specs.Float.{binary32}
use Rattle.std.specs.Float.Ieee.{fits, lt}
use Rattle.sequences.specs.Lists.{EachOf, rising, with_key}
use Rattle.sequences.specs.Laws.Sorted.{map-permutes, each-sorted_by}
use Rattle.sequences.specs.Laws.Lists.{permuted-length}
use Rattle.sequences.specs.Laws.Each.{each-those, each-permuted, each_map}
use Rattle.sort.specs.Sorted.{sorted}
use Rattle.sort.specs.Laws.Keys.{sorted-keys}
use Rattle.sort.specs.Promises.{alike}
use Rattle.documents.specs.Documents.{Term, term, values_at, greater_first, falling}
use Rattle.documents.specs.TermKeys.{term_key, component_of}
use Rattle.documents.specs.Laws.TermKeys.{Held, term-key-order}
use Rattle.summary_terms.specs.Summaries.{maximum, maxima}
use Rattle.summary_terms.specs.Steps.{key_of_pair}
use Rattle.summary_maximum.specs.Laws.Firsts.{but, firsts, firsts-permute}
use Rattle.summary_maximum.specs.Changes.{components, maximum_of}

-- ---- the components as first met
each-firsts : (P : ℕ → Type 0) (l : List ℕ) → EachOf P l → EachOf P (firsts l)
unfolding firsts
each-firsts P [] h = tt
each-firsts P (c ∷ cs) h = (h.0, each-those P (but c) (firsts cs) (each-firsts P cs h.1))

-- ---- the maximum of values that fit fits
maximum-fits : (vs : List Float) → EachOf (λ v. T (fits binary32 v)) vs → T (fits binary32 (maximum vs))
unfolding fits
maximum-fits [] h = tt
maximum-fits (v ∷ vs) h = go v vs h.0 h.1
  where
    go : (m : Float) (vs : List Float) → T (fits binary32 m) → EachOf (λ v. T (fits binary32 v)) vs → T (fits binary32 (foldl (λ m x. cond (lt m x) x m) m vs))
    go m [] p h = p
    go m (v ∷ vs) p h = go (cond (lt m v) v m) vs (at (lt m v)) h.1
      where
        at : (b : Bool) → T (fits binary32 (cond b v m))
        at true = h.0
        at false = p

module _ (ts : List Term) (E : EachOf Held ts) where
  narrow : EachOf (λ c. c < 4294967296) (components ts)
  narrow = each_map Held (λ c. c < 4294967296) (λ t. t.component) (λ t h. h.narrow) ts E

  pub maximum-held : (c : ℕ) → c < 4294967296 → Held (term c (maximum_of ts c))
  maximum-held c h =
      record {
        narrow = h;
        fit = maximum-fits (values_at c ts) (each_map Held (λ v. T (fits binary32 v)) (λ t. t.value) (λ t h. h.fit) (with_key (λ t. t.component) c ts) (each-those Held (λ t. eqb t.component c) ts
            E));
      }

  -- the block's maxima are terms as slices hold them
  pub maxima-held : EachOf Held (maxima ts)
  unfolding maxima
  maxima-held =
      each_map (λ c. c < 4294967296) Held (λ c. term c (maximum_of ts c)) maximum-held (rising (components ts))
      (each-permuted (λ c. c < 4294967296) (firsts-permute (components ts)) (each-firsts (λ c. c < 4294967296) (components ts) narrow))

  pub falling-held : EachOf Held (falling (maxima ts))
  unfolding falling
  falling-held = each-sorted_by greater_first Held (maxima ts) maxima-held

  key_at : ℕ → ℕ
  key_at c = term_key (term c (maximum_of ts c))

  join-pairs : (l : List ℕ) → EachOf (λ c. c < 4294967296) l → zip_with key_of_pair l (map (maximum_of ts) l) ≡ map key_at l
  unfolding zip_with key_at component_of
  join-pairs [] h = refl
  join-pairs (c ∷ l) h =
      let e : c % 4294967296 ≡ c = omega (arith, h.0) in
      ap (λ k. term_key (term k (maximum_of ts c)) ∷ zip_with key_of_pair l (map (maximum_of ts) l)) e ∙ ap (λ z. key_at c ∷ z) (join-pairs l h.1)

  -- sorted, the keys of the components as met are the keys of the block's maxima, the greatest first
  pub sorted-pairs : (F : List ℕ) → firsts (components ts) ≡ F → sorted (zip_with key_of_pair F (map (maximum_of ts) F)) ≡ map term_key (falling (maxima ts))
  unfolding maxima falling key_at
  sorted-pairs F e =
      ap sorted (join-pairs F (subst (EachOf (λ c. c < 4294967296)) e (each-firsts (λ c. c < 4294967296) (components ts) narrow)))
      ∙ ap (λ l. sorted (map key_at l)) (sym e)
      ∙ alike (map-permutes key_at (firsts-permute (components ts)))
      ∙ ap sorted (fused (rising (components ts)))
      ∙ sorted-keys greater_first Held term_key term-key-order (maxima ts) maxima-held
    where
      fused : (l : List ℕ) → map key_at l ≡ map term_key (map (λ c. term c (maximum_of ts c)) l)
      fused [] = refl
      fused (c ∷ l) = ap (λ z. key_at c ∷ z) (fused l)

  pub maxima-count : (F : List ℕ) → firsts (components ts) ≡ F → length F ≡ length (maxima ts)
  unfolding maxima
  maxima-count F e = ap length (sym e) ∙ permuted-length (firsts-permute (components ts)) ∙ sym (length-map (rising (components ts)) (λ c. term c (maximum_of ts c)))
