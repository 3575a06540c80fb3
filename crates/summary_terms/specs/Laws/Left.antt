-- What a summarized block leaves in the lent buffers, and how many terms it keeps.
use Rattle.std.specs.Prelude.{ℕ, ◌<◌, ◌≡◌, refl, Bool, true, false, ◌||◌, cond, length, get_or, take, drop, set, replicate, pos, eqb, Float}
use Rattle.std.proofs.Common.{sym, ap, ◌∙◌, subst, length-set, take_at, drop_at, get_or-set_same, get_or-set_other, ext_get_or, eqb-true}
use mathlib.Core.List.{List, [], ◌∷◌, ◌++◌, map, foldl, zip_with}
use Rattle.std.proofs.lemmas.List.{length-map}
use Rattle.std.specs.Float.{fin}
use Rattle.std.proofs.lemmas.Bool.{eqb-false}
use Rattle.sequences.specs.Lists.{EachOf, among}
use Rattle.sequences.specs.Laws.Groups.{among-rising}
use Rattle.sequences.specs.Laws.Sorted.{sort-permutes, map-permutes}
use Rattle.sequences.specs.Laws.Lists.{among-permuted}
use Rattle.sort.specs.Sorted.{sorted}
use Rattle.documents.specs.Documents.{Term, greater_first, falling}
use Rattle.documents.specs.TermKeys.{term_key, component_of, value_of_term}
use Rattle.documents.specs.Laws.TermKeys.{Held, component-back, value-back}
use Rattle.configuration.specs.declared.SummarizationStrategy.{SummarizationStrategy}
use Rattle.summary_terms.specs.Summaries.{maxima, kept}
use Rattle.summary_maximum.specs.Meeting.{Met}
use Rattle.summary_terms.specs.Steps.{key_of_pair, kept_count, FinishedFirst}
use Rattle.summary_maximum.specs.Changes.{components, maximum_of}
use Rattle.summary_maximum.specs.Laws.Meetings.{Holds}
use Rattle.summary_terms.specs.Laws.Finishing.{falling-held, sorted-pairs, maxima-count}
use Rattle.summary_terms.specs.Laws.Counts.{kept-count}
use Rattle.summary_terms.specs.Laws.Once.{components-maxima}

-- ---- places set to 0, one after another
module _ {A : Type 0} (g : A → ℕ) where
  zeroed-long : (l : List ℕ) (xs : List A) → length (foldl (λ l x. set l (g x) 0) l xs) ≡ length l
  zeroed-long l [] = refl
  zeroed-long l (x ∷ xs) = zeroed-long (set l (g x) 0) xs ∙ length-set l (g x) 0

  zeroed-at : (l : List ℕ) (xs : List A) (c : ℕ) → c < length l → get_or (foldl (λ l x. set l (g x) 0) l xs) c 0 ≡ cond (among c (map g xs)) 0 (get_or l c 0)
  zeroed-at l [] c h = refl
  zeroed-at l (x ∷ xs) c h = zeroed-at (set l (g x) 0) xs c (subst (λ n. c < n) (sym (length-set l (g x) 0)) h) ∙ go (eqb c (g x)) refl (among c (map g xs))
    where
      go : (b : Bool) → eqb c (g x) ≡ b → (a : Bool) → cond a 0 (get_or (set l (g x) 0) c 0) ≡ cond (b || a) 0 (get_or l c 0)
      go true e true = refl
      go true e false = ap (λ k. get_or (set l k 0) c 0) (sym (eqb-true c (g x) e)) ∙ get_or-set_same l c 0 0 h
      go false e true = refl
      go false e false = get_or-set_other l (g x) c 0 0 (eqb-false c (g x) e)

-- ---- what is read back from the keys of held terms
components-back : (l : List Term) → EachOf Held l → map component_of (map term_key l) ≡ components l
components-back [] h = refl
components-back (t ∷ l) h = ap (λ c. c ∷ map component_of (map term_key l)) (component-back t h.0) ∙ ap (λ z. t.component ∷ z) (components-back l h.1)

values-back : (l : List Term) → EachOf Held l → map value_of_term (map term_key l) ≡ map (λ t. t.value) l
values-back [] h = refl
values-back (t ∷ l) h = ap (λ v. v ∷ map value_of_term (map term_key l)) (value-back t h.0) ∙ ap (λ z. t.value ∷ z) (values-back l h.1)

-- the components of the block's maxima are those of its terms
among-falling : (ts : List Term) (c : ℕ) → among c (components (falling (maxima ts))) ≡ among c (components ts)
unfolding falling maxima
among-falling ts c =
    among-permuted c (map-permutes (λ t. t.component) (sort-permutes greater_first (maxima ts)))
    ∙ ap (among c) (components-maxima ts)
    ∙ among-rising c (components ts)

module _ (K P : List ℕ) (M : List Float) (F : List ℕ) (ts : List Term) (E : EachOf Held ts) (s : Met) (H : Holds K P M F ts s)
    (strategy : SummarizationStrategy) (r : ℕ) (keys places : List ℕ) (maxs : List Float) (D : FinishedFirst strategy s r keys places maxs) where
  taken-keys : take s.count s.keys ≡ F
  taken-keys = ap (take s.count) H.keys_are ∙ take_at F (drop s.count K) s.count (sym H.count-is)

  taken-maxima : take s.count s.maxima ≡ map (maximum_of ts) F
  taken-maxima = ap (take s.count) H.maxima_are ∙ take_at (map (maximum_of ts) F) (drop s.count M) s.count (length-map F (maximum_of ts) ∙ sym H.count-is)

  front-is : D.front ≡ map term_key (falling (maxima ts))
  front-is =
      D.finished.keys_are
      ∙ ap (λ l. sorted (zip_with key_of_pair l (take s.count s.maxima))) taken-keys
      ∙ ap (λ l. sorted (zip_with key_of_pair F l)) taken-maxima
      ∙ sorted-pairs ts E F H.firsts_are

  count-is : s.count ≡ length (maxima ts)
  count-is = H.count-is ∙ maxima-count ts E F H.firsts_are

  pub keys-end : keys ≡ map term_key (falling (maxima ts)) ++ drop (length (maxima ts)) K
  keys-end =
      D.keys_are
      ∙ ap (λ l. l ++ drop s.count s.keys) front-is
      ∙ ap (λ l. map term_key (falling (maxima ts)) ++ drop s.count l) H.keys_are
      ∙ ap (λ l. map term_key (falling (maxima ts)) ++ l) (drop_at F (drop s.count K) s.count (sym H.count-is))
      ∙ ap (λ n. map term_key (falling (maxima ts)) ++ drop n K) count-is

  pub maxima-end : maxs ≡ replicate (length (maxima ts)) (fin false 0 (pos 0)) ++ drop (length (maxima ts)) M
  maxima-end =
      D.maxima_are
      ∙ ap (λ l. l ++ drop s.count s.maxima) (D.finished.maxima_are ∙ ap (λ l. replicate (length l) (fin false 0 (pos 0))) taken-maxima ∙ ap (λ n. replicate n (fin false 0 (pos 0)))
      (length-map F (maximum_of ts) ∙ sym H.count-is ∙ count-is))
      ∙ ap (λ l. replicate (length (maxima ts)) (fin false 0 (pos 0)) ++ drop s.count l) H.maxima_are
      ∙ ap (λ l. replicate (length (maxima ts)) (fin false 0 (pos 0)) ++ l) (drop_at (map (maximum_of ts) F) (drop s.count M) s.count (length-map F (maximum_of ts) ∙ sym H.count-is))
      ∙ ap (λ n. replicate (length (maxima ts)) (fin false 0 (pos 0)) ++ drop n M) count-is

  pub answer-end : r ≡ length (kept strategy (maxima ts))
  answer-end =
      D.finished.answer
      ∙ ap (λ l. kept_count strategy (map value_of_term l)) front-is
      ∙ ap (kept_count strategy) (values-back (falling (maxima ts)) (falling-held ts E))
      ∙ kept-count strategy (maxima ts)

  pub places-end : places ≡ foldl (λ l t. set l t.component 0) P ts
  places-end =
      D.finished.places_are
      ∙ ap (foldl (λ l k. set l (component_of k) 0) s.places) front-is
      ∙ ext_get_or 0 (foldl (λ l k. set l (component_of k) 0) s.places (map term_key (falling (maxima ts)))) (foldl (λ l t. set l t.component 0) P ts)
      (zeroed-long component_of s.places (map term_key (falling (maxima ts))) ∙ H.size ∙ sym (zeroed-long (λ t. t.component) P ts))
      (λ c h. at c (subst (λ n. c < n) (zeroed-long component_of s.places (map term_key (falling (maxima ts)))) h))
    where
      at : (c : ℕ) → c < length s.places → get_or (foldl (λ l k. set l (component_of k) 0) s.places (map term_key (falling (maxima ts)))) c 0 ≡ get_or (foldl (λ l t. set l t.component 0) P ts) c 0
      at c h =
          zeroed-at component_of s.places (map term_key (falling (maxima ts))) c h
          ∙ ap (λ l. cond (among c l) 0 (get_or s.places c 0)) (components-back (falling (maxima ts)) (falling-held ts E))
          ∙ ap (λ b. cond b 0 (get_or s.places c 0)) (among-falling ts c)
          ∙ go (among c (components ts)) refl
          ∙ sym (zeroed-at (λ t. t.component) P ts c (subst (λ n. c < n) H.size h))
        where
          go : (b : Bool) → among c (components ts) ≡ b → cond b 0 (get_or s.places c 0) ≡ cond b 0 (get_or P c 0)
          go true e = refl
          go false e = H.elsewhere c e
