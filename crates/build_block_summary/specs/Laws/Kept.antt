-- What the keys of a summarized block hold: the keys of the terms that its summary keeps, in front.
use Rattle.std.specs.Prelude.{ℕ, zero, suc, ◌≤◌, ◌<◌, ◌≡◌, refl, List, [], ◌∷◌, ◌++◌, map, length, get_or, drop, T, Float}
use Rattle.std.proofs.Common.{arith, sym, ◌∙◌, subst, length-take, length-append}
use Rattle.std.proofs.Math.Path.{ap}
use Rattle.std.proofs.Math.ListN.{take}
use Rattle.std.proofs.lemmas.List.{length-map, take-append-le}
use Rattle.std.specs.Float.{nan, binary32}
use Rattle.std.specs.Float.Ieee.{fits}
use Rattle.sequences.specs.Lists.{EachOf}
use Rattle.documents.specs.Documents.{Term, Documents, falling}
use Rattle.documents.specs.TermKeys.{term_key}
use Rattle.documents.specs.Laws.TermKeys.{Held}
use Rattle.configuration.specs.declared.SummarizationStrategy.{SummarizationStrategy}
use Rattle.summary_maximum.specs.Maximum.{block_terms, below, maxima}
use Rattle.summary_maximum.specs.Laws.Limited.{each_below}
use Rattle.summary_terms.specs.Summaries.{kept, summary_of}
use Rattle.summary_terms.specs.Answers.{Summarizes}
use Rattle.sequences.specs.Laws.Each.{each_take}
use Rattle.summary_terms.specs.Laws.Finishing.{falling-held}
use Rattle.summary_terms.specs.Laws.Promises.{kept-first}
use Rattle.summary_terms.specs.Laws.Whole.{block_held}

-- ---- the first so many
module _ {A B : Type 0} (f : A → B) where
  map-take : (n : ℕ) (l : List A) → take n (map f l) ≡ map f (take n l)
  map-take zero l = refl
  map-take (suc n) [] = refl
  map-take (suc n) (x ∷ l) = ap (λ z. f x ∷ z) (map-take n l)

take-taken : {A : Type 0} (n : ℕ) (l : List A) → take (length (take n l)) l ≡ take n l
take-taken zero l = refl
take-taken (suc n) [] = refl
take-taken (suc n) (x ∷ l) = ap (λ z. x ∷ z) (take-taken n l)

fewer : {A : Type 0} (n : ℕ) (l : List A) → length (take n l) ≤ length l
fewer n l = let e = length-take n l in omega arith

module _ (strategy : SummarizationStrategy) (ts : List Term) where
  few-kept : length (kept strategy ts) ≤ length (falling ts)
  few-kept = let k = kept-first strategy ts in rw k.1 (fewer k.0 (falling ts))

  kept-keys : (rest : List ℕ) → take (length (kept strategy ts)) (map term_key (falling ts) ++ rest) ≡ map term_key (kept strategy ts)
  kept-keys rest =
      let k = kept-first strategy ts in
      let l = length-map (falling ts) term_key in
      let f = few-kept in
      take-append-le (length (kept strategy ts)) (map term_key (falling ts)) rest (omega arith)
      ∙ map-take term_key (length (kept strategy ts)) (falling ts)
      ∙ ap (map term_key) (ap (λ z. take (length z) (falling ts)) k.1 ∙ take-taken k.0 (falling ts) ∙ sym k.1)

  kept-within : (rest : List ℕ) → length (kept strategy ts) ≤ length (map term_key (falling ts) ++ rest)
  kept-within rest =
      let l = length-map (falling ts) term_key in
      let m = length-append (map term_key (falling ts)) rest in
      let f = few-kept in
      omega arith

-- ---- the kept terms are terms as slices hold them
pub top-held : (strategy : SummarizationStrategy) (limit : ℕ) (d : Documents) (block : List ℕ) → ((k : ℕ) → get_or d.components k 0 < 4294967296)
    → ((k : ℕ) → T (fits binary32 (get_or d.values k nan)))
    → EachOf Held (summary_of strategy (below limit (block_terms d block)))
unfolding summary_of
top-held strategy limit d block narrow fit =
    let ts = below limit (block_terms d block) in
    let k = kept-first strategy (maxima ts) in
    subst (EachOf Held) (sym k.1) (each_take Held k.0 (falling (maxima ts)) (falling-held ts (each_below Held limit (block_terms d block) (block_held d block narrow fit))))

-- ---- terms that were summarized
module _ (strategy : SummarizationStrategy) (ts : List Term) (K P : List ℕ) (M : List Float) (r : ℕ) (keys places : List ℕ) (maxs : List Float) (S : Summarizes strategy ts K P M r keys places
    maxs) where
  pub front-keys : take r keys ≡ map term_key (summary_of strategy ts)
  unfolding summary_of
  front-keys =
      ap (λ m. take m keys) S.answer
      ∙ ap (take (length (kept strategy (maxima ts)))) S.keys_left
      ∙ kept-keys strategy (maxima ts) (drop (length (maxima ts)) K)

  pub front_fits : r ≤ length keys
  unfolding summary_of
  front_fits = rw (S.answer, S.keys_left) (kept-within strategy (maxima ts) (drop (length (maxima ts)) K))

-- the same documents have the same summary
pub block_same : (strategy : SummarizationStrategy) (limit : ℕ) (d : Documents) (x y : List ℕ) → x ≡ y → (K P : List ℕ) (M : List Float) (r : ℕ) (keys places : List ℕ) (maxs : List Float)
    → Summarizes strategy (below limit (block_terms d x)) K P M r keys places maxs → Summarizes strategy (below limit (block_terms d y)) K P M r keys places maxs
block_same strategy limit d x y e K P M r keys places maxs S = subst (λ b. Summarizes strategy (below limit (block_terms d b)) K P M r keys places maxs) e S
