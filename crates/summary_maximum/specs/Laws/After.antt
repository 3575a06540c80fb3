-- The state after all terms of a block.
use Rattle.std.specs.Prelude.{ℕ, ◌≤◌, ◌≡◌, refl, Bool, true, false, ◌||◌, length, Float}
use Rattle.std.proofs.Common.{sym, ap, ◌∙◌, subst}
use mathlib.Core.List.{List, [], ◌∷◌, ◌++◌, foldl, map-append, append_assoc, append-nil}
use Rattle.sequences.specs.Laws.Lists.{among-append}
use Rattle.sequences.specs.Lists.{among}
use Rattle.documents.specs.Documents.{Term}
use Rattle.summary_maximum.specs.Meeting.{Met, meets}
use Rattle.summary_maximum.specs.Laws.Firsts.{Below}
use Rattle.summary_maximum.specs.Changes.{components}
use Rattle.summary_maximum.specs.Laws.Meetings.{Holds, met-again, met-new}

module _ (K P : List ℕ) (M : List Float) (n : ℕ) (ResultKind : n ≤ length K) (RP : n ≤ length P) (RM : n ≤ length M) where
  pub record AfterAll (ts : List Term) (s : Met) : Type 0 where
    pub first : List ℕ
    pub holds : Holds K P M first ts s

  one_more : (F : List ℕ) (ts : List Term) (t : Term) (s : Met) → Holds K P M F ts s → Below n (components (ts ++ (t ∷ []))) → AfterAll (ts ++ (t ∷ [])) (meets s t)
  one_more F ts t s H B = go (among t.component (components ts)) refl
    where
      go : (b : Bool) → among t.component (components ts) ≡ b → AfterAll (ts ++ (t ∷ [])) (meets s t)
      go true a = record { first = F; holds = met-again K P M n ResultKind RP RM F ts t s H a }
      go false a = record { first = F ++ (t.component ∷ []); holds = met-new K P M n ResultKind RP RM F ts t s H a B }

  pub all-met : (ts rest : List Term) (s : Met) → AfterAll ts s → Below n (components (ts ++ rest)) → AfterAll (ts ++ rest) (foldl meets s rest)
  all-met ts [] s A B = subst (λ l. AfterAll l s) (sym (append-nil ts)) A
  all-met ts (t ∷ rest) s A B =
      let e : (ts ++ (t ∷ [])) ++ rest ≡ ts ++ (t ∷ rest) = append_assoc ts (t ∷ []) rest in
      subst (λ l. AfterAll l (foldl meets (meets s t) rest)) e
      (all-met (ts ++ (t ∷ [])) rest (meets s t) (one_more A.first ts t s A.holds (λ m h. B m (early m h))) (subst (λ l. Below n (components l)) (sym e) B))
    where
      early : (m : ℕ) → among m (components (ts ++ (t ∷ []))) ≡ true → among m (components (ts ++ (t ∷ rest))) ≡ true
      early m h =
          ap (among m) (ap components (sym (append_assoc ts (t ∷ []) rest)) ∙ map-append (λ t. t.component) (ts ++ (t ∷ [])) rest)
          ∙ among-append m (components (ts ++ (t ∷ []))) (components rest)
          ∙ ap (λ b. b || among m (components rest)) h
