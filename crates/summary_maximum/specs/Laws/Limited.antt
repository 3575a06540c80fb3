-- The terms below a limit: taking them alone, and a limit that cuts nothing.
use Rattle.std.specs.Prelude.{ℕ, ◌<◌, ◌≡◌, refl, Bool, true, false, ◌||◌, cond, ltb, eqb}
use Rattle.std.proofs.Common.{sym, ap, ◌∙◌, subst, true≢false, ltb-true, eqb-true}
use mathlib.Core.List.{List, [], ◌∷◌, foldl}
use Rattle.sequences.specs.Lists.{EachOf, every, among}
use Rattle.sequences.specs.Laws.Lists.{both}
use Rattle.documents.specs.Documents.{Term}
use Rattle.sequences.specs.Laws.Each.{each-those}
use Rattle.summary_maximum.specs.Maximum.{below}
use Rattle.summary_maximum.specs.Changes.{components}
use Rattle.summary_maximum.specs.Meeting.{Met, meets, meets_below}
use Rattle.summary_maximum.specs.Laws.Firsts.{Below}

-- passing over the others, or leaving them out before
pub fold-below : (n : ℕ) (s : Met) (ts : List Term) → foldl (meets_below n) s ts ≡ foldl meets s (below n ts)
unfolding below
fold-below n s [] = refl
fold-below n s (t ∷ ts) = go (λ s. fold-below n s ts) (ltb t.component n)
  where
    go : ((s : Met) → foldl (meets_below n) s ts ≡ foldl meets s (below n ts)) → (b : Bool) → foldl (meets_below n) (cond b (meets s t) s) ts ≡ foldl meets s (cond b (t ∷ below n ts) (below n ts))
    go i true = i (meets s t)
    go i false = i s

pub each_below : (P : Term → Type 0) (n : ℕ) (ts : List Term) → EachOf P ts → EachOf P (below n ts)
unfolding below
each_below P n ts e = each-those P (λ t. ltb t.component n) ts e

-- they are below it
pub limited : (n : ℕ) (ts : List Term) → Below n (components (below n ts))
unfolding below
limited n [] m a = absurd (true≢false (sym a))
limited n (t ∷ ts) m a = go (limited n ts m) (ltb t.component n) refl a
  where
    at : (among m (components (below n ts)) ≡ true → m < n) → t.component < n → (b : Bool) → eqb m t.component ≡ b → (b || among m (components (below n ts))) ≡ true → m < n
    at i h true e a = subst (λ k. k < n) (sym (eqb-true m t.component e)) h
    at i h false e a = i a

    go : (among m (components (below n ts)) ≡ true → m < n) → (b : Bool) → ltb t.component n ≡ b → among m (components (cond b (t ∷ below n ts) (below n ts))) ≡ true → m < n
    go i true e a = at i (ltb-true t.component n e) (eqb m t.component) refl a
    go i false e a = i a

-- nothing is cut where all are
pub below_all : (n : ℕ) (ts : List Term) → every (λ t. ltb t.component n) ts ≡ true → below n ts ≡ ts
unfolding below
below_all n [] h = refl
below_all n (t ∷ ts) h =
    let b = both (ltb t.component n) (every (λ t. ltb t.component n) ts) h in
    ap (λ c. cond c (t ∷ below n ts) (below n ts)) b.0 ∙ ap (λ l. t ∷ l) (below_all n ts b.1)
