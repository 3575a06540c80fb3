-- A slot that no entry names keeps its score, and those that are met are set back.
use Rattle.std.specs.Prelude.{ℕ, zero, suc, ◌<◌, ◌≡◌, refl, Bool, true, false, ◌||◌, cond, length, get_or, set, take, replicate, T, eqb, Float}
use Rattle.std.proofs.Common.{arith, sym, ap, ◌∙◌, length-set, length-take, get_or-set_same, get_or-set_other, ext_get_or, get_or-take, eqb-true}
use Rattle.std.proofs.Math.Decide.{dec_lt}
use mathlib.Core.List.{List, [], ◌∷◌, map, foldl}
use Rattle.std.proofs.lemmas.List.{length-replicate, get_or-replicate, take-set-le}
use Rattle.std.proofs.Math.Seq.{take-set-lt, set_out}
use Rattle.std.proofs.lemmas.Bool.{eqb-false}
use Rattle.std.specs.Float.{nan, binary32}
use Rattle.std.specs.Float.Ieee.{fits, add, mul}
use Rattle.std.specs.Float.Ieee.Fits.{add-fits, nan-fits}
use Rattle.sequences.specs.Lists.{among}
use Rattle.sequences.specs.Laws.Lists.{neither, among-append}
use Rattle.documents.specs.Documents.{Term, Documents, terms}
use Rattle.cluster_index.specs.Index.{add_entry, add_term, add_terms}
use Rattle.cluster_slots.specs.Met.{slots_of, met, none, clear_at, clear_met}

-- ---- adding
entries-length : (v : Float) (ts : List Term) (xs : List Float) → length (foldl (add_entry v) xs ts) ≡ length xs
entries-length v [] xs = refl
entries-length v (t ∷ ts) xs = entries-length v ts (add_entry v xs t) ∙ length-set xs t.component _

pub add-length : (index : Documents) (qs : List Term) (xs : List Float) → length (add_terms index xs qs) ≡ length xs
add-length index [] xs = refl
add-length index (q ∷ qs) xs = add-length index qs (add_term index xs q) ∙ entries-length q.value (terms index q.component) xs

module _ (s : ℕ) (d : Float) where
  entries-keep : (v : Float) (ts : List Term) (xs : List Float) → among s (map (λ e. e.component) ts) ≡ false → get_or (foldl (add_entry v) xs ts) s d ≡ get_or xs s d
  entries-keep v [] xs h = refl
  entries-keep v (t ∷ ts) xs h =
      let n = neither (eqb s t.component) (among s (map (λ e. e.component) ts)) h in
      entries-keep v ts (add_entry v xs t) n.1
      ∙ get_or-set_other xs t.component s _ d (eqb-false s t.component n.0)

  -- a slot that no entry met names keeps its score
  pub keeps : (index : Documents) (qs : List Term) (xs : List Float) → among s (met index qs) ≡ false → get_or (add_terms index xs qs) s d ≡ get_or xs s d
  keeps index [] xs h = refl
  keeps index (q ∷ qs) xs h =
      let n = neither (among s (slots_of index q)) (among s (met index qs)) (sym (among-append s (slots_of index q) (met index qs)) ∙ h) in
      keeps index qs (add_term index xs q) n.1 ∙ entries-keep q.value (terms index q.component) xs n.0

-- ---- scores are values of f32
abbrev pub Fitting : List Float → Type 0
Fitting xs = (s : ℕ) → T (fits binary32 (get_or xs s nan))

pub none-fits : T (fits binary32 none)
unfolding fits
none-fits = tt

set-fits : (xs : List Float) (i : ℕ) (a : Float) → Fitting xs → T (fits binary32 a) → Fitting (set xs i a)
set-fits [] i a f g s = f s
set-fits (x ∷ xs) zero a f g zero = g
set-fits (x ∷ xs) zero a f g (suc s) = f (suc s)
set-fits (x ∷ xs) (suc i) a f g zero = f 0
set-fits (x ∷ xs) (suc i) a f g (suc s) = set-fits xs i a (λ k. f (suc k)) g s

entries_fit : (v : Float) (ts : List Term) (xs : List Float) → Fitting xs → Fitting (foldl (add_entry v) xs ts)
entries_fit v [] xs f = f
entries_fit v (t ∷ ts) xs f =
    entries_fit v ts (add_entry v xs t) (set-fits xs t.component _ f (add-fits binary32 (get_or xs t.component nan) (mul binary32 t.value v)))

pub add_fit : (index : Documents) (qs : List Term) (xs : List Float) → Fitting xs → Fitting (add_terms index xs qs)
add_fit index [] xs f = f
add_fit index (q ∷ qs) xs f = add_fit index qs (add_term index xs q) (entries_fit q.value (terms index q.component) xs f)

pub zeros-fit : (n : ℕ) → Fitting (replicate n none)
zeros-fit zero s = nan-fits binary32
zeros-fit (suc n) zero = none-fits
zeros-fit (suc n) (suc s) = zeros-fit n s

-- ---- the scores of the first slots are those of a shorter slice
entry-cut : (n : ℕ) (v : Float) (t : Term) (xs : List Float) → take n (add_entry v xs t) ≡ add_entry v (take n xs) t
entry-cut n v t xs = go (dec_lt t.component n)
  where
    go : Dec (t.component < n) → take n (add_entry v xs t) ≡ add_entry v (take n xs) t
    go (yes h) =
        take-set-lt n xs t.component _ h
        ∙ ap (λ x. set (take n xs) t.component (add binary32 x (mul binary32 t.value v))) (sym (get_or-take n xs t.component nan h))
    go (no h) = take-set-le n xs t.component _ (omega arith) ∙ sym (set_out (take n xs) t.component _ (omega (arith, length-take n xs)))

entries-cut : (n : ℕ) (v : Float) (ts : List Term) (xs : List Float) → take n (foldl (add_entry v) xs ts) ≡ foldl (add_entry v) (take n xs) ts
entries-cut n v [] xs = refl
entries-cut n v (t ∷ ts) xs = entries-cut n v ts (add_entry v xs t) ∙ ap (λ l. foldl (add_entry v) l ts) (entry-cut n v t xs)

pub added-cut : (index : Documents) (n : ℕ) (qs : List Term) (xs : List Float) → take n (add_terms index xs qs) ≡ add_terms index (take n xs) qs
added-cut index n [] xs = refl
added-cut index n (q ∷ qs) xs = added-cut index n qs (add_term index xs q) ∙ ap (λ l. add_terms index l qs) (entries-cut n q.value (terms index q.component) xs)

-- ---- setting back
clear-length : (S : List ℕ) (xs : List Float) → length (foldl clear_at xs S) ≡ length xs
clear-length [] xs = refl
clear-length (t ∷ S) xs = clear-length S (clear_at xs t) ∙ length-set xs t none

cleared_at : (s : ℕ) (d : Float) (S : List ℕ) (xs : List Float) → s < length xs → get_or (foldl clear_at xs S) s d ≡ cond (among s S) none (get_or xs s d)
cleared_at s d [] xs h = refl
cleared_at s d (t ∷ S) xs h = let l = length-set xs t none in cleared_at s d S (clear_at xs t) (omega arith) ∙ go (eqb s t) refl
  where
    go : (b : Bool) → eqb s t ≡ b → cond (among s S) none (get_or (clear_at xs t) s d) ≡ cond (b || among s S) none (get_or xs s d)
    go true e = ap (cond (among s S) none) (ap (λ k. get_or (set xs k none) s d) (sym (eqb-true s t e)) ∙ get_or-set_same xs s none d h) ∙ same (among s S)
      where
        same : (b : Bool) → cond b none none ≡ none
        same true = refl
        same false = refl
    go false e = ap (cond (among s S) none) (get_or-set_other xs t s none d (eqb-false s t e))

-- from zeros to zeros: what the terms added is set back
pub set_back_lem : (index : Documents) (n : ℕ) (qs : List Term) → clear_met index (add_terms index (replicate n none) qs) qs ≡ replicate n none
set_back_lem index n qs =
    ext_get_or nan (clear_met index xs qs) (replicate n none) (clear-length (met index qs) xs ∙ add-length index qs (replicate n none))
    (λ s h. let k : s < length xs = omega (arith, clear-length (met index qs) xs) in cleared_at s nan (met index qs) xs k ∙ at s k (among s (met index qs)) refl)
  where
    xs : List Float
    xs = add_terms index (replicate n none) qs

    zero-at : (s : ℕ) → s < length (add_terms index (replicate n none) qs) → get_or (replicate n none) s nan ≡ none
    zero-at s h = get_or-replicate n s none nan (omega (arith, add-length index qs (replicate n none), length-replicate {A = Float} n none))

    at : (s : ℕ) → s < length xs → (b : Bool) → among s (met index qs) ≡ b → cond b none (get_or xs s nan) ≡ get_or (replicate n none) s nan
    at s h true e = sym (zero-at s h)
    at s h false e = keeps s nan index qs (replicate n none) e
