-- The loops one turn at a time.
use Prim.Native.Nat.{ℕ, suc, ◌+◌, ◌-◌, ◌≤◌, ◌<◌, min}
use native.Mathlib.Omega.{arith}
use native.Mathlib.Numerals.{add-one}
use mathlib.Core.Path.{◌≡◌, refl, sym, ap, ◌∙◌}
use mathlib.Core.Bool.{Bool, true, false, ◌&&◌, cond}
use mathlib.Core.List.{List, [], ◌∷◌, map, foldl, zip_with, foldl-append}
use lib.ListN.{length, get_or, take, drop, set, length-take, length-drop}
use lib.Seq.{drop-cons, drop-length}
use lib.Dec.{ltb, eqb}
use lib.Ieee.{Float, nan, lt}
use Rattle.std.proofs.Common.{Iter, Bor, Option, Some, subst}
use Rattle.std.proofs.lemmas.Iterator.{zips}
use Rattle.std.proofs.lemmas.Fn.{fronts}
use Rattle.std.specs.declared.iter.Zip.{Zip}
use Rattle.std.specs.Iterator.Adapters.{zip_first, zip_second}
use Rattle.std.specs.Slice.Iter.{iter_rest}
use borrow.Author.Tests.{lt-ltb, le-ltb}
use Rattle.sequences.specs.Lists.{joined}
use Rattle.documents.specs.declared.TermPlaces.{TermPlaces}
use Rattle.documents.specs.Answers.{places_of}
use Rattle.documents.specs.Documents.{term, paired, Documents, terms}
use Rattle.documents.specs.Laws.Places.{paired-drop, terms-at}
use Rattle.summary_maximum.specs.Maximum.{below}
use Rattle.summary_maximum.specs.Meeting.{Met, met, meets, meets_below}
use Rattle.summary_maximum.specs.Laws.Limited.{fold-below}

-- ---- a fold over a list, one entry at a time: the fold of what is left is the fold of all
module _ {A B : Type 0} (f : B → A → B) where
  pub fold_step : (b b' w : B) (d : A) (l : List A) (i : ℕ) → i < length l → foldl f b (drop i l) ≡ w → b' ≡ f b (get_or l i d) → foldl f b' (drop (i + 1) l) ≡ w
  fold_step b b' w d l i h e q =
      ap (λ z. foldl f z (drop (i + 1) l)) q
      ∙ ap (λ k. foldl f (f b (get_or l i d)) (drop k l)) (add-one i)
      ∙ ap (foldl f b) (sym (drop-cons l i d h))
      ∙ e

  pub fold_end : (b w : B) (l : List A) (i : ℕ) → i ≡ length l → foldl f b (drop i l) ≡ w → b ≡ w
  fold_end b w l i e h = ap (foldl f b) (sym (ap (λ k. drop k l) e ∙ drop-length l)) ∙ h

-- ---- one term taken in
module _ (n : ℕ) (ks ps : List ℕ) (ms : List Float) (c : ℕ) (v : Float) (place : ℕ) (b : Bool) (P : place ≡ get_or ps c 0) (B : b ≡ (ltb place n && eqb (get_or ks place 0) c)) where
  known_is : (ltb (get_or ps c 0) n && eqb (get_or ks (get_or ps c 0) 0) c) ≡ b
  known_is = rw P at (sym B)

  pub meets-raised : (ms' : List Float) → b ≡ true → ms' ≡ cond (lt (get_or ms place nan) v) (set ms place v) ms → met n ks ps ms' ≡ meets (met n ks ps ms) (term c v)
  unfolding meets
  meets-raised ms' t e = rw (known_is, t, ← P) (ap (met n ks ps) e)

  pub meets-added : (ps' : List ℕ) (ms' : List Float) → b ≡ false → n < length ks → ps' ≡ set ps c n → ms' ≡ set ms n v → met (n + 1) (set ks n c) ps' ms' ≡ meets (met n ks ps ms) (term c v)
  unfolding meets
  meets-added ps' ms' t h e g = rw (known_is, t, lt-ltb n (length ks) h, e, g)

  pub meets-full : b ≡ false → length ks ≤ n → met n ks ps ms ≡ meets (met n ks ps ms) (term c v)
  unfolding meets
  meets-full t h = rw (known_is, t, le-ltb n (length ks) h)

-- below the limit, or passed over
pub met-below : (limit : ℕ) (s s' : Met) (c : ℕ) (v : Float) → c < limit → s' ≡ meets s (term c v) → s' ≡ meets_below limit s (term c v)
met-below limit s s' c v h e = e ∙ sym (ap (λ b. cond b (meets s (term c v)) s) (lt-ltb c limit h))

pub passed_over : (limit : ℕ) (s : Met) (c : ℕ) (v : Float) → limit ≤ c → s ≡ meets_below limit s (term c v)
passed_over limit s c v h = sym (ap (λ b. cond b (meets s (term c v)) s) (le-ltb c limit h))

-- the terms of two slices from a place on, for whoever counts places
pub paired-next : (cs : List ℕ) (vs : List Float) (i : ℕ) → i < length cs → length cs ≡ length vs → drop i (paired cs vs) ≡ term (get_or cs i 0) (get_or vs i nan) ∷ drop (i + 1) (paired cs vs)
unfolding paired zip_with
paired-next cs vs i h e =
    sym (paired-drop i cs vs)
    ∙ ap (λ l. paired l (drop i vs)) (drop-cons cs i 0 h)
    ∙ ap (λ l. paired (get_or cs i 0 ∷ drop (suc i) cs) l) (drop-cons vs i nan (omega arith))
    ∙ ap (λ l. term (get_or cs i 0) (get_or vs i nan) ∷ l) (paired-drop (suc i) cs vs ∙ ap (λ k. drop k (paired cs vs)) (sym (add-one i)))

-- ---- the next pair of two slices that are passed over together
pub next_pair : {A B : Type 0} (s t : Zip (Iter A) (Iter B)) (r : Option (Bor A × Bor B)) (p : Bor A × Bor B) → r ≡ Some p → zips fronts fronts s r t
    → (iter_rest (zip_first s) ≡ p.0.now ∷ iter_rest (zip_first t)) × (iter_rest (zip_second s) ≡ p.1.now ∷ iter_rest (zip_second t))
next_pair s t r p e h = subst (λ o. zips fronts fronts s o t) e h

module _ (limit : ℕ) {cs : List ℕ} {vs : List Float} {w : Met} (s : Met) where
  pub meet-step : (s' : Met) {c : ℕ} {v : Float} {cs' : List ℕ} {vs' : List Float} → cs ≡ c ∷ cs' → vs ≡ v ∷ vs' → foldl (meets_below limit) s (paired cs vs) ≡ w → s' ≡ meets_below limit s (term c v)
      → foldl (meets_below limit) s' (paired cs' vs') ≡ w
  unfolding paired zip_with
  meet-step s' {c} {v} {cs'} {vs'} h k e q = ap (λ z. foldl (meets_below limit) z (paired cs' vs')) q ∙ sym (λ j. foldl (meets_below limit) s (paired (h j) (k j))) ∙ e

  pub meet-end : cs ≡ [] → vs ≡ [] → foldl (meets_below limit) s (paired cs vs) ≡ w → s ≡ w
  unfolding paired zip_with
  meet-end h k e = sym (λ j. foldl (meets_below limit) s (paired (h j) (k j))) ∙ e

-- ---- the terms of a document, and of the documents of a block
module _ (d : Documents) (count i : ℕ) (p : TermPlaces) (e : p ≡ places_of d.offsets count i) where
  pub part-terms : count ≡ min (length d.components) (length d.values) → terms d i ≡ paired (take (p.to - p.from) (drop p.from d.components)) (take (p.to - p.from) (drop p.from d.values))
  part-terms C = terms-at d i count C ∙ ap (λ p. paired (take (p.to - p.from) (drop p.from d.components)) (take (p.to - p.from) (drop p.from d.values))) (sym e)

-- the same part of two slices that both reach its end has as many in each
pub part-even : {A B : Type 0} (f t : ℕ) (xs : List A) (ys : List B) → f ≤ t → t ≤ length xs → t ≤ length ys → length (take (t - f) (drop f xs)) ≡ length (take (t - f) (drop f ys))
part-even f t xs ys o h k =
    let a : length (drop f xs) ≡ length xs - f = length-drop f xs in
    let b : length (drop f ys) ≡ length ys - f = length-drop f ys in
    length-take (t - f) (drop f xs) ∙ (let z : min (t - f) (length (drop f xs)) ≡ min (t - f) (length (drop f ys)) = omega arith in z) ∙ sym (length-take (t - f) (drop f ys))

module _ (limit : ℕ) (d : Documents) where
  abbrev pub meets_document : Met → ℕ → Met
  meets_document s i = foldl (meets_below limit) s (terms d i)

  -- documents one after another are their terms one after another
  pub fold-block : (s : Met) (block : List ℕ) → foldl meets_document s block ≡ foldl meets s (below limit (joined (map (terms d) block)))
  fold-block s block = go s block ∙ fold-below limit s (joined (map (terms d) block))
    where
      go : (s : Met) (block : List ℕ) → foldl meets_document s block ≡ foldl (meets_below limit) s (joined (map (terms d) block))
      go s [] = refl
      go s (i ∷ block) = go (foldl (meets_below limit) s (terms d i)) block ∙ sym (foldl-append (meets_below limit) s (terms d i) (joined (map (terms d) block)))
