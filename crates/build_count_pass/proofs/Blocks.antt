-- One block at a time.
use Prim.Native.Nat.{ℕ, suc, ◌+◌, ◌-◌}
use native.Mathlib.Omega.{arith}
use native.Mathlib.Numerals.{add-one}
use mathlib.Core.Path.{◌≡◌, refl, sym, ap, ◌∙◌, subst}
use mathlib.Core.Bool.{Bool, true, false, not, ◌&&◌, cond}
use mathlib.Core.List.{List, [], ◌∷◌, map, foldl}
use lib.ListN.{length, set, replicate, length-replicate}
use lib.IntN.{pos}
use lib.Seq.{sets}
use lib.Dec.{eqb}
use lib.Ieee.{Float, fin}
use borrow.Author.Tests.{eq-eqb, ne_eqb, not-true, not-false}
use Rattle.sequences.specs.Lists.{EachOf}
use Rattle.documents.specs.Documents.{Term}
use Rattle.documents.specs.TermKeys.{term_key, value_of_term}
use Rattle.documents.specs.Laws.TermKeys.{Held}
use Rattle.documents.specs.TermKeys as key
use Rattle.quantizing.specs.declared.Extent.{Extent}
use Rattle.quantizing.specs.Quantizing.{least, extent_of, step_of, step_for}
use Rattle.sparse_layout.specs.Layouts.{values, entries_of, entries_from}
use Rattle.sparse_layout.specs.Placing.{component_of}
use Rattle.sparse_layout.specs.Keys.{counted}
use Rattle.sparse_layout.specs.Laws.Written.{key-components, key-values, counted-after}
use Rattle.clearing.specs.Zeros.{zeros, float_zeros}
use Rattle.build_kept_keys.specs.Frames.{frame, place_after, frames, keys_of, kept_in}
use Rattle.build_kept_keys.specs.Laws.Frames.{frames-on}
use Rattle.build_count_pass.specs.Counting.{none_empty, full_first, counting, minimums_of, steps_of, count_left}
use Rattle.build_count_pass.specs.Turns.{Noted, noted, notes, notes_keys, Turn, noted_from, Stores, stored_from}

-- ---- the terms of some keys noted
module _ (b : ℕ) (counts ks : List ℕ) (minimums steps : List Float) where
  pub note-is : (counts' : List ℕ) (minimums' steps' : List Float) (e : Extent) (s : Float) → counts' ≡ foldl counted counts (map key.component_of ks) → e ≡ extent_of (map value_of_term ks)
      → minimums' ≡ set minimums b e.least → s ≡ step_of e.least e.greatest → steps' ≡ set steps b s
      → noted counts' minimums' steps' ≡ notes_keys b (noted counts minimums steps) ks
  note-is counts' minimums' steps' e s p q l t u =
      ap (λ c. noted c minimums' steps') p
      ∙ ap (λ m. noted (foldl counted counts (map key.component_of ks)) m steps') (l ∙ ap (λ x. set minimums b x.least) q)
      ∙ ap (noted (foldl counted counts (map key.component_of ks)) (set minimums b (least (map value_of_term ks)))) (u ∙ ap (set steps b) (t ∙ ap (λ x. step_of x.least x.greatest) q))

notes-of-keys : (b : ℕ) (n : Noted) (ts : List Term) → EachOf Held ts → notes_keys b n (map term_key ts) ≡ notes b n ts
notes-of-keys b n ts h =
    ap (λ l. noted (foldl counted n.entry_counts l) (set n.minimums b (least (map value_of_term (map term_key ts)))) (set n.steps b (step_for (map value_of_term (map term_key ts))))) (key-components b (least (values ts)) (step_for (values ts)) ts h)
    ∙ ap (λ v. noted (foldl counted n.entry_counts (map component_of (entries_of b ts))) (set n.minimums b (least v)) (set n.steps b (step_for v))) (key-values ts h)

-- ---- one block's turn
module _ (b : ℕ) (top : List Term) (n : Noted) (m : ℕ) (p : m ≡ length top) where
  pub empty-turn : m ≡ 0 → Turn b top n false n
  empty-turn e = let z : eqb (length top) 0 ≡ true = eq-eqb (length top) 0 (sym p ∙ e) in (rw z, rw z)

  pub counted-turn : (m ≡ 0 → ⊥) → EachOf Held top → (ks : List ℕ) → ks ≡ map term_key top → (n' : Noted) → n' ≡ notes_keys b n ks → Turn b top n true n'
  counted-turn e H ks k n' q = let z : eqb (length top) 0 ≡ false = ne_eqb (length top) 0 (λ w. e (p ∙ w)) in (rw z, rw z (q ∙ ap (notes_keys b n) k ∙ notes-of-keys b n top H))

-- ---- one block after another: what is left comes to the same as all
abbrev pub Rest : ℕ → List (List Term) → Noted → Bool → Noted → Type 0
Rest b tops n all end = (none_empty tops ≡ all) × (noted_from b tops n ≡ end)

module _ (b : ℕ) (top : List Term) (left tops : List (List Term)) (n : Noted) (all : Bool) (end : Noted) (e : left ≡ top ∷ tops) (R : Rest b left n all end) (r : Bool) (n' : Noted) (t : Turn b top n r n') where
  opened : Rest b (top ∷ tops) n all end
  opened = subst (λ l. Rest b l n all end) e R

  pub rest-on : not r ≡ false → Rest (b + 1) tops n' all end
  unfolding noted_from
  rest-on f =
      let z : eqb (length top) 0 ≡ false = not-true (eqb (length top) 0) (sym t.0 ∙ not-false r f) in (
        sym (ap (λ x. not x && none_empty tops) z) ∙ opened.0,
        ap (noted_from (b + 1) tops) (t.1 ∙ ap (λ x. cond x n (notes b n top)) z) ∙ sym (ap (λ x. cond x n (noted_from (b + 1) tops (notes b n top))) z) ∙ opened.1,
      )

  pub rest-stop : not r ≡ true → (false ≡ all) × (n' ≡ end)
  unfolding noted_from
  rest-stop f =
      let z : eqb (length top) 0 ≡ true = not-false (eqb (length top) 0) (sym t.0 ∙ not-true r f) in (
        sym (ap (λ x. not x && none_empty tops) z) ∙ opened.0,
        t.1 ∙ ap (λ x. cond x n (notes b n top)) z ∙ sym (ap (λ x. cond x n (noted_from (b + 1) tops (notes b n top))) z) ∙ opened.1,
      )

pub rest_end : (b : ℕ) (left : List (List Term)) (n : Noted) (all : Bool) (end : Noted) → left ≡ [] → Rest b left n all end → (true ≡ all) × (n ≡ end)
unfolding noted_from
rest_end b left n all end e R = subst (λ l. Rest b l n all end) e R

-- ---- the store
module _ (top : List Term) (at : ℕ) (store : List ℕ) (m : ℕ) (p : m ≡ length top) where
  pub empty-stores : m ≡ 0 → Stores top at store at store
  empty-stores e = let z : eqb (length top) 0 ≡ true = eq-eqb (length top) 0 (sym p ∙ e) in record { place = rw z; left = rw z }

  pub counted-stores : (m ≡ 0 → ⊥) → (ks : List ℕ) → ks ≡ map term_key top → (next : ℕ) → next ≡ place_after at (length ks) (length store) → (store' : List ℕ) → store' ≡ sets store at (frame (length store - at) ks) → Stores top at store next store'
  counted-stores e ks k next a store' b =
      let z : eqb (length top) 0 ≡ false = ne_eqb (length top) 0 (λ w. e (p ∙ w)) in
      record { place = rw z (a ∙ ap (λ k. place_after at (length k) (length store)) k); left = rw z (b ∙ ap (λ k. sets store at (frame (length store - at) k)) k) }

-- what is left to store comes to the same as all
module _ (at : ℕ) (top : List Term) (left tops : List (List Term)) (store end : List ℕ) (e : left ≡ top ∷ tops) (R : stored_from at left store ≡ end) (next : ℕ) (store' : List ℕ) (s : Stores top at store next store') (r : Bool) (t : r ≡ not (eqb (length top) 0)) where
  stored-left : (z : Bool) → eqb (length top) 0 ≡ z → sets store at (frames (length store - at) (keys_of (cond z [] (top ∷ full_first tops)))) ≡ end
  stored-left z w = sym (ap (λ x. sets store at (frames (length store - at) (keys_of (cond x [] (top ∷ full_first tops))))) w) ∙ sym (ap (λ l. stored_from at l store) e) ∙ R

  pub store-on : not r ≡ false → stored_from next tops store' ≡ end
  store-on f =
      let z : eqb (length top) 0 ≡ false = not-true (eqb (length top) 0) (sym t ∙ not-false r f) in
      frames-on store at (map term_key top) (keys_of (full_first tops)) next store' (s.place ∙ ap (λ x. cond x at (place_after at (length (map term_key top)) (length store))) z)
      (s.left ∙ ap (λ x. cond x store (sets store at (frame (length store - at) (map term_key top)))) z)
      ∙ stored-left false z

  pub store-stop : not r ≡ true → store' ≡ end
  unfolding frames
  store-stop f =
      let z : eqb (length top) 0 ≡ true = not-false (eqb (length top) 0) (sym t ∙ not-true r f) in
      s.left ∙ ap (λ x. cond x store (sets store at (frame (length store - at) (map term_key top)))) z ∙ stored-left true z

pub store-end : (at : ℕ) (left : List (List Term)) (store end : List ℕ) → left ≡ [] → stored_from at left store ≡ end → store ≡ end
unfolding frames
store-end at left store end e R = sym (ap (λ l. stored_from at l store) e) ∙ R

-- from zeros on
pub store-all : (tops : List (List Term)) (store z end : List ℕ) → z ≡ zeros store → end ≡ stored_from 0 tops z → end ≡ kept_in (full_first tops) store
unfolding kept_in
store-all tops store z end e q =
    let l = length-replicate {A = ℕ} (length store) 0 in
    q ∙ ap (stored_from 0 tops) e ∙ ap (λ n. sets (zeros store) 0 (frames n (keys_of (full_first tops)))) (let w : length (zeros store) - 0 ≡ length store = omega arith in w)

-- ---- all blocks
noted-all : (b : ℕ) (tops : List (List Term)) (n : Noted)
    → noted_from b tops n ≡ noted (foldl counted n.entry_counts (map component_of (entries_from b (full_first tops)))) (sets n.minimums b (minimums_of (full_first tops))) (sets n.steps b (steps_of (full_first tops)))
unfolding noted_from
noted-all b [] n = refl
noted-all b (t ∷ tops) n = go (ap (λ k. noted_from k tops (notes b n t)) (add-one b) ∙ noted-all (suc b) tops (notes b n t)) (eqb (length t) 0)
  where
    go : noted_from (b + 1) tops (notes b n t) ≡ noted (foldl counted (notes b n t).entry_counts (map component_of (entries_from (suc b) (full_first tops)))) (sets (notes b n t).minimums (suc b) (minimums_of (full_first tops))) (sets (notes b n t).steps (suc b) (steps_of (full_first tops)))
        → (z : Bool) → cond z n (noted_from (b + 1) tops (notes b n t)) ≡ noted (foldl counted n.entry_counts (map component_of (entries_from b (cond z [] (t ∷ (full_first tops)))))) (sets n.minimums b (minimums_of (cond z [] (t ∷ (full_first tops))))) (sets n.steps b (steps_of (cond z [] (t ∷ (full_first tops)))))
    go i true = refl
    go i false = i ∙ ap (λ l. noted l (sets (notes b n t).minimums (suc b) (minimums_of (full_first tops))) (sets (notes b n t).steps (suc b) (steps_of (full_first tops)))) (sym (counted-after n.entry_counts (entries_of b t) (entries_from (suc b) (full_first tops))))

-- the work space cleared, and the results noted from zeros on
pub left-all : (tops : List (List Term)) (k p : List ℕ) (m : List Float) (c : List ℕ) (l s : List Float) (k₁ k' p₁ p' : List ℕ) (m₁ m' : List Float) → k' ≡ zeros k₁ → length k₁ ≡ length k → p' ≡ zeros p₁ → length p₁ ≡ length p → m' ≡ float_zeros m₁ → length m₁ ≡ length m
    → (z : List ℕ) → z ≡ zeros c → (n : Noted) → n ≡ noted_from 0 tops (noted z l s) → counting k' p' m' n.entry_counts n.minimums n.steps ≡ count_left tops (counting k p m c l s)
left-all tops k p m c l s k₁ k' p₁ p' m₁ m' a b f g h i z e n q =
    ap (λ x. counting x p' m' n.entry_counts n.minimums n.steps) (a ∙ ap (λ n. replicate n 0) b)
    ∙ ap (λ x. counting (zeros k) x m' n.entry_counts n.minimums n.steps) (f ∙ ap (λ n. replicate n 0) g)
    ∙ ap (λ x. counting (zeros k) (zeros p) x n.entry_counts n.minimums n.steps) (h ∙ ap (λ n. replicate n (fin false 0 (pos 0))) i)
    ∙ ap (λ n. counting (zeros k) (zeros p) (float_zeros m) n.entry_counts n.minimums n.steps) (q ∙ ap (λ z. noted_from 0 tops (noted z l s)) e ∙ noted-all 0 tops (noted (zeros c) l s))
