-- The loops over keys, slots and scores, one step at a time.
use Rattle.std.specs.Prelude.{ℕ, zero, suc, ◌+◌, ◌-◌, ◌≤◌, ◌<◌, min, ◌≡◌, refl, ◌⊎◌, Bool, true, false, not, ◌&&◌, ◌||◌, cond, length, get_or, drop, T, leb, ltb, eqb, Float}
use Rattle.std.proofs.Common.{arith, add-one, sym, ap, ◌∙◌, subst, inl, inr, drop_of_length-le, length-append, drop-cons, lt-ltb, le-ltb, le-leb, ltb-true, ne_eqb}
use Rattle.std.proofs.Math.Decide.{dec_le}
use mathlib.Core.List.{List, [], ◌∷◌, ◌++◌, map, foldl}
use Rattle.std.proofs.lemmas.Bool.{lt-leb}
use Rattle.std.specs.Float.{nan, binary32}
use Rattle.std.specs.Float.Ieee.{fits}
use Rattle.float32.specs.Order.{at_most}
use Rattle.float32.specs.Laws.OrderLaws.{at_most-refl}
use Rattle.sequences.specs.Lists.{part}
use Rattle.documents.specs.declared.TermPlaces.{TermPlaces}
use Rattle.documents.specs.Documents.{Documents}
use Rattle.documents.specs.TermKeys.{component_of, term_of}
use Rattle.cluster_index.specs.Walks.{Cut}
use Rattle.cluster_index.specs.Laws.Passes.{components-of}
use Rattle.cluster_slots.specs.declared.Best.{Best}
use Rattle.cluster_slots.specs.Met.{slots_of, met, none, best, gives_way, if_better, better, from_zero}

-- ---- one slot
module _ (b : Best) (s : ℕ) (x : Float) (u v : Bool) (p : u ≡ at_most b.score x) where
  pub stays-less : u ≡ false → b ≡ if_better b s x
  stays-less h = sym (ap (λ z. cond (z && (ltb b.slot.0 s || not (at_most x b.score))) (best s x) b) (sym p ∙ h))

  by_both : u ≡ true → v ≡ at_most x b.score → if_better b s x ≡ cond (ltb b.slot.0 s || not v) (best s x) b
  by_both h q =
      ap (λ z. cond (z && (ltb b.slot.0 s || not (at_most x b.score))) (best s x) b) (sym p ∙ h)
      ∙ ap (λ z. cond (ltb b.slot.0 s || not z) (best s x) b) (sym q)

  pub gives-way : u ≡ true → v ≡ at_most x b.score → (ltb b.slot.0 s || not v) ≡ true → best s x ≡ if_better b s x
  gives-way h q k = sym (by_both h q ∙ ap (λ z. cond z (best s x) b) k)

  pub stays : u ≡ true → v ≡ at_most x b.score → (ltb b.slot.0 s || not v) ≡ false → b ≡ if_better b s x
  stays h q k = sym (by_both h q ∙ ap (λ z. cond z (best s x) b) k)

module _ (xs : List Float) (b r : Best) (s : ℕ) where
  pub better-in : s < length xs → r ≡ if_better b s (get_or xs s nan) → r ≡ better xs b s
  better-in h e = e ∙ sym (ap (λ z. cond z (if_better b s (get_or xs s nan)) b) (lt-ltb s (length xs) h))

  pub better-out : length xs ≤ s → b ≡ better xs b s
  better-out h = sym (ap (λ z. cond z (if_better b s (get_or xs s nan)) b) (le-ltb s (length xs) h))

-- ---- what a key meets, and what the keys from a place on meet
pub key-meets : (index : Documents) (k c : ℕ) (p : TermPlaces) → c ≡ component_of k → Cut index c p → part p.from (p.to - p.from) index.components ≡ slots_of index (term_of k)
key-meets index k c p e cut = sym (components-of index c p cut) ∙ ap (λ j. slots_of index (record { component = j; value = (term_of k).value })) e

met-next : (index : Documents) (ks : List ℕ) (i : ℕ) → i < length ks → met index (map term_of (drop i ks)) ≡ slots_of index (term_of (get_or ks i 0)) ++ met index (map term_of (drop (i + 1) ks))
met-next index ks i h = rw (add-one i, drop-cons ks i 0 h)

-- ---- the last slot from +0 on is among those looked at
pub from-zero-within : (xs : List Float) (n : ℕ) → from_zero xs n ≤ n
from-zero-within xs zero = omega arith
from-zero-within xs (suc n) = go (at_most none (get_or xs n nan)) (from-zero-within xs n)
  where
    go : (b : Bool) → from_zero xs n ≤ n → cond b (suc n) (from_zero xs n) ≤ suc n
    go true h = omega arith
    go false h = omega arith

-- ---- the best has the score of the start, or it is a slot with its own score
abbrev Origin : List Float → Best → Type 0
Origin xs b = (b.score ≡ none) ⊎ ((b.slot.0 < length xs) × (b.score ≡ get_or xs b.slot.0 nan))

origin : (xs : List Float) (S : List ℕ) (b : Best) → Origin xs b → Origin xs (foldl (better xs) b S)
origin xs [] b o = o
origin xs (s ∷ S) b o = origin xs S (better xs b s) (at (ltb s (length xs)) refl)
  where
    or : s < length xs → (t : Bool) → Origin xs (cond t (best s (get_or xs s nan)) b)
    or h true = inr (h, refl)
    or h false = o

    at : (t : Bool) → ltb s (length xs) ≡ t → Origin xs (cond t (if_better b s (get_or xs s nan)) b)
    at true e = or (ltb-true s (length xs) e) (gives_way b s (get_or xs s nan))
    at false e = o

none-fits : T (fits binary32 none)
unfolding fits
none-fits = tt

-- a best above +0 is a slot with its own score
pub best-above : (xs : List Float) (S : List ℕ) → let b = foldl (better xs) (best 0 none) S in at_most b.score none ≡ false → (b.slot.0 < length xs) × (b.score ≡ get_or xs b.slot.0 nan)
best-above xs S e = go (foldl (better xs) (best 0 none) S) (origin xs S (best 0 none) (inl refl)) e
  where
    go : (b : Best) → Origin xs b → at_most b.score none ≡ false → (b.slot.0 < length xs) × (b.score ≡ get_or xs b.slot.0 nan)
    go b (inl h) e = absurd (subst T (ap (λ x. at_most x none) (sym h) ∙ e) (at_most-refl none none-fits))
    go b (inr h) e = h

-- ---- scores cut to the centroids that compete
pub cut-rest : {A : Type 0} (xs : List A) (m n : ℕ) → n ≡ min m (length xs) → drop n xs ≡ drop m xs
cut-rest xs m n e = go (dec_le m (length xs))
  where
    go : Dec (m ≤ length xs) → drop n xs ≡ drop m xs
    go (yes h) = ap (λ k. drop k xs) (let z : n ≡ m = omega arith in z)
    go (no h) = drop_of_length-le xs {i = n} (omega arith) ∙ sym (drop_of_length-le xs {i = m} (omega arith))

-- ---- entries counted down
module _ (index : Documents) (ks : List ℕ) (i : ℕ) where
  met-size : (s : List ℕ) → i < length ks → s ≡ slots_of index (term_of (get_or ks i 0)) → length (met index (map term_of (drop i ks))) ≡ length s + length (met index (map term_of (drop (i + 1) ks)))
  met-size s h e =
      let rest = met index (map term_of (drop (i + 1) ks)) in
      ap length (met-next index ks i h) ∙ length-append (slots_of index (term_of (get_or ks i 0))) rest ∙ ap (λ n. length n + length rest) (sym e)

  pub many-found : (s : List ℕ) (left : ℕ) → i < length ks → s ≡ slots_of index (term_of (get_or ks i 0)) → left ≤ length s → leb left (length (met index (map term_of (drop i ks)))) ≡ true
  many-found s left h e k = let z = met-size s h e in le-leb left (length (met index (map term_of (drop i ks)))) (omega arith)

  pub many-step : (s : List ℕ) (left : ℕ) → i < length ks → s ≡ slots_of index (term_of (get_or ks i 0)) → length s < left
      → leb (left - length s) (length (met index (map term_of (drop (i + 1) ks)))) ≡ leb left (length (met index (map term_of (drop i ks))))
  many-step s left h e k = go (dec_le (left - length s) (length (met index (map term_of (drop (i + 1) ks)))))
    where
      z : length (met index (map term_of (drop i ks))) ≡ length s + length (met index (map term_of (drop (i + 1) ks)))
      z = met-size s h e

      go : Dec (left - length s ≤ length (met index (map term_of (drop (i + 1) ks)))) → leb (left - length s) (length (met index (map term_of (drop (i + 1) ks))))
          ≡ leb left (length (met index (map term_of (drop i ks))))
      go (yes y) = le-leb _ _ y ∙ sym (le-leb left (length (met index (map term_of (drop i ks)))) (omega (arith, z)))
      go (no n) =
          lt-leb (left - length s) (length (met index (map term_of (drop (i + 1) ks)))) (omega arith)
          ∙ sym (lt-leb left (length (met index (map term_of (drop i ks)))) (omega (arith, z)))

  pub many-end : (left : ℕ) → length ks ≤ i → eqb left 0 ≡ leb left (length (met index (map term_of (drop i ks))))
  many-end left h = go left ∙ sym (ap (λ l. leb left (length (met index (map term_of l)))) (drop_of_length-le ks h))
    where
      go : (n : ℕ) → eqb n 0 ≡ leb n 0
      go zero = refl
      go (suc n) = ne_eqb (suc n) 0 (λ q. omega arith) ∙ sym (lt-leb (suc n) 0 (omega arith))
