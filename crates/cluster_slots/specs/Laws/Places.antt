-- The keys that a loop has left, by the places of what they meet; and the way back over the scores, one step at a time.
use Rattle.std.specs.Prelude.{ℕ, zero, suc, ◌+◌, ◌-◌, ◌≤◌, ◌<◌, min, ◌≡◌, refl, ◌⊎◌, Bool, true, false, not, ◌&&◌, ◌||◌, cond, length, get_or, drop, T, leb, ltb, eqb, Float}
use Rattle.std.proofs.Common.{Some, None, arith, add-one, sym, ap, ◌∙◌, subst, inl, inr, drop_of_length-le, length-append, length-take, length-drop, drop-cons, lt-ltb, le-ltb, le-leb, ltb-true, ne_eqb}
use Rattle.std.proofs.Math.Decide.{dec_le}
use mathlib.Core.List.{List, [], ◌∷◌, ◌++◌, map, foldl, foldl-append}
use Rattle.std.proofs.lemmas.Bool.{lt-leb}
use Rattle.std.specs.Float.{nan, binary32}
use Rattle.std.specs.Float.Ieee.{fits}
use Rattle.float32.specs.Order.{at_most}
use Rattle.float32.specs.Laws.OrderLaws.{at_most-refl}
use Rattle.sequences.specs.Lists.{part}
use Rattle.documents.specs.declared.TermPlaces.{TermPlaces}
use Rattle.documents.specs.Documents.{Documents}
use Rattle.documents.specs.TermKeys.{component_of, term_of}
use Rattle.cluster_index.specs.Walks.{Cut}
use Rattle.cluster_index.specs.Laws.Passes.{components-of}
use Rattle.cluster_slots.specs.Met.{slots_of, met, none, from_zero, last_before}

-- ---- what the keys from a place on meet
module _ {A : Type 0} (f : A → ℕ → A) (index : Documents) (ks : List ℕ) (i : ℕ) where
  pub met-step : (c : ℕ) (p : TermPlaces) (a b : A) → i < length ks → c ≡ component_of (get_or ks i 0) → Cut index c p → b ≡ foldl f a (part p.from (p.to - p.from) index.components)
      → foldl f b (met index (map term_of (drop (i + 1) ks))) ≡ foldl f a (met index (map term_of (drop i ks)))
  met-step c p a b h e cut g =
      let rest = met index (map term_of (drop (i + 1) ks)) in
      let q = term_of (get_or ks i 0) in
      let s : part p.from (p.to - p.from) index.components ≡ slots_of index q = sym (components-of index c p cut) ∙ ap (λ k. slots_of index (record { component = k; value = q.value })) e in
      let m : slots_of index q ++ rest ≡ met index (map term_of (drop i ks)) = rw (add-one i, drop-cons ks i 0 h) in
      ap (λ z. foldl f z rest) (g ∙ ap (foldl f a) s)
      ∙ sym (foldl-append f a (slots_of index q) rest)
      ∙ ap (foldl f a) m

  pub met-end : (a : A) → length ks ≤ i → foldl f a (met index (map term_of (drop i ks))) ≡ a
  met-end a h = ap (λ l. foldl f a (met index (map term_of l))) (drop_of_length-le ks h)

-- ---- the way back to the last slot from +0 on
pub back_found : (xs : List Float) (k : ℕ) → 0 < k → at_most none (get_or xs (k - 1) nan) ≡ true → Some (record { 0 = k - 1 }) ≡ last_before (from_zero xs k)
back_found xs zero h e = absurd (let z : ⊥ = omega arith in z)
back_found xs (suc k) h e =
    let z : suc k - 1 ≡ k = omega arith in
    ap (λ n. Some (record { 0 = n })) z ∙ sym (ap (λ b. last_before (cond b (suc k) (from_zero xs k))) (ap (λ n. at_most none (get_or xs n nan)) (sym z) ∙ e))

pub back_step : (xs : List Float) (k : ℕ) → 0 < k → at_most none (get_or xs (k - 1) nan) ≡ false → from_zero xs (k - 1) ≡ from_zero xs k
back_step xs zero h e = absurd (let z : ⊥ = omega arith in z)
back_step xs (suc k) h e =
    let z : suc k - 1 ≡ k = omega arith in
    ap (from_zero xs) z ∙ sym (ap (λ b. cond b (suc k) (from_zero xs k)) (ap (λ n. at_most none (get_or xs n nan)) (sym z) ∙ e))

pub back_end : (xs : List Float) (k : ℕ) → k ≤ 0 → None ≡ last_before (from_zero xs k)
back_end xs zero h = refl
back_end xs (suc k) h = absurd (let z : ⊥ = omega arith in z)

-- ---- entries counted down
module _ (index : Documents) (ks : List ℕ) (i : ℕ) where
  met-size : (c : ℕ) (p : TermPlaces) → i < length ks → c ≡ component_of (get_or ks i 0) → Cut index c p
      → length (met index (map term_of (drop i ks))) ≡ (p.to - p.from) + length (met index (map term_of (drop (i + 1) ks)))
  met-size c p h e cut =
      let rest = met index (map term_of (drop (i + 1) ks)) in
      let q = term_of (get_or ks i 0) in
      let s : slots_of index q ≡ part p.from (p.to - p.from) index.components = ap (λ k. slots_of index (record { component = k; value = q.value })) (sym e) ∙ components-of index c p cut in
      let m : met index (map term_of (drop i ks)) ≡ slots_of index q ++ rest = rw (add-one i, drop-cons ks i 0 h) in
      let l : length (part p.from (p.to - p.from) index.components) ≡ p.to - p.from =
      length-take (p.to - p.from) (drop p.from index.components) ∙ (let z = length-drop p.from index.components in omega (arith, cut.ordered, cut.in_components)) in
      ap length m ∙ length-append (slots_of index q) rest ∙ ap (λ n. n + length rest) (ap length s ∙ l)

  pub many-found : (c : ℕ) (p : TermPlaces) (left : ℕ) → i < length ks → c ≡ component_of (get_or ks i 0) → Cut index c p → left ≤ p.to - p.from → leb left (length (met index (map term_of (drop i ks))))
      ≡ true
  many-found c p left h e cut k = let z = met-size c p h e cut in le-leb left (length (met index (map term_of (drop i ks)))) (omega arith)

  pub many-step : (c : ℕ) (p : TermPlaces) (left : ℕ) → i < length ks → c ≡ component_of (get_or ks i 0) → Cut index c p → p.to - p.from < left
      → leb (left - (p.to - p.from)) (length (met index (map term_of (drop (i + 1) ks)))) ≡ leb left (length (met index (map term_of (drop i ks))))
  many-step c p left h e cut k = go (dec_le (left - (p.to - p.from)) (length (met index (map term_of (drop (i + 1) ks)))))
    where
      z : length (met index (map term_of (drop i ks))) ≡ (p.to - p.from) + length (met index (map term_of (drop (i + 1) ks)))
      z = met-size c p h e cut

      go : Dec (left - (p.to - p.from) ≤ length (met index (map term_of (drop (i + 1) ks)))) → leb (left - (p.to - p.from)) (length (met index (map term_of (drop (i + 1) ks))))
          ≡ leb left (length (met index (map term_of (drop i ks))))
      go (yes y) = le-leb _ _ y ∙ sym (le-leb left (length (met index (map term_of (drop i ks)))) (omega (arith, z)))
      go (no n) =
          lt-leb (left - (p.to - p.from)) (length (met index (map term_of (drop (i + 1) ks)))) (omega arith)
          ∙ sym (lt-leb left (length (met index (map term_of (drop i ks)))) (omega (arith, z)))
