-- What the choice comes to by its tests, one after another.
use Rattle.std.specs.Prelude.{ℕ, zero, suc, ◌-◌, ◌≤◌, ◌<◌, min, ◌≡◌, refl, Bool, true, false, List, ◌++◌, length, get_or, take, drop, replicate, leb, Float}
use Rattle.std.proofs.Common.{arith, sym, ◌∙◌, ne_eqb, Option, Some, None}
use Rattle.std.proofs.Math.Path.{ap}
use Rattle.std.proofs.Math.Bool.{cond}
use Rattle.sequences.specs.Laws.Lists.{cut-is}
use Rattle.float32.specs.Order.{at_most}
use Rattle.documents.specs.Documents.{Term, Documents}
use Rattle.cluster_index.specs.Index.{add_terms}
use Rattle.cluster_nearest.specs.Nearest.{last_no_less}
use Rattle.number_types.specs.declared.CentroidSlot.{CentroidSlot}
use Rattle.cluster_slots.specs.declared.Best.{Best}
use Rattle.cluster_slots.specs.Met.{met, none, best_met, from_zero, last_before, none_above, chosen, clear_met, chosen_by, set_back, nearest_by_keys, scores_after}
use Rattle.cluster_slots.specs.Laws.Loops.{cut-rest, best-above, from-zero-within}

-- ---- the slot before a place
slot-before : (n : ℕ) (l : Option CentroidSlot) (s : CentroidSlot) → l ≡ last_before n → l ≡ Some s → n ≡ suc s.0
slot-before zero l s p q = absurd (let z : ◌≡◌ {A = ℕ} 0 1 = cc in let y : ⊥ = omega arith in y)
slot-before (suc n) l s p q = let e : record { 0 = n } ≡ s = cc in ap (λ z. suc z.0) e

nothing-before : (n : ℕ) (l : Option CentroidSlot) → l ≡ last_before n → l ≡ None → n ≡ 0
nothing-before zero l p q = refl
nothing-before (suc n) l p q = absurd (let z : ◌≡◌ {A = ℕ} 0 1 = cc in let y : ⊥ = omega arith in y)

-- ---- the choice
module _ (first : ℕ) (cs : List ℕ) (index : Documents) (xs : List Float) (qs : List Term) (short : length xs ≤ length cs) (b : Best) (p : b ≡ best_met index xs qs) (u : Bool) (q : u
    ≡ at_most b.score none) where
  by-test : chosen first cs index xs qs ≡ cond u (none_above first cs xs (from_zero xs (length xs))) (get_or cs b.slot.0 0)
  unfolding chosen
  by-test =
      ap (λ z. cond (at_most z.score none) (none_above first cs xs (from_zero xs (length xs))) (get_or cs z.slot.0 0)) (sym p)
      ∙ ap (λ z. cond z (none_above first cs xs (from_zero xs (length xs))) (get_or cs b.slot.0 0)) (sym q)

  -- above +0: the best slot, which has a centroid
  pub slot-within : u ≡ false → b.slot.0 < length cs
  slot-within h =
      let w : (best_met index xs qs).slot.0 < length xs = (best-above xs (met index qs) (ap (λ z. at_most z.score none) (sym p) ∙ sym q ∙ h)).0 in
      let v : b.slot.0 ≡ (best_met index xs qs).slot.0 = ap (λ z. z.slot.0) p in
      omega arith

  pub chosen-above : u ≡ false → get_or cs b.slot.0 0 ≡ chosen first cs index xs qs
  chosen-above h = sym (by-test ∙ ap (λ z. cond z (none_above first cs xs (from_zero xs (length xs))) (get_or cs b.slot.0 0)) h)

  -- else by the last slot from +0 on
  by-past : (past : ℕ) → past ≡ from_zero xs (length xs) → u ≡ true → chosen first cs index xs qs ≡ none_above first cs xs past
  by-past past k h = by-test ∙ ap (λ z. cond z (none_above first cs xs (from_zero xs (length xs))) (get_or cs b.slot.0 0)) h ∙ ap (none_above first cs xs) (sym k)

  module _ (l : Option CentroidSlot) (k : l ≡ last_before (from_zero xs (length xs))) where
    pub last_within : (s : CentroidSlot) → l ≡ Some s → s.0 < length cs
    last_within s e = let w = from-zero-within xs (length xs) in let z = slot-before (from_zero xs (length xs)) l s k e in omega arith

    pub chosen_last : u ≡ true → (s : CentroidSlot) → l ≡ Some s → get_or cs s.0 0 ≡ chosen first cs index xs qs
    chosen_last h s e =
        let z : suc s.0 ≡ from_zero xs (length xs) = sym (slot-before (from_zero xs (length xs)) l s k e) in
        let m : s.0 ≡ suc s.0 - 1 = omega arith in
        ap (λ n. get_or cs n 0) m
        ∙ sym (by-past (suc s.0) z h ∙ ap (λ t. cond t (last_no_less first cs xs) (get_or cs (suc s.0 - 1) 0)) (ne_eqb (suc s.0) 0 (λ q. omega arith)))

    pub chosen-all : u ≡ true → l ≡ None → (r : ℕ) → r ≡ last_no_less first cs xs → r ≡ chosen first cs index xs qs
    chosen-all h e r g = g ∙ sym (by-past 0 (sym (nothing-before (from_zero xs (length xs)) l k e)) h)

-- ---- by the entries met or by all scores
module _ (first : ℕ) (cs : List ℕ) (index : Documents) (xs ys zs : List Float) (qs : List Term) (p : ys ≡ add_terms index xs qs) (u : Bool) (q : u ≡ leb (length ys) (length (met index qs)))
    (r : ℕ) where
  pub by_all : u ≡ true → r ≡ last_no_less first cs ys → zs ≡ replicate (length ys) none → (r ≡ chosen_by first cs index (add_terms index xs qs) qs) × (zs ≡ set_back index (add_terms index xs qs) qs)
  by_all h e f = (
    e ∙ sym (ap (λ t. cond t (last_no_less first cs ys) (chosen first cs index ys qs)) (sym q ∙ h)) ∙ ap (λ l. chosen_by first cs index l qs) p,
    f ∙ sym (ap (λ t. cond t (replicate (length ys) none) (clear_met index ys qs)) (sym q ∙ h)) ∙ ap (λ l. set_back index l qs) p,
  )

  pub by-met : u ≡ false → r ≡ chosen first cs index ys qs → zs ≡ clear_met index ys qs → (r ≡ chosen_by first cs index (add_terms index xs qs) qs) × (zs ≡ set_back index (add_terms index xs qs) qs)
  by-met h e f = (
    e ∙ sym (ap (λ t. cond t (last_no_less first cs ys) (chosen first cs index ys qs)) (sym q ∙ h)) ∙ ap (λ l. chosen_by first cs index l qs) p,
    f ∙ sym (ap (λ t. cond t (replicate (length ys) none) (clear_met index ys qs)) (sym q ∙ h)) ∙ ap (λ l. set_back index l qs) p,
  )

-- ---- cut to the centroids that compete
pub by_part : (first : ℕ) (cs : List ℕ) (index : Documents) (xs ys : List Float) (qs : List Term) (n r : ℕ) → n ≡ min (length cs) (length xs)
    → (r ≡ chosen_by first cs index (add_terms index (take n xs) qs) qs) × (ys ≡ set_back index (add_terms index (take n xs) qs) qs)
    → (r ≡ nearest_by_keys first cs index xs qs) × (ys ++ drop n xs ≡ scores_after cs index xs qs)
unfolding nearest_by_keys scores_after
by_part first cs index xs ys qs n r e p =
    let c : take n xs ≡ take (length cs) xs = cut-is xs (length cs) n e in
    let d : drop n xs ≡ drop (length cs) xs = cut-rest xs (length cs) n e in
    (p.0 ∙ ap (λ l. chosen_by first cs index (add_terms index l qs) qs) c, λ j. (p.1 ∙ ap (λ l. set_back index (add_terms index l qs) qs) c) j ++ d j)
