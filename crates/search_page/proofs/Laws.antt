-- The parts of a reading, place by place as the loops go.
use Rattle.std.specs.Prelude.{Some, None}
use mathlib.Core.Path.{◌≡◌, refl, sym, ap, ◌∙◌}
use mathlib.Core.List.{List, [], ◌∷◌}
use mathlib.Core.Bool.{Bool, true, false, ◌&&◌, cond}
use Prim.Native.Nat.{ℕ, ◌+◌, ◌-◌, ◌≤◌, ◌<◌, ◌%◌, min}
use native.Mathlib.Omega.{arith}
use native.Mathlib.Numerals.{add-one}
use borrow.Author.Tests.{lt-ltb, le-ltb, eq-eqb, ne_eqb, ltb-true, ltb-false, eqb-true, eqb-false}
use lib.ListN.{length, get_or, drop, set, drop_of_length-le}
use lib.Seq.{drop-cons, drop-length}
use lib.Dec.{eqb, ltb}
use lib.Ieee.{Float, nan, binary32, of_bits, add, mul}
use Rattle.sequences.specs.Lists.{every}
use Rattle.sequences.specs.Laws.Lists.{both}
use Rattle.documents.specs.Checks.{slices_hold, slices_hold_below}
use Rattle.documents.specs.Laws.Documents.{slices-even, slices-below, slices-below-none, slices-below-last}
use Rattle.documents.specs.Sought.{sought}
use Rattle.search_page.specs.declared.Scores.{Scores}
use Rattle.search_page.specs.declared.Sum.{Sum}
use Rattle.search_page.specs.Through.{laying, laid_sum, marking, sum_of, looked, stepped, through, last_fits, read_through, read_two}

-- ---- the sieve
pub marking_step : (sieve qs : List ℕ) (i : ℕ) → i < length qs → marking (set sieve (get_or qs i 0 % 4096) 1) (drop (i + 1) qs) ≡ marking sieve (drop i qs)
unfolding marking
marking_step sieve qs i h = rw (add-one i, drop-cons qs i 0 h)

pub marking-end : (sieve qs : List ℕ) (i : ℕ) → length qs ≤ i → sieve ≡ marking sieve (drop i qs)
unfolding marking
marking-end sieve qs i h = rw (drop_of_length-le qs h)

-- ---- one term
module _ (a : ℕ) (v : Float) (s : Sum) (qs : List ℕ) (ws : List Float) (k : ℕ) (e : k ≡ sought qs s.at a) where
  pub look-past : length qs ≤ k → sum_of s.total k ≡ looked qs ws a v s
  unfolding looked
  look-past h = rw (← e, le-ltb k (length qs) h)

  pub look-short : k < length qs → length ws ≤ k → sum_of s.total k ≡ looked qs ws a v s
  unfolding looked
  look-short h l = rw (← e, lt-ltb k (length qs) h, le-ltb k (length ws) l)

  pub look_hit : k < length qs → k < length ws → get_or qs k 0 ≡ a → sum_of (add binary32 s.total (mul binary32 v (get_or ws k nan))) k ≡ looked qs ws a v s
  unfolding looked
  look_hit h l f = rw (← e, lt-ltb k (length qs) h, lt-ltb k (length ws) l, eq-eqb (get_or qs k 0) a f)

  pub look-miss : k < length qs → k < length ws → (get_or qs k 0 ≡ a → ⊥) → sum_of s.total k ≡ looked qs ws a v s
  unfolding looked
  look-miss h l f = rw (← e, lt-ltb k (length qs) h, lt-ltb k (length ws) l, ne_eqb (get_or qs k 0) a f)

-- ---- terms from a place on
module _ (sieve qs : List ℕ) (ws : List Float) (cs : List ℕ) (vs : List Float) where
  abbrev pub through_from : ℕ → Sum → Sum
  through_from i s = through sieve qs ws (drop i cs) (drop i vs) s

  through-step : (i : ℕ) (s : Sum) → i < length cs → length cs ≡ length vs → through_from i s ≡ through_from (i + 1) (stepped sieve qs ws (get_or cs i 0) (get_or vs i nan) s)
  unfolding through
  through-step i s h p = let g : i < length vs = omega arith in rw (add-one i, drop-cons cs i 0 h, drop-cons vs i nan g)

  stays : (c : ℕ) (v : Float) (s : Sum) → get_or sieve (c % 4096) 0 ≡ 0 → stepped sieve qs ws c v s ≡ s
  unfolding stepped
  stays c v s z = rw (eq-eqb (get_or sieve (c % 4096) 0) 0 z)

  goes : (c : ℕ) (v : Float) (s : Sum) → (get_or sieve (c % 4096) 0 ≡ 0 → ⊥) → stepped sieve qs ws c v s ≡ looked qs ws c v s
  unfolding stepped
  goes c v s z = rw (ne_eqb (get_or sieve (c % 4096) 0) 0 z)

  pub through-skip : (i : ℕ) (s : Sum) (j : ℕ) → j ≡ i + 1 → i < length cs → length cs ≡ length vs → get_or sieve (get_or cs i 0 % 4096) 0 ≡ 0 → through_from i s ≡ through_from j s
  through-skip i s j q h p z = through-step i s h p ∙ ap (through_from (i + 1)) (stays (get_or cs i 0) (get_or vs i nan) s z) ∙ ap (λ k. through_from k s) (sym q)

  pub through-look : (i : ℕ) (s r : Sum) → i < length cs → length cs ≡ length vs → (get_or sieve (get_or cs i 0 % 4096) 0 ≡ 0 → ⊥) → r ≡ looked qs ws (get_or cs i 0) (get_or vs i nan) s → through_from i s ≡ through_from (i + 1) r
  through-look i s r h p z e = through-step i s h p ∙ ap (through_from (i + 1)) (goes (get_or cs i 0) (get_or vs i nan) s z ∙ sym e)

  pub through-four : (i : ℕ) (s : Sum) → i + 4 ≤ length cs → length cs ≡ length vs
      → get_or sieve (get_or cs i 0 % 4096) 0 ≡ 0 → get_or sieve (get_or cs (i + 1) 0 % 4096) 0 ≡ 0 → get_or sieve (get_or cs (i + 2) 0 % 4096) 0 ≡ 0 → get_or sieve (get_or cs (i + 3) 0 % 4096) 0 ≡ 0 → through_from i s ≡ through_from (i + 4) s
  through-four i s h p a b c d =
      through-skip i s (i + 1) refl (omega arith) p a
      ∙ through-skip (i + 1) s (i + 2) (omega arith) (omega arith) p b
      ∙ through-skip (i + 2) s (i + 3) (omega arith) (omega arith) p c
      ∙ through-skip (i + 3) s (i + 4) (omega arith) (omega arith) p d

  pub through-end : (s : Sum) → length cs ≡ length vs → through_from (length cs) s ≡ s
  unfolding through
  through-end s p = rw (drop-length cs)

-- ---- the table
pub put-there : (table : List Float) (c : ℕ) (w : Float) → c < 32768 → set table c w ≡ cond (ltb c 32768) (set table c w) table
put-there table c w l = rw (lt-ltb c 32768 l)

pub put-nowhere : (table : List Float) (c : ℕ) (w : Float) → 32768 ≤ c → table ≡ cond (ltb c 32768) (set table c w) table
put-nowhere table c w l = rw (le-ltb c 32768 l)

pub laying-next : (table next : List Float) (q : ℕ) (w : Float) (qs cs : List ℕ) (ws vs : List Float) → cs ≡ q ∷ qs → vs ≡ w ∷ ws → next ≡ cond (ltb q 32768) (set table q w) table → laying next qs ws ≡ laying table cs vs
unfolding laying
laying-next table next q w qs cs ws vs e f g = rw (e, f, g)

pub laying-none : (table : List Float) (qs : List ℕ) (ws : List Float) → length qs ≡ 0 → table ≡ laying table qs ws
unfolding laying
laying-none table [] ws e = refl
laying-none table (q ∷ qs) ws e = let z : ⊥ = omega arith in absurd z

pub laying-short : (table : List Float) (qs : List ℕ) (ws : List Float) → length ws ≡ 0 → table ≡ laying table qs ws
unfolding laying
laying-short table [] ws e = refl
laying-short table (q ∷ qs) [] e = refl
laying-short table (q ∷ qs) (w ∷ ws) e = let z : ⊥ = omega arith in absurd z

-- the same place by place, for whoever counts places
module _ (qs : List ℕ) (ws : List Float) where
  abbrev pub laying_from : List Float → ℕ → List Float
  laying_from table i = laying table (drop i qs) (drop i ws)

  pub laying-step : (table next : List Float) (i : ℕ) → i < length qs → i < length ws → next ≡ cond (ltb (get_or qs i 0) 32768) (set table (get_or qs i 0) (get_or ws i nan)) table → laying_from next (i + 1) ≡ laying_from table i
  unfolding laying
  laying-step table next i h g e = rw (e, add-one i, drop-cons qs i 0 h, drop-cons ws i nan g)

  pub laying-end : (table : List Float) (i : ℕ) → min (length qs) (length ws) ≤ i → laying_from table i ≡ table
  laying-end table i h = at (ltb i (length qs)) refl
    where
      at : (b : Bool) → ltb i (length qs) ≡ b → laying_from table i ≡ table
      at true e = let l = ltb-true i (length qs) e in let g : length ws ≤ i = omega arith in rw (drop_of_length-le ws g) (sym (laying-short table (drop i qs) [] refl))
      at false e = rw (drop_of_length-le qs (ltb-false i (length qs) e)) (sym (laying-none table [] (drop i ws) refl))

module _ (table : List Float) (cs : List ℕ) (vs : List Float) where
  abbrev pub laid_from : ℕ → Float → Float
  laid_from i x = laid_sum table (drop i cs) (drop i vs) x

  pub laid_next : (i : ℕ) (x y : Float) → i < length cs → length cs ≡ length vs → y ≡ add binary32 x (mul binary32 (get_or vs i nan) (get_or table (get_or cs i 0 % 32768) nan)) → laid_from i x ≡ laid_from (i + 1) y
  unfolding laid_sum
  laid_next i x y h p e = let g : i < length vs = omega arith in rw (e, add-one i, drop-cons cs i 0 h, drop-cons vs i nan g)

  pub laid_end : (i : ℕ) (x : Float) → length cs ≤ i → laid_from i x ≡ x
  unfolding laid_sum
  laid_end i x h = rw (drop_of_length-le cs h)

-- ---- the reading
pub below-even : (cs : List ℕ) (vs : List Float) → slices_hold_below 32768 cs vs ≡ true → length cs ≡ length vs
below-even cs vs h = slices-even cs vs (both (slices_hold cs vs) (every (λ c. ltb c 32768) cs) (sym (slices-below 32768 cs vs) ∙ h)).0

module _ (table : List Float) (sieve qs : List ℕ) (ws : List Float) (cs : List ℕ) (vs : List Float) where
  pub reads-laid : slices_hold_below 32768 cs vs ≡ true → (y : Float) → y ≡ laid_sum table cs vs (of_bits binary32 0) → Some y ≡ read_through table sieve qs ws cs vs
  unfolding read_through
  reads-laid h y e = rw h (ap Some e)

  pub reads : slices_hold_below 32768 cs vs ≡ false → slices_hold cs vs ≡ true → (y : Float) → y ≡ (through sieve qs ws cs vs (sum_of (of_bits binary32 0) 0)).total → Some y ≡ read_through table sieve qs ws cs vs
  unfolding read_through
  reads b h y e = rw (b, h) (ap Some e)

  pub breaks : slices_hold_below 32768 cs vs ≡ false → slices_hold cs vs ≡ false → None ≡ read_through table sieve qs ws cs vs
  unfolding read_through
  breaks b h = rw (b, h)

-- ---- two readings
module _ (table : List Float) (cs : List ℕ) (vs : List Float) (ds : List ℕ) (ws : List Float) (a b : Bool) (e : a ≡ slices_hold_below 32768 cs vs) (f : b ≡ slices_hold_below 32768 ds ws) where
  pub first-even : (a && b) ≡ true → length cs ≡ length vs
  first-even h = below-even cs vs (sym e ∙ (both a b h).0)

  pub second-even : (a && b) ≡ true → length ds ≡ length ws
  second-even h = below-even ds ws (sym f ∙ (both a b h).1)

  pub reads_two : (a && b) ≡ true → (s : Scores) → s.one ≡ laid_sum table cs vs (of_bits binary32 0) → s.two ≡ laid_sum table ds ws (of_bits binary32 0) → Some s ≡ read_two table cs vs ds ws
  unfolding read_two
  reads_two h s g i = rw (← e, ← f, h, ← g, ← i)

  pub reads-apart : (a && b) ≡ false → None ≡ read_two table cs vs ds ws
  unfolding read_two
  reads-apart h = rw (← e, ← f, h)

-- ---- where the terms hold, the last component says which way is taken
pub fits-none : (cs : List ℕ) → length cs ≡ 0 → true ≡ last_fits cs
fits-none cs e = rw (eq-eqb (length cs) 0 e)

pub fits_last : (cs : List ℕ) → (length cs ≡ 0 → ⊥) → ltb (get_or cs (length cs - 1) 0) 32768 ≡ last_fits cs
fits_last cs n = rw (ne_eqb (length cs) 0 n)

fits_below : (cs : List ℕ) (vs : List Float) → slices_hold cs vs ≡ true → slices_hold_below 32768 cs vs ≡ last_fits cs
fits_below cs vs h = at (eqb (length cs) 0) refl
  where
    at : (b : Bool) → eqb (length cs) 0 ≡ b → slices_hold_below 32768 cs vs ≡ last_fits cs
    at true e = let z = eqb-true (length cs) 0 e in slices-below-none 32768 cs vs h z ∙ fits-none cs z
    at false e = let n = eqb-false (length cs) 0 e in slices-below-last 32768 cs vs h (omega (arith, n)) ∙ fits_last cs n

module _ (table : List Float) (sieve qs : List ℕ) (ws : List Float) (cs : List ℕ) (vs : List Float) where
  pub breaks-wide : slices_hold cs vs ≡ false → None ≡ read_through table sieve qs ws cs vs
  breaks-wide h = breaks table sieve qs ws cs vs (slices-below 32768 cs vs ∙ ap (λ b. b && every (λ c. ltb c 32768) cs) h) h

  pub reads-laid-wide : slices_hold cs vs ≡ true → last_fits cs ≡ true → (y : Float) → y ≡ laid_sum table cs vs (of_bits binary32 0) → Some y ≡ read_through table sieve qs ws cs vs
  reads-laid-wide h f = reads-laid table sieve qs ws cs vs (fits_below cs vs h ∙ f)

  pub reads-wide : slices_hold cs vs ≡ true → last_fits cs ≡ false → (y : Float) → y ≡ (through sieve qs ws cs vs (sum_of (of_bits binary32 0) 0)).total → Some y ≡ read_through table sieve qs ws cs vs
  reads-wide h f = reads table sieve qs ws cs vs (fits_below cs vs h ∙ f) h
