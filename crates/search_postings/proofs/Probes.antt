-- The postings one after another, by the tests that were passed.
use Rattle.std.specs.Prelude.{Option, Some, None, Result, Ok, Err}
use Prim.Native.Nat.{ℕ, suc, ◌+◌, ◌-◌, ◌≤◌, ◌<◌}
use native.Mathlib.Omega.{arith}
use native.Mathlib.Numerals.{add-one}
use mathlib.Core.Path.{◌≡◌, refl, sym, ap, ◌∙◌}
use mathlib.Core.Bool.{Bool, ◌&&◌}
use mathlib.Core.List.{List, ◌∷◌}
use lib.ListN.{get_or}
use lib.Dec.{leb}
use lib.Ieee.{Float}
use borrow.Author.Tests.{leb-true}
use Rattle.sequences.specs.Lists.{from}
use Rattle.sequences.specs.Laws.Lists.{both}
use Rattle.search_postings.specs.declared.Counts.{Counts}
use Rattle.search_postings.specs.declared.RangeReading.{RangeReading}
use Rattle.search_postings.specs.declared.Next.{Next}
use Rattle.search_postings.specs.declared.Stop.{Stop}
use Rattle.search_postings.specs.Ranges.{through_table}
use Rattle.search_postings.specs.Postings.{Lends, Turned, turned, then_on, next, held_evaluate, held_probe}
use Rattle.search_postings.specs.Pairs.{read_both, went_on, both_turned, held_two, probe_rest, leads_to}
use Rattle.search_postings.proofs.Together.{two-turns, two-apart}

-- ---- postings, one after another
module _ (k : ℕ) (read : ℕ → RangeReading) (ps : List ℕ) (i e : ℕ) (c : Counts) (l : Lends) where
  abbrev probe_from : Turned
  probe_from = held_probe k read ps (from i (e - i)) c l

  pub probe-on : (t : Result Counts Stop) (m : Lends) (d : Counts) → i < e → t ≡ Ok d → turned t m ≡ held_evaluate k read (get_or ps i 0) i c l → held_probe k read ps (from (i + 1) (e - (i + 1))) d m ≡ probe_from
  unfolding held_probe
  probe-on t m d h g f = let z : e - i ≡ suc (e - (i + 1)) = omega arith in rw (z, ← f, g, add-one i)

  pub probe-stop : (t : Result Counts Stop) (m : Lends) (s : Stop) → i < e → t ≡ Err s → turned t m ≡ held_evaluate k read (get_or ps i 0) i c l → turned (Err s) m ≡ probe_from
  unfolding held_probe
  probe-stop t m s h g f = let z : e - i ≡ suc (e - (i + 1)) = omega arith in rw (z, ← f, g)

  pub probe-end : e ≤ i → turned (Ok c) l ≡ probe_from
  unfolding held_probe
  probe-end h = let z : e - i ≡ 0 = omega arith in rw z

  -- two postings, and those after them
  two_steps : (js : List ℕ) → held_probe k read ps (i ∷ suc i ∷ js) c l ≡ next (next (held_evaluate k read (get_or ps i 0) i c l) (held_evaluate k read (get_or ps (suc i) 0) (suc i))) (held_probe k read ps js)
  unfolding held_probe
  two_steps js = at (held_evaluate k read (get_or ps i 0) i c l)
    where
      at : (t : Turned) → next t (held_probe k read ps (suc i ∷ js)) ≡ next (next t (held_evaluate k read (get_or ps (suc i) 0) (suc i))) (held_probe k read ps js)
      at t = turns t.turn
        where
          turns : (u : Result Counts Stop) → then_on u t.lent (held_probe k read ps (suc i ∷ js)) ≡ next (then_on u t.lent (held_evaluate k read (get_or ps (suc i) 0) (suc i))) (held_probe k read ps js)
          turns (Ok d) = refl
          turns (Err s) = refl

  probe-two : (m : Lends) (d : Counts) → i + 2 ≤ e → went_on d m ≡ next (held_evaluate k read (get_or ps i 0) i c l) (held_evaluate k read (get_or ps (i + 1) 0) (i + 1))
      → held_probe k read ps (from (i + 2) (e - (i + 2))) d m ≡ probe_from
  probe-two m d h f =
      let z : suc (suc (e - (i + 2))) ≡ e - i = omega arith in
      let y : i + 2 ≡ suc (suc i) = omega arith in
      ap (λ o. held_probe k read ps (from o (e - (i + 2))) d m) y
      ∙ ap (λ t. next t (held_probe k read ps (from (suc (suc i)) (e - (i + 2))))) (f ∙ ap (λ o. next (held_evaluate k read (get_or ps i 0) i c l) (held_evaluate k read (get_or ps o 0) o)) (add-one i))
      ∙ sym (two_steps (from (suc (suc i)) (e - (i + 2))))
      ∙ ap (λ o. held_probe k read ps (from i o) c l) z

-- ---- a step: the two that were done together, or one after they stayed apart
module _ (k : ℕ) (table : List Float) (sieve qs : List ℕ) (ws : List Float) (cs : List ℕ) (vs : List Float) (ps : List ℕ) (narrow : Bool) (i e q : ℕ) (g : q ≡ get_or ps (i + 1) 0) (c : Counts) (l m : Lends) (b : Option Counts)
    (f : both_turned b m ≡ held_two k (read_both (narrow && leb 2 (e - i)) table cs vs l.visits (get_or ps i 0) q) (get_or ps i 0) q c l) where
  abbrev read : ℕ → RangeReading
  read = through_table table sieve qs ws cs vs

  pub step_left : (d : Counts) → b ≡ Some d → i + 2 ≤ e
  step_left d h =
      let z = leb-true 2 (e - i) (both narrow (leb 2 (e - i)) (two-turns k table sieve qs ws cs vs (narrow && leb 2 (e - i)) (get_or ps i 0) q i (i + 1) c l m b f d h).0).1 in
      omega (arith, z)

  pub step-two : (d : Counts) → b ≡ Some d → held_probe k read ps (from (i + 2) (e - (i + 2))) d m ≡ held_probe k read ps (from i (e - i)) c l
  step-two d h =
      probe-two k read ps i e c l m d (step_left d h)
      ((two-turns k table sieve qs ws cs vs (narrow && leb 2 (e - i)) (get_or ps i 0) q i (i + 1) c l m b f d h).1 ∙ ap (λ o. next (held_evaluate k read (get_or ps i 0) i c l) (held_evaluate k read o (i + 1))) g)

  module _ (h : b ≡ None) (t : Result Counts Stop) (n : Lends) (o : i < e) (r : turned t n ≡ held_evaluate k read (get_or ps i 0) i c m) where
    alone : turned t n ≡ held_evaluate k read (get_or ps i 0) i c l
    alone = r ∙ ap (held_evaluate k read (get_or ps i 0) i c) (two-apart k (get_or ps i 0) q c l m b (read_both (narrow && leb 2 (e - i)) table cs vs l.visits (get_or ps i 0) q) f h)

    pub step-one : (d : Counts) → t ≡ Ok d → held_probe k read ps (from (i + 1) (e - (i + 1))) d n ≡ held_probe k read ps (from i (e - i)) c l
    step-one d u = probe-on k read ps i e c l t n d o u alone

    pub step-stop : (s : Stop) → t ≡ Err s → (r : Result Next Stop) → r ≡ Err s → probe_rest k read ps e r n ≡ held_probe k read ps (from i (e - i)) c l
    step-stop s u r x = ap (λ z. probe_rest k read ps e z n) x ∙ probe-stop k read ps i e c l t n s o u alone

-- ---- where a step leads
module _ (k : ℕ) (read : ℕ → RangeReading) (ps : List ℕ) (e : ℕ) (s : Result Next Stop) (m : Lends) (t : Turned) (f : probe_rest k read ps e s m ≡ t) where
  pub rest-on : (n : Next) → s ≡ Ok n → held_probe k read ps (from n.next (e - n.next)) n.counts m ≡ t
  rest-on n g = ap (λ z. probe_rest k read ps e z m) (sym g) ∙ f

  pub rest-stop : (x : Stop) → s ≡ Err x → (r : Result Counts Stop) → r ≡ Err x → turned r m ≡ t
  rest-stop x g r h = ap (λ z. turned z m) h ∙ ap (λ z. probe_rest k read ps e z m) (sym g) ∙ f

pub leads-on : (e i : ℕ) (s : Result Next Stop) (n : Next) → s ≡ Ok n → i < leads_to e s → i < n.next
leads-on e i s n g h = rw g at h

pub leads-stop : (e i : ℕ) (r : Result Next Stop) (s : Stop) → r ≡ Err s → i < e → i < leads_to e r
leads-stop e i r s g h = rw g h
