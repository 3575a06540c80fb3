-- Laws of Accepted: what an answer of `quantize` with a summary says of the list and of the codes that it left.
use Rattle.std.specs.Prelude.{◌≡◌, refl, Bool, true, false, ◌⊎◌, List, ◌++◌, ℕ, ◌≤◌, ◌<◌, length, drop, Float, Result, Ok, Err}
use Rattle.std.proofs.Common.{sym, ap, ◌∙◌, true≢false, inr, arith, ltb-false}
use Rattle.std.proofs.lemmas.Bool.{eqb-false, not-false}
use Rattle.refusal.specs.declared.Refusal.{Refusal}
use Rattle.refusal.specs.First.{first_of}
use Rattle.refusal.specs.Laws.First.{faultless}
use Rattle.sequences.specs.Lists.{every}
use Rattle.float32.specs.Bound.{in_bound}
use Rattle.quantizing.specs.declared.Scale.{Scale}
use Rattle.quantizing.specs.Quantizing.{least, step_for, codes_for, tests, Left, left, by, quantized, in_numbers}
use Rattle.quantizing.specs.Accepted.{Quantizable}

pub record Answered (values : List Float) (lent codes : List ℕ) (low step : Float) : Type 0 where
  pub list : Quantizable values
  pub room : length values ≤ length lent
  pub low_is : low ≡ least values
  pub step_is : step ≡ step_for values
  pub codes_are : codes ≡ codes_for values ++ drop (length values) lent

pub answered : (values : List Float) (lent codes : List ℕ) (answer : Result Scale Refusal) (low step : Float) → left answer codes ≡ quantized values lent → in_numbers answer ≡ inr (low, step)
    → Answered values lent codes low step
unfolding quantized
answered values lent codes answer low step e s = go (first_of (tests values lent)) refl e
  where
    positive : (n : ℕ) → (n ≡ 0 → ⊥) → 0 < n
    positive n h = omega arith

    go : (v : Result (Unit {0}) Refusal) → first_of (tests values lent) ≡ v → left answer codes ≡ by v values lent → Answered values lent codes low step
    go (Err r) f e = absurd (let a = ap (λ (z : Left). in_numbers z.answer) e in let z : ◌≡◌ {A = Bool} true false = cc in true≢false z)
    go (Ok tt) f e =
        let t = faultless (tests values lent) f in
        let a : ◌≡◌ {A = ℕ ⊎ (Float × Float)} (inr (low, step)) (inr (least values, step_for values)) = sym s ∙ ap (λ (z : Left). in_numbers z.answer) e in
        let p : ◌≡◌ {A = Float × Float} (low, step) (least values, step_for values) = cc in
        record {
          list = record { some = positive (length values) (eqb-false (length values) 0 t.0); in-bound = not-false (every in_bound values) t.1.0 };
          room = ltb-false (length lent) (length values) t.1.1.0;
          low_is = ap (λ (z : Float × Float). z.0) p;
          step_is = ap (λ (z : Float × Float). z.1) p;
          codes_are = ap (λ (z : Left). z.codes) e;
        }
