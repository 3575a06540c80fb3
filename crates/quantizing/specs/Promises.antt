-- What quantizing promises, with no word on code: which answer is given when, in document 01's numbers, and what holds of every accepted
-- list.
use Rattle.std.specs.Prelude.{◌≡◌, refl, true, false, ◌⊎◌, List, ◌++◌, map, ℕ, ◌+◌, ◌-◌, ◌*◌, ◌^◌, ◌≤◌, ◌<◌, length, get_or, drop, pos, T, Float, Result, Ok, Err}
use Rattle.std.proofs.Common.{sym, ◌∙◌, subst, inl, inr, arith, get_or-append-add, get_or-drop, eq-eqb, ne_eqb, lt-ltb, le-ltb}
use Rattle.std.proofs.Math.Path.{ap}
use Rattle.std.proofs.lemmas.List.{length-map}
use Rattle.std.proofs.Math.ListN.{get_or-map, get_or-append}
use Rattle.std.specs.Float.{nan, fin, binary32}
use Rattle.std.specs.Float.Ieee.{fits, le, eq, sub, div, of_int}
use Rattle.std.specs.Float.Ieee.Fits.{and_l}
use Rattle.std.specs.Float.Ieee.Scale.{finite}
use Rattle.refusal.specs.declared.Refusal.{Refusal}
use Rattle.refusal.specs.declared.Refusal.TheVariants.{EmptySummary, WrongTerms, BufferTooShort}
use Rattle.refusal.specs.First.{first_of}
use Rattle.sequences.specs.Lists.{every}
use Rattle.float32.specs.Bound.{in_bound, Bounded}
use Rattle.float32.specs.Laws.BoundLaws.{in-bound-bounded, bounded-in-bound}
use Rattle.float32.specs.Laws.OrderLaws.{at_most-ordered, at_most-trans}
use Rattle.float32.specs.Laws.Rounded.{Near}
use Rattle.float32.specs.Rounding.{round_away, byte_of}
use Rattle.float32.specs.Sums.{Within}
use Rattle.float32.specs.Laws.Sums.{within-finite, read-back-within}
use Rattle.float32.specs.Laws.Tests.{is_true, yes}
use Rattle.float32.specs.Units.{above, below, Ordered}
use Rattle.quantizing.specs.declared.Scale.{Scale}
use Rattle.quantizing.specs.Accepted.{Quantizable}
use Rattle.quantizing.specs.Laws.Accepted.{answered}
use Rattle.quantizing.specs.Demand3.{Demand3, Drifts, F32s, allowance, least_step}
use Rattle.quantizing.specs.Laws.Drift as drift
use Rattle.quantizing.specs.Ends.{Ends}
use Rattle.quantizing.specs.Laws.Ends.{ends}
use Rattle.quantizing.specs.Quantizing.{least, greatest, step_of, code_of, read_back, step_for, codes_for, tests, left, in_numbers, by, quantized, minimum_allowed, step_allowed}
use Rattle.quantizing.specs.Laws.Steps.{step-of-bounded, step-stored}

-- ---- 0: which answer is given, and the lent codes afterwards
-- the number of a refusal on the left, the least value and the step on the right
pub record Gives (values : List Float) (lent : List ℕ) (answer : ℕ ⊎ (Float × Float)) (after : List ℕ) : Type 0 where
  pub answers : in_numbers (quantized values lent).answer ≡ answer
  pub leaves : (quantized values lent).codes ≡ after

module _ (values : List Float) (lent : List ℕ) where
  by-verdict : (v : Result (Unit {0}) Refusal) → first_of (tests values lent) ≡ v → Gives values lent (in_numbers (by v values lent).answer) (by v values lent).codes
  unfolding quantized
  by-verdict v e = record { answers = ap (λ w. in_numbers (by w values lent).answer) e; leaves = ap (λ w. (by w values lent).codes) e }

  pub refuses-none : length values ≡ 0 → Gives values lent (inl 7) lent
  refuses-none h = by-verdict (Err EmptySummary) (rw (eq-eqb (length values) 0 h))

  module _ (some : length values ≡ 0 → ⊥) where
    pub refuses-values : every in_bound values ≡ false → Gives values lent (inl 14) lent
    refuses-values h = by-verdict (Err WrongTerms) (rw (ne_eqb (length values) 0 some, h))

    module _ (bounded : every in_bound values ≡ true) where
      pub refuses-buffer : length lent < length values → Gives values lent (inl 4) lent
      refuses-buffer h = by-verdict (Err BufferTooShort) (rw (ne_eqb (length values) 0 some, bounded, lt-ltb (length lent) (length values) h))

      pub quantizes : length values ≤ length lent → Gives values lent (inr (least values, step_for values)) (codes_for values ++ drop (length values) lent)
      quantizes h = by-verdict (Ok tt) (rw (ne_eqb (length values) 0 some, bounded, le-ltb (length lent) (length values) h))

-- ---- 1: what quantizing leaves, place by place
pub record EachCode (values : List Float) (lent codes : List ℕ) (low step : Float) : Type 0 where
  pub low_is : low ≡ least values
  pub step_is : step ≡ step_of (least values) (greatest values)
  pub code : (k : ℕ) → k < length values → get_or codes k 0 ≡ code_of low step (get_or values k nan)
  pub rest : (k : ℕ) → get_or codes (length values + k) 0 ≡ get_or lent (length values + k) 0

-- the code of no value, which stands for what is past the list
nothing : (low step : Float) → code_of low step nan ≡ 0
unfolding sub div byte_of
nothing low step = refl

code_at : (low step : Float) (values : List Float) (rest : List ℕ) (k : ℕ) → k < length values → get_or (map (code_of low step) values ++ rest) k 0 ≡ code_of low step (get_or values k nan)
code_at low step values rest k h =
    let f = code_of low step in
    get_or-append (map f values) rest 0 k (subst (λ (n : ℕ). k < n) (sym (length-map values f)) h)
    ∙ ap (get_or (map f values) k) (sym (nothing low step))
    ∙ get_or-map f values k nan

past : (low step : Float) (values : List Float) (lent : List ℕ) (k : ℕ) → get_or (map (code_of low step) values ++ drop (length values) lent) (length values + k) 0 ≡ get_or lent (length values + k) 0
past low step values lent k =
    let f = code_of low step in
    ap (λ (n : ℕ). get_or (map f values ++ drop (length values) lent) (n + k) 0) (sym (length-map values f))
    ∙ get_or-append-add (map f values) (drop (length values) lent) k 0
    ∙ get_or-drop (length values) lent k 0

pub each-code : (values : List Float) (lent codes : List ℕ) (answer : Result Scale Refusal) (low step : Float) → left answer codes ≡ quantized values lent → in_numbers answer ≡ inr (low, step)
    → EachCode values lent codes low step
each-code values lent codes answer low step e s =
    let a = answered values lent codes answer low step e s in
    record {
      low_is = a.low_is;
      step_is = a.step_is;
      code = λ k h.
          ap (λ (z : List ℕ). get_or z k 0) a.codes_are ∙ code_at (least values) (step_for values) values (drop (length values) lent) k h
          ∙ ap (λ (z : Float). code_of z (step_for values) (get_or values k nan)) (sym a.low_is) ∙ ap (λ (z : Float). code_of low z (get_or values k nan)) (sym a.step_is);
      rest = λ k. ap (λ (z : List ℕ). get_or z (length values + k) 0) a.codes_are ∙ past (least values) (step_for values) values lent k;
    }

-- ---- 2: demand 3
module _ (values : List Float) (fs : F32s values) (list : Quantizable values) where
  abbrev low : Float
  low = least values

  abbrev high : Float
  high = greatest values

  abbrev step : Float
  step = step_for values

  at-ends : Ends values
  at-ends = ends values list.some fs list.in-bound

  from_low : (k : ℕ) → k < length values → Ordered low (get_or values k nan)
  from_low k h = let b = at-ends.each k h in at_most-ordered low (get_or values k nan) at-ends.lowest.fit (fs k) at-ends.lowest.fin b.fin (at-ends.above k h)

  to_high : (k : ℕ) → k < length values → Ordered (get_or values k nan) high
  to_high k h = let b = at-ends.each k h in at_most-ordered (get_or values k nan) high (fs k) at-ends.highest.fit b.fin at-ends.highest.fin (at-ends.under k h)

  pub value-drift : T (le least_step step) → (k : ℕ) → k < length values → let v = get_or values k nan in Drifts low high step v (read_back low step (code_of low step v))
  value-drift st k h =
      let v = get_or values k nan in
      let r = read_back low step (code_of low step v) in
      let b = at-ends.each k h in (
        drift.back-finite low high v at-ends.lowest at-ends.highest b (from_low k h) (to_high k h) st,
        join (above r) (below r) (above v) (below v) (allowance low high step) (drift.demand3 low high v at-ends.lowest at-ends.highest b (from_low k h) (to_high k h) st),
      )
    where
      join : (a b c d B : ℕ) → Near (8388608 * (a + d)) (8388608 * (b + c)) B → 8388608 * ((a + d - (c + b)) + (c + b - (a + d))) ≤ B
      join a b c d B n = omega arith

  -- ---- 3: a list that is built from the answer passes the test of what is stored
  pub minimum-passes : minimum_allowed low ≡ true
  minimum-passes = bounded-in-bound low at-ends.lowest

  pub step-passes : step_allowed step ≡ true
  step-passes =
      let first : Ordered low high = at_most-ordered low high at-ends.lowest.fit at-ends.highest.fit at-ends.lowest.fin at-ends.highest.fin
      (at_most-trans low (get_or values 0 nan) high at-ends.lowest.fit (fs 0) at-ends.highest.fit (at-ends.above 0 list.some) (at-ends.under 0 list.some)) in
      step-stored low high (step-of-bounded low high at-ends.lowest at-ends.highest first)

  -- ---- 4: where the step is at least 2 ^ -126 the cut to a byte is never needed: the rounded quotient is the code's number already
  pub no_cut : T (le least_step step) → (k : ℕ) → k < length values
      → let v = get_or values k nan in T (eq (round_away (div binary32 (sub binary32 v low) step)) (of_int binary32 (pos (code_of low step v))))
  no_cut st k h = drift.no_cut low high (get_or values k nan) at-ends.lowest at-ends.highest (at-ends.each k h) (from_low k h) (to_high k h) st

pub demand-3 : Demand3
demand-3 values lent codes answer low step fs e s st k h =
    let a = answered values lent codes answer low step e s in
    let c = each-code values lent codes answer low step e s in
    let v = get_or values k nan in
    let p : T (le least_step (step_for values)) = subst (λ (z : Float). T (le least_step z)) a.step_is st in
    subst (λ (n : ℕ). Drifts low (greatest values) step v (read_back low step n)) (sym (c.code k h))
    (subst (λ (z : Float). Drifts z (greatest values) step v (read_back z step (code_of z step v))) (sym a.low_is)
    (subst (λ (z : Float). Drifts (least values) (greatest values) z v (read_back (least values) z (code_of (least values) z v))) (sym a.step_is) (value-drift values fs a.list p k h)))

-- ---- 3: what is read back is finite for every code, minimum and step that a list may store, whoever wrote them: at most 2 ^ 41, in units
-- of 2 ^ -149
step-is-bounded : (step : Float) → T (fits binary32 step) → step_allowed step ≡ true → Bounded step
unfolding step_allowed
step-is-bounded step f h = in-bound-bounded step f (is_true (in_bound step) (and_l (in_bound step) (le (fin false 0 (pos 0)) step) (yes (step_allowed step) h)))

pub read-back-bound : (minimum step : Float) (code : ℕ) → T (fits binary32 minimum) → T (fits binary32 step) → minimum_allowed minimum ≡ true → step_allowed step ≡ true → code ≤ 255
    → Within (1 * 2 ^ 190) (read_back minimum step code)
read-back-bound minimum step code f g m s h = read-back-within minimum step code (in-bound-bounded minimum f m) (step-is-bounded step g s) h

pub read-back-finite : (minimum step : Float) (code : ℕ) → T (fits binary32 minimum) → T (fits binary32 step) → minimum_allowed minimum ≡ true → step_allowed step ≡ true → code ≤ 255
    → T (finite (read_back minimum step code))
read-back-finite minimum step code f g m s h = within-finite (1 * 2 ^ 190) (read_back minimum step code) (read-back-bound minimum step code f g m s h)
