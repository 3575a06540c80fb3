-- What quantizing answers and leaves, by the tests that the code makes.
use mathlib.Core.Path.{◌≡◌, sym, ap, ◌∙◌}
use Rattle.std.specs.Prelude.{Ok, Err}
use mathlib.Core.Bool.{Bool, true, false, ◌&&◌}
use mathlib.Core.List.{List, ◌++◌, map}
use Prim.Native.Nat.{ℕ, ◌≤◌, ◌<◌}
use native.Mathlib.Omega.{arith}
use lib.ListN.{length, drop}
use lib.Ieee.{Float}
use borrow.Author.Tests.{eq-eqb, ne_eqb, lt-ltb, le-ltb}
use Rattle.refusal.specs.declared.Refusal.TheVariants.{EmptySummary, WrongTerms, BufferTooShort}
use Rattle.sequences.specs.Lists.{every}
use Rattle.float32.specs.Bound.{in_bound}
use Rattle.quantizing.specs.declared.Extent.{Extent}
use Rattle.quantizing.specs.Demand3.{F32s}
use Rattle.quantizing.specs.Laws.Ends.{every-by-ends}
use Rattle.quantizing.specs.Quantizing.{least, greatest, extent_of, step_of, code_of, step_for, codes_for, scale, left, quantized}

pub no-values : (values : List Float) (codes : List ℕ) → length values ≡ 0 → left (Err EmptySummary) codes ≡ quantized values codes
unfolding quantized
no-values values codes h = let e = eq-eqb (length values) 0 h in rw e

-- the flag that the code makes of the two ends
pub flag : (values : List Float) (e : Extent) (p q : Bool) → e ≡ extent_of values → p ≡ in_bound e.least → q ≡ in_bound e.greatest → (in_bound (least values) && in_bound (greatest values)) ≡ (p && q)
flag values e p q h a b =
    ap (λ (x : Extent). in_bound x.least && in_bound x.greatest) (sym h)
    ∙ ap (λ (x : Bool). x && in_bound e.greatest) (sym a)
    ∙ ap (λ (x : Bool). p && x) (sym b)

module _ (values : List Float) (codes : List ℕ) (fs : F32s values) (some : length values ≡ 0 → ⊥) where
  ends : (in_bound (least values) && in_bound (greatest values)) ≡ every in_bound values
  ends = every-by-ends values (positive (length values) some) fs
    where
      positive : (n : ℕ) → (n ≡ 0 → ⊥) → 0 < n
      positive n h = omega arith

  pub beyond : (in_bound (least values) && in_bound (greatest values)) ≡ false → left (Err WrongTerms) codes ≡ quantized values codes
  unfolding quantized
  beyond b = let e = ne_eqb (length values) 0 some in let t : every in_bound values ≡ false = sym ends ∙ b in rw (e, t)

  module _ (b : (in_bound (least values) && in_bound (greatest values)) ≡ true) where
    pub too_short : length codes < length values → left (Err BufferTooShort) codes ≡ quantized values codes
    unfolding quantized
    too_short h =
        let e = ne_eqb (length values) 0 some in
        let t : every in_bound values ≡ true = sym ends ∙ b in
        let s = lt-ltb (length codes) (length values) h in
        rw (e, t, s)

    summed : length values ≤ length codes → left (Ok (scale (least values) (step_for values))) (codes_for values ++ drop (length values) codes) ≡ quantized values codes
    unfolding quantized
    summed h =
        let e = ne_eqb (length values) 0 some in
        let t : every in_bound values ≡ true = sym ends ∙ b in
        let s = le-ltb (length codes) (length values) h in
        rw (e, t, s)

    pub answers : (e : Extent) (step : Float) (out : List ℕ) → e ≡ extent_of values → step ≡ step_of e.least e.greatest → out ≡ map (code_of e.least step) values ++ drop (length values) codes → length values ≤ length codes
        → left (Ok (scale e.least step)) out ≡ quantized values codes
    answers e step out h s o k =
        let l : e.least ≡ least values = ap (λ (x : Extent). x.least) h in
        let t : step ≡ step_for values = s ∙ ap (λ (x : Extent). step_of x.least x.greatest) h in
        let c : out ≡ codes_for values ++ drop (length values) codes =
        o ∙ ap (λ (x : Float). map (code_of x step) values ++ drop (length values) codes) l ∙ ap (λ (x : Float). map (code_of (least values) x) values ++ drop (length values) codes) t in
        ap (λ (x : Float). left (Ok (scale x step)) out) l ∙ ap (λ (x : Float). left (Ok (scale (least values) x)) out) t ∙ ap (left (Ok (scale (least values) (step_for values)))) c ∙ summed k
