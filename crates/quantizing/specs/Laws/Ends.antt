-- Laws of Ends: the values of a list are in bound exactly where its least and its greatest are. So the pass that finds these checks the
-- bound too.
use Rattle.std.specs.Prelude.{◌≡◌, Bool, true, false, ◌&&◌, List, [], ◌∷◌, ℕ, zero, suc, ◌*◌, ◌^◌, ◌≤◌, ◌<◌, length, get_or, T, Float}
use Rattle.std.proofs.Common.{subst, le_refl, le_trans, not-le_of_lt, not-suc-le-zero, arith, leb→le, lit<}
use Rattle.std.specs.Float.{nan, inf, fin}
use Rattle.std.specs.Float.Ieee.Fits.{and_l, and_r}
use Rattle.sequences.specs.Lists.{EachOf, every}
use Rattle.float32.specs.Bound.{in_bound, Bounded}
use Rattle.float32.specs.Laws.BoundLaws.{in-bound-bounded, bounded-in-bound}
use Rattle.float32.specs.Laws.Heights.{signed_at_most, height, at-most-is}
use Rattle.float32.specs.Order.{at_most}
use Rattle.float32.specs.Laws.Tests.{is_true, yes, same_test, and_both}
use Rattle.float32.specs.Units.{one, negative}
use Rattle.quantizing.specs.Demand3.{F32s}
use Rattle.quantizing.specs.Extremes.{F32}
use Rattle.quantizing.specs.Laws.Extremes.{each-f32, each_of, least-has, greatest-has, least-low, greatest-high}
use Rattle.quantizing.specs.Quantizing.{least, greatest}
use Rattle.quantizing.specs.Ends.{Ends}

-- ---- a value between two in bound is in bound
reach : (s : Bool) (a : ℕ) (u : Bool) (x : ℕ) (t : Bool) (b top : ℕ) → T (signed_at_most s a u x) → T (signed_at_most u x t b) → a ≤ top → b ≤ top → x ≤ top
reach true a true x t b top h k p q = le_trans (leb→le x a h) p
reach false a true x t b top h k p q = absurd h
reach s a false x true b top h k p q = absurd k
reach s a false x false b top h k p q = le_trans (leb→le x b k) q

too-high : (h : ℕ) → one * 2 ^ 128 ≤ h → h ≤ one * 2 ^ 32 → ⊥
unfolding one
too-high h p q = not-le_of_lt (lit< tt) (le_trans p q)

less : (h : ℕ) → h ≤ suc h
less h = omega arith

bounded-of-height : (x : Float) → F32 x → height x ≤ one * 2 ^ 32 → Bounded x
unfolding height
bounded-of-height nan f h = absurd (too-high (suc (one * 2 ^ 128)) (less (one * 2 ^ 128)) h)
bounded-of-height (inf s) f h = absurd (too-high (one * 2 ^ 128) (le_refl (one * 2 ^ 128)) h)
bounded-of-height (fin s m e) f h = record { fit = f; fin = tt; small = h }

height-of-bounded : (x : Float) → Bounded x → height x ≤ one * 2 ^ 32
unfolding height
height-of-bounded nan b = absurd b.fin
height-of-bounded (inf s) b = absurd b.fin
height-of-bounded (fin s m e) b = b.small

between : (l x g : Float) → Bounded l → F32 x → Bounded g → T (at_most l x) → T (at_most x g) → Bounded x
between l x g L f G p q =
    bounded-of-height x f
    (reach (negative l) (height l) (negative x) (height x) (negative g) (height g) (one * 2 ^ 32)
    (subst T (at-most-is l x L.fit f) p) (subst T (at-most-is x g f G.fit) q) (height-of-bounded l L) (height-of-bounded g G))

-- ---- the test of all values
abbrev InBound : Float → Type 0
InBound x = in_bound x ≡ true

every-each : (values : List Float) → T (every in_bound values) → EachOf InBound values
every-each [] t = tt
every-each (v ∷ values) t = (is_true (in_bound v) (and_l (in_bound v) (every in_bound values) t), every-each values (and_r (in_bound v) (every in_bound values) t))

each-every : (values : List Float) → EachOf InBound values → T (every in_bound values)
each-every [] e = tt
each-every (v ∷ values) e = and_both (in_bound v) (every in_bound values) (yes (in_bound v) e.0) (each-every values e.1)

module _ (values : List Float) (l : 0 < length values) (fs : F32s values) where
  pub ends-in-bound : EachOf InBound values → InBound (least values) × InBound (greatest values)
  ends-in-bound e = (least-has InBound values l (each-f32 values fs) e, greatest-has InBound values l (each-f32 values fs) e)

  all-in-bound : InBound (least values) → InBound (greatest values) → EachOf InBound values
  all-in-bound p q =
      let least-f32 = least-has F32 values l (each-f32 values fs) (each-f32 values fs) in
      let greatest-f32 = greatest-has F32 values l (each-f32 values fs) (each-f32 values fs) in
      each_of InBound values (λ k h.
      bounded-in-bound (get_or values k nan)
      (between (least values) (get_or values k nan) (greatest values) (in-bound-bounded (least values) least-f32 p) (fs k) (in-bound-bounded (greatest values) greatest-f32 q)
      (least-low values fs k h) (greatest-high values fs k h)))

  pub every-by-ends : (in_bound (least values) && in_bound (greatest values)) ≡ every in_bound values
  every-by-ends =
      same_test (in_bound (least values) && in_bound (greatest values)) (every in_bound values)
      (λ t. each-every values (all-in-bound (is_true (in_bound (least values)) (and_l (in_bound (least values)) (in_bound (greatest values)) t)) (is_true (in_bound (greatest values))
      (and_r (in_bound (least values)) (in_bound (greatest values)) t))))
      (λ t. let e = ends-in-bound (every-each values t) in and_both (in_bound (least values)) (in_bound (greatest values)) (yes (in_bound (least values)) e.0) (yes (in_bound (greatest values)) e.1))

at : (values : List Float) → EachOf InBound values → (k : ℕ) → k < length values → InBound (get_or values k nan)
at [] e k h = absurd (not-suc-le-zero h)
at (v ∷ values) e zero h = e.0
at (v ∷ values) e (suc k) h = at values e.1 k (omega arith)

pub ends : (values : List Float) → 0 < length values → F32s values → every in_bound values ≡ true → Ends values
ends values l fs t =
    let e = every-each values (yes (every in_bound values) t) in
    let b = ends-in-bound values l fs e in
    let es = each-f32 values fs in
    record {
      lowest = in-bound-bounded (least values) (least-has F32 values l es es) b.0;
      highest = in-bound-bounded (greatest values) (greatest-has F32 values l es es) b.1;
      each = λ k h. in-bound-bounded (get_or values k nan) (fs k) (at values e k h);
      above = λ k h. least-low values fs k h;
      under = λ k h. greatest-high values fs k h;
    }
