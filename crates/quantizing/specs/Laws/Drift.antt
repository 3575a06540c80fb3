-- One value through the six roundings, numbered as they come: its code needs no cut, and read back it is as near as demand 3 asks.
use Rattle.std.specs.Prelude.{◌≡◌, refl, ◌⊎◌, Bool, true, pos, Float}
use Rattle.std.proofs.Common.{sym, ◌∙◌, inl, inr, le_refl, le_trans, le_of_eq, lt_of_lt_of_le, mul-le-mul_right, mul_right_comm, mul-one, one-mul, mul-pos, div-lt_iff_lt-mul, lit<, lit≤}
use Rattle.std.proofs.Math.Path.{ap, subst}
use Prim.Native.Nat.{ℕ, ◌+◌, ◌*◌, ◌/◌, ◌^◌, ◌≤◌, ◌<◌, min, max}
use native.Mathlib.Omega.{arith}
use Rattle.std.proofs.Math.Bool.{false}
use Rattle.std.proofs.Math.Dec.{T}
use Rattle.std.specs.Float.Ieee.{binary32, round, sub, mul, div, le, eq, of_int, unlike}
use Rattle.std.specs.Float.Ieee.Exact.{HasValue}
use Rattle.std.specs.Float.Ieee.Fits.{div-fits}
use Rattle.std.specs.Float.Ieee.Scale.{finite}
use Rattle.float32.specs.Bound.{Bounded}
use Rattle.float32.specs.Laws.Operations.{mul-by, div-by, add-by, int-value}
use Rattle.float32.specs.Laws.Quotients.{quot, quot-near, quot_le, quot-zero, pow_room}
use Rattle.float32.specs.Laws.Rounded.{Near}
use Rattle.float32.specs.Rounding.{round_away}
use Rattle.float32.specs.Laws.RoundedUnits.{Whole, round-value, round-units}
use Rattle.float32.specs.Laws.UnitSums.{Sum, Diff, sum-units, sub-units, wide}
use Rattle.float32.specs.Units.{one, negative, mag, over, under, above, below, Ordered}
use Rattle.float32.specs.Laws.Units.{one-pos, one-large, mag_of, sign_of, value_of}
use Rattle.quantizing.specs.Laws.Chain as chain
use Rattle.quantizing.specs.Laws.Chain.{between, through, part, whole-diff}
use Rattle.quantizing.specs.Demand3.{least_step, allowance}
use Rattle.quantizing.specs.Quantizing.{step_of, code_of, read_back}
use Rattle.quantizing.specs.Laws.Steps.{Step, finite-of, step-of-bounded, gap, sign-back}
use Rattle.quantizing.specs.Laws.Nearest.{large, Half, half_of, nearest_to, byte-of, whole-value, equal-values}

-- 256 and less, in units
quotient-room : (a s : ℕ) → a ≤ 256 * s → a * one ≤ 2 ^ 157 * s
unfolding one
quotient-room a s h = le_trans (mul-le-mul_right (2 ^ 149) h) (le_of_eq (mul_right_comm 256 s (2 ^ 149)))

-- a number of n units is above zero or below it
in_all : (s : Bool) (n : ℕ) → over s n + under s n ≡ n
in_all true n = omega arith
in_all false n = omega arith

one_side : (s : Bool) (n : ℕ) → (over s n ≡ 0) ⊎ (under s n ≡ 0)
one_side true n = inl refl
one_side false n = inr refl

module _ (l g v : Float) (l-bounded : Bounded l) (g-bounded : Bounded g) (v-bounded : Bounded v) (l-v : Ordered l v) (v-g : Ordered v g) (enough : T (le least_step (step_of l g))) where
  step : Step l g
  step = step-of-bounded l g l-bounded g-bounded (through (above l) (below l) (above v) (below v) (above g) (below g) l-v v-g)

  -- 1: greatest - least, rounded
  abbrev spread : Diff (gap l g) (sub binary32 g l)
  spread = step.difference

  -- 2: the step, rounded, in units; it has 24 digits, since it is 2 ^ -126 at least
  abbrev step_size : ℕ
  step_size = quot spread.size 1 255

  step-large : 8388608 ≤ step_size
  step-large = (large (step_of l g) (unlike spread.sign false) step_size step.value enough).1

  step-positive : 0 < step_size
  step-positive = lt_of_lt_of_le (lit< tt) step-large

  step_value : HasValue (step_of l g) false step_size one
  step_value = subst (λ (b : Bool). HasValue (step_of l g) b step_size one) (large (step_of l g) (unlike spread.sign false) step_size step.value enough).0 step.value

  step-near : Near (16777216 * (step_size * 255)) (16777216 * spread.size) (255 * step_size)
  step-near = subst (λ (z : ℕ). Near (16777216 * (step_size * 255)) (16777216 * z) (255 * step_size)) (mul-one spread.size) (quot-near spread.size 1 255 step_size (lit< tt) (le_refl step_size)
      step-large)

  -- 3: value - least, rounded
  offset : Diff (gap l v) (sub binary32 v l)
  offset = sub-units v l v-bounded l-bounded l-v

  offset-small : 16777216 * offset.size ≤ 4278191355 * step_size
  offset-small = chain.offset-small (gap l g) (gap l v) spread.size offset.size step_size (part (above l) (below l) (above v) (below v) (above g) (below g) l-v v-g) spread.near step-near
      offset.near

  -- 4: offset / step, rounded, in units
  quotient : ℕ
  quotient = quot offset.size one step_size

  quotient-value : HasValue (div binary32 (sub binary32 v l) (step_of l g)) (unlike offset.sign false) quotient one
  unfolding quotient
  quotient-value =
      subst (λ (z : Float). HasValue z (unlike offset.sign false) (quot offset.size one step_size) one)
      (sym (div-by binary32 (sub binary32 v l) (step_of l g) offset.sign false offset.size one step_size one one-pos one-pos step-positive offset.value step_value))
      (round-value (unlike offset.sign false) (offset.size * one) (step_size * one) (pow_room (quot offset.size one step_size) 157 (quot_le offset.size one step_size 157 step-positive
      (quotient-room offset.size step_size (trim offset.size step_size offset-small))) (lit< tt)))
    where
      trim : (x s : ℕ) → 16777216 * x ≤ 4278191355 * s → x ≤ 256 * s
      trim x s h = omega arith

  -- to the nearest whole number, which is exact
  code : ℕ
  code = nearest_to quotient

  quotient-near : (m : ℕ) → quotient ≤ m → 8388608 ≤ m → Near (16777216 * (quotient * step_size)) (16777216 * (offset.size * one)) (step_size * m)
  unfolding quotient
  quotient-near m h k = quot-near offset.size one step_size m step-positive h k

  code-near : Half quotient code
  unfolding code
  code-near = half_of quotient

  code-small : code ≤ 255
  code-small = chain.code-small offset.size step_size one quotient step-positive one-large offset-small quotient-near code code-near.0 code-near.1

  code_is : code_of l (step_of l g) v ≡ code
  unfolding code quotient
  code_is =
      byte-of (div binary32 (sub binary32 v l) (step_of l g)) (unlike offset.sign false) quotient (div-fits binary32 (sub binary32 v l) (step_of l g)) quotient-value (λ t. quot-zero offset.size
      one step_size step-positive (offset.zero_if (sign-back offset.sign t)))
      ∙ least code code-small
    where
      least : (c : ℕ) → c ≤ 255 → min c 255 ≡ c
      least c h = omega arith

  -- 5: code x step, rounded
  product : Whole (code * step_size) false (mul binary32 (of_int binary32 (pos code)) (step_of l g))
  product =
      subst (Whole (code * step_size) false)
      (sym (mul-by binary32 (of_int binary32 (pos code)) (step_of l g) false false code 1 step_size one (lit< tt) one-pos (int-value code (le_trans code-small (lit≤ tt))) step_value
      ∙ ap (λ (z : ℕ). round binary32 false (code * step_size) z) (one-mul one)))
      (round-units false (code * step_size) (fit code step_size one spread.size code-small step.narrow step-near))
    where
      fit : (c s o x : ℕ) → c ≤ 255 → x ≤ o * 2 ^ 34 → Near (16777216 * (s * 255)) (16777216 * x) (255 * s) → c * s ≤ o * 2 ^ 101
      fit c s o x h k n =
          let e : c * s ≤ 255 * s = mul-le-mul_right s h in
          let y : s ≤ x = omega arith in
          omega arith

  product-near : Near (33554432 * product.size) (33554432 * (gap l v)) (16777216 * step_size + 1536 * step_size)
  product-near = chain.product-near offset.size step_size one quotient step-positive one-large offset-small quotient-near code code-near.0 code-near.1 (gap l v) product.size offset.near
      product.near

  -- 6: product + least, rounded
  total : Sum false (negative l) product.size (mag l) (read_back l (step_of l g) code)
  total =
      subst (Sum false (negative l) product.size (mag l))
      (sym (add-by binary32 (mul binary32 (of_int binary32 (pos code)) (step_of l g)) l false (negative l) product.size (mag l) one one-pos product.value (value_of l l-bounded.fit
      l-bounded.fin)))
      (sum-units false (negative l) product.size (mag l) (fit product.size code step_size one spread.size code-small step.narrow step-near product.near)
      (wide one (mag l) l-bounded.small))
    where
      fit : (q c s o x : ℕ) → c ≤ 255 → x ≤ o * 2 ^ 34 → Near (16777216 * (s * 255)) (16777216 * x) (255 * s) → Near (16777216 * q) (16777216 * (c * s)) q → q ≤ o * 2 ^ 100
      fit q c s o x h k n m =
          let e : c * s ≤ 255 * s = mul-le-mul_right s h in
          let y : s ≤ x = omega arith in
          let w : q ≤ 2 * (c * s) = omega arith in
          omega arith

  at_code : Near (8388608 * (above (read_back l (step_of l g) code) + below v)) (8388608 * (below (read_back l (step_of l g) code) + above v)) (allowance l g (step_of l g))
  at_code =
      let r = read_back l (step_of l g) code in
      let u = total.sign in
      let R = total.size in
      let m : above v + below v ≤ max (mag l) (mag g) =
      subst (λ (k : ℕ). above v + below v ≤ max k (mag g)) (in_all (negative l) (mag l))
      (subst (λ (k : ℕ). above v + below v ≤ max (above l + below l) k) (in_all (negative g) (mag g))
      (between (above l) (below l) (above v) (below v) (above g) (below g) l-v v-g (one_side (negative v) (mag v)))) in
      let n : Near (16777216 * (over u R + below l)) (16777216 * (under u R + (product.size + above l))) (over u R + under u R) = tidy (over u R) (under u R) (below l) product.size (above l) R
      (in_all u R) total.near in
      let f = chain.final (gap l v) product.size step_size (above v) (below v) (above l) (below l) (over u R) (under u R) (max (mag l) (mag g)) product-near (whole-diff (above l) (below l) (above v)
      (below v) l-v) m n (one_side u R) in
      let eu : negative r ≡ u = sign_of r u R total.value in
      let er : mag r ≡ R = mag_of r u R total.value in
      let es : mag (step_of l g) ≡ step_size = mag_of (step_of l g) false step_size step_value in
      subst (λ (k : ℕ). Near (8388608 * (above r + below v)) (8388608 * (below r + above v)) (4194304 * k + 512 * k + max (mag l) (mag g))) (sym es)
      (subst (λ (b : Bool). Near (8388608 * (over b (mag r) + below v)) (8388608 * (under b (mag r) + above v)) (4194304 * step_size + 512 * step_size + max (mag l) (mag g))) (sym eu)
      (subst (λ (k : ℕ). Near (8388608 * (over u k + below v)) (8388608 * (under u k + above v)) (4194304 * step_size + 512 * step_size + max (mag l) (mag g))) (sym er) f))
    where
      tidy : (rp rm lm q lp R : ℕ) → rp + rm ≡ R → Near (16777216 * (rp + (0 + lm))) (16777216 * (rm + (q + lp))) R → Near (16777216 * (rp + lm)) (16777216 * (rm + (q + lp))) (rp + rm)
      tidy rp rm lm q lp R e h = omega arith

  -- 8388608 is 2 ^ 23, so this is |r - v| ≤ step / 2 + step / 16384 + max(|l|, |g|) / 2 ^ 23, times 2 ^ 23, in units of 2 ^ -149
  pub demand3 : Near (8388608 * (above (read_back l (step_of l g) (code_of l (step_of l g) v)) + below v)) (8388608 * (below (read_back l (step_of l g) (code_of l (step_of l g) v)) + above v))
      (allowance l g (step_of l g))
  demand3 = subst (λ (c : ℕ). Near (8388608 * (above (read_back l (step_of l g) c) + below v)) (8388608 * (below (read_back l (step_of l g) c) + above v)) (allowance l g (step_of l g))) (sym code_is)
      at_code

  pub back-finite : T (finite (read_back l (step_of l g) (code_of l (step_of l g) v)))
  back-finite = subst (λ (c : ℕ). T (finite (read_back l (step_of l g) c))) (sym code_is) (finite-of (read_back l (step_of l g) code) total.sign total.size total.value)

  -- the whole number nearest to the quotient is the code already: the cut to a byte changes nothing
  pub no_cut : T (eq (round_away (div binary32 (sub binary32 v l) (step_of l g))) (of_int binary32 (pos (code_of l (step_of l g) v))))
  unfolding code quotient
  no_cut =
      let q = div binary32 (sub binary32 v l) (step_of l g) in
      let s = unlike offset.sign false in
      subst (λ (c : ℕ). T (eq (round_away q) (of_int binary32 (pos c)))) (sym code_is)
      (equal-values (round_away q) (of_int binary32 (pos code)) s code (whole-value q s quotient (div-fits binary32 (sub binary32 v l) (step_of l g)) quotient-value)
      (int-value code (le_trans code-small (lit≤ tt)))
      (λ t. zero-code (quot-zero offset.size one step_size step-positive (offset.zero_if (sign-back offset.sign t)))))
    where
      zero-code : quotient ≡ 0 → code ≡ 0
      zero-code h = ap nearest_to h ∙ half one one-pos
        where
          half : (o : ℕ) → 0 < o → (2 * 0 + o) / (2 * o) ≡ 0
          half o p = let w : (2 * 0 + o) / (2 * o) < 1 = (div-lt_iff_lt-mul (mul-pos (lit< tt) p)).1 (omega arith) in omega arith
