-- The comparisons `lt` and `eq` of numbers, which hold -0 and +0 equal, beside the total order, which does not.
use Rattle.std.specs.Prelude.{◌≡◌, ℕ, ◌+◌, ◌*◌, ◌^◌, ◌<◌, Bool, true, false, not, ◌&&◌, ◌||◌, T, ◌⊎◌, pos, ◌==◌, ◌≢◌, nat_le, nat_lt, refl, Float}
use Rattle.std.proofs.Common.{sym, ap, ◌∙◌, subst, inl, inr, le_refl, le_of_lt, mul-pos, arith, ltb→lt, lt→ltb, eqb→eq, lit<, ltb-true, ltb-false, lt-ltb, le-ltb, le-leb, eqb-true, eq-eqb, ne_eqb}
use Rattle.std.specs.Bool.{beq}
use Rattle.std.specs.Float.Ieee.Fits.{and_l, and_r}
use Rattle.std.specs.Float.{nan, inf, fin, binary32}
use Rattle.std.specs.Float.Ieee.{lt, eq, below, level, fits, is_nan}
use Rattle.std.proofs.lemmas.Bool.{lt-leb, eqb-false}
use Rattle.sequences.specs.Laws.Lists.{decide, eqb_swap as flipped}
use Rattle.float32.specs.Laws.Tests.{yes, is_true, is_false, or_split}
use Rattle.float32.specs.Units.{one, negative, mag}
use Rattle.float32.specs.Laws.Units.{one-pos}
use Rattle.float32.specs.Order.{at_most}
use Rattle.float32.specs.Laws.Heights.{signed_at_most, height, at-most-is, lt-units, eq-units, mag-lt}
use Rattle.float32.specs.Laws.OrderLaws.{unique, at_most-refl, at_most-total}

-- ---- by sign and height
infinite : ℕ
infinite = one * 2 ^ 128

infinite-pos : 0 < infinite
unfolding infinite
infinite-pos = mul-pos one-pos (lit< tt)

any_sum : (a b : ℕ) → 0 < a → nat_lt 0 (a + b) ≡ true
any_sum a b h = lt-ltb 0 (a + b) (omega arith)

any-sum' : (a b : ℕ) → 0 < b → nat_lt 0 (a + b) ≡ true
any-sum' a b h = lt-ltb 0 (a + b) (omega arith)

pub lt-is : (x y : Float) → T (fits binary32 x) → T (fits binary32 y) → T (not (is_nan x)) → T (not (is_nan y)) → lt x y ≡ below (negative x) (height x) (negative y) (height y)
unfolding lt is_nan height infinite
lt-is nan y f g p q = absurd p
lt-is (inf s) nan f g p q = absurd q
lt-is (inf true) (inf true) f g p q = sym (le-ltb infinite infinite (le_refl infinite))
lt-is (inf true) (inf false) f g p q = sym (any_sum infinite infinite infinite-pos)
lt-is (inf false) (inf true) f g p q = refl
lt-is (inf false) (inf false) f g p q = sym (le-ltb infinite infinite (le_refl infinite))
lt-is (inf true) (fin true n d) f g p q = sym (lt-ltb (mag (fin true n d)) infinite (mag-lt true n d g))
lt-is (inf true) (fin false n d) f g p q = sym (any_sum infinite (mag (fin false n d)) infinite-pos)
lt-is (inf false) (fin true n d) f g p q = refl
lt-is (inf false) (fin false n d) f g p q = sym (le-ltb infinite (mag (fin false n d)) (le_of_lt (mag-lt false n d g)))
lt-is (fin s m e) nan f g p q = absurd q
lt-is (fin true m e) (inf true) f g p q = sym (le-ltb infinite (mag (fin true m e)) (le_of_lt (mag-lt true m e f)))
lt-is (fin true m e) (inf false) f g p q = sym (any-sum' (mag (fin true m e)) infinite infinite-pos)
lt-is (fin false m e) (inf true) f g p q = refl
lt-is (fin false m e) (inf false) f g p q = sym (lt-ltb (mag (fin false m e)) infinite (mag-lt false m e f))
lt-is (fin s m e) (fin t n d) f g p q = lt-units s t m n e d f g

less-differs : (a b : ℕ) → a < b → a ≢ b
less-differs a b h e = omega arith

apart : (a b : ℕ) (z : Bool) → (a ≢ b) → false ≡ (a == b && z)
apart a b z h = rw (ne_eqb a b h)

pub eq_is : (x y : Float) → T (fits binary32 x) → T (fits binary32 y) → T (not (is_nan x)) → T (not (is_nan y)) → eq x y ≡ level (negative x) (height x) (negative y) (height y)
unfolding eq is_nan height infinite
eq_is nan y f g p q = absurd p
eq_is (inf s) nan f g p q = absurd q
eq_is (inf s) (inf t) f g p q = rw (eq-eqb infinite infinite refl, ne_eqb infinite 0 (λ e. less-differs 0 infinite infinite-pos (sym e))) (sym (or-false (beq s t)))
  where
    or-false : (b : Bool) → (b || false) ≡ b
    or-false true = refl
    or-false false = refl
eq_is (inf s) (fin t n d) f g p q = apart infinite (mag (fin t n d)) (beq s t || infinite == 0) (λ e. less-differs (mag (fin t n d)) infinite (mag-lt t n d g) (sym e))
eq_is (fin s m e) nan f g p q = absurd q
eq_is (fin s m e) (inf t) f g p q = apart (mag (fin s m e)) infinite (beq s t || mag (fin s m e) == 0) (λ i. less-differs (mag (fin s m e)) infinite (mag-lt s m e f) i)
eq_is (fin s m e) (fin t n d) f g p q = eq-units s t m n e d f g

-- ---- the order and the comparisons of numbers
strictly : (a b : ℕ) → nat_lt a b ≡ (not (nat_le b a) && not (a == b && true))
strictly a b = elim (decide (nat_lt a b)) [
  | inl e ↦ let h = ltb-true a b e in rw (e, lt-leb b a h, ne_eqb a b (less-differs a b h))
  | inr e ↦ rw (e, le-leb b a (ltb-false a b e))
]

both_zero : (a b : ℕ) → nat_lt 0 (a + b) ≡ not (a == b && a == 0)
both_zero a b = elim (decide (a == b)) [
  | inl e ↦ let h = eqb-true a b e in elim (decide (a == 0)) [
    | inl z ↦ rw (e, z) (le-ltb 0 (a + b) (let k = eqb-true a 0 z in omega arith))
    | inr z ↦ rw (e, z) (any_sum a b (nonzero a (eqb-false a 0 z)))
  ]
  | inr e ↦ rw e (lt-ltb 0 (a + b) (unequal a b (eqb-false a b e)))
]
  where
    nonzero : (a : ℕ) → (a ≢ 0) → 0 < a
    nonzero a h = omega arith

    unequal : (a b : ℕ) → (a ≢ b) → 0 < a + b
    unequal a b h = omega arith

below_by : (s : Bool) (a : ℕ) (t : Bool) (b : ℕ) → below s a t b ≡ (not (signed_at_most t b s a) && not (level s a t b))
below_by true a true b = strictly b a ∙ ap (λ z. not (nat_le a b) && not (z && true)) (flipped b a)
below_by true a false b = both_zero a b
below_by false a true b = refl
below_by false a false b = strictly a b

-- x < y exactly when y does not stand at x or before it, but for zeros of different sign
pub lt-by-order : (x y : Float) → T (fits binary32 x) → T (fits binary32 y) → T (not (is_nan x)) → T (not (is_nan y)) → lt x y ≡ (not (at_most y x) && not (eq x y))
lt-by-order x y f g p q =
    lt-is x y f g p q ∙ below_by (negative x) (height x) (negative y) (height y)
    ∙ sym (ap (λ z. not z && not (eq x y)) (at-most-is y x g f) ∙ ap (λ z. not (signed_at_most (negative y) (height y) (negative x) (height x)) && not z) (eq_is x y f g p q))

-- what is less stands before
pub lt-at-most : (x y : Float) → T (fits binary32 x) → T (fits binary32 y) → T (not (is_nan x)) → T (not (is_nan y)) → T (lt x y) → T (at_most x y)
lt-at-most x y f g p q h = elim (at_most-total x y f g) [
  | inl t ↦ t
  | inr t ↦ absurd (no_less (at_most y x) (not (eq x y)) t (subst T (lt-by-order x y f g p q) h))
]
  where
    no_less : (a b : Bool) → T a → T (not a && b) → ⊥
    no_less true b t u = u
    no_less false b t u = t

-- equal values are the same, or both are zeros
level-either : (s : Bool) (a : ℕ) (t : Bool) (b : ℕ) → T (level s a t b) → ((s ≡ t) × (a ≡ b)) ⊎ ((a ≡ 0) × (b ≡ 0))
level-either s a t b h =
    let e = eqb→eq a b (and_l (a == b) (beq s t || a == 0) h) in
    elim (or_split (beq s t) (a == 0) (and_r (a == b) (beq s t || a == 0) h)) [
      | inl k ↦ inl (like s t k, e)
      | inr k ↦ let z = eqb→eq a 0 k in inr (z, sym e ∙ z)
    ]
  where
    like : (s t : Bool) → T (beq s t) → s ≡ t
    like true true k = refl
    like true false k = absurd k
    like false true k = absurd k
    like false false k = refl

abbrev pub zero_of : Bool → Float
zero_of s = fin s 0 (pos 0)

pub zero-fits : (s : Bool) → T (fits binary32 (zero_of s))
unfolding fits
zero-fits s = tt

zero-height : (s : Bool) → height (zero_of s) ≡ 0
unfolding height mag one
zero-height s = refl

pub eq-either : (x y : Float) → T (fits binary32 x) → T (fits binary32 y) → T (not (is_nan x)) → T (not (is_nan y)) → T (eq x y) → (x ≡ y) ⊎ ((x ≡ zero_of (negative x)) × (y ≡ zero_of (negative y)))
eq-either x y f g p q h = elim (level-either (negative x) (height x) (negative y) (height y) (subst T (eq_is x y f g p q) h)) [
  | inl e ↦ inl (unique x y f g e.0 e.1)
  | inr z ↦ inr (
    unique x (zero_of (negative x)) f (zero-fits (negative x)) refl (z.0 ∙ sym (zero-height (negative x))),
    unique y (zero_of (negative y)) g (zero-fits (negative y)) refl (z.1
        ∙ sym (zero-height (negative y))),
  )
]

pub zeros_equal : (s t : Bool) → eq (zero_of s) (zero_of t) ≡ true
unfolding eq
zeros_equal true true = refl
zeros_equal true false = refl
zeros_equal false true = refl
zeros_equal false false = refl

-- ---- `lt` as an order of its own
pub lt-numbers : (x y : Float) → T (lt x y) → T (not (is_nan x)) × T (not (is_nan y))
unfolding lt is_nan
lt-numbers nan y h = absurd h
lt-numbers (inf s) nan h = absurd h
lt-numbers (inf s) (inf t) h = (tt, tt)
lt-numbers (inf s) (fin t n d) h = (tt, tt)
lt-numbers (fin s m e) nan h = absurd h
lt-numbers (fin s m e) (inf t) h = (tt, tt)
lt-numbers (fin s m e) (fin t n d) h = (tt, tt)

below-trans : (s : Bool) (a : ℕ) (t : Bool) (b : ℕ) (u : Bool) (c : ℕ) → T (below s a t b) → T (below t b u c) → T (below s a u c)
below-trans true a true b true c h k = lt→ltb c a (omega (arith, ltb→lt b a h, ltb→lt c b k))
below-trans true a true b false c h k = lt→ltb 0 (a + c) (omega (arith, ltb→lt b a h))
below-trans true a false b true c h k = absurd k
below-trans true a false b false c h k = lt→ltb 0 (a + c) (omega (arith, ltb→lt b c k))
below-trans false a true b u c h k = absurd h
below-trans false a false b true c h k = absurd k
below-trans false a false b false c h k = lt→ltb a c (omega (arith, ltb→lt a b h, ltb→lt b c k))

pub lt_trans : (x y z : Float) → T (fits binary32 x) → T (fits binary32 y) → T (fits binary32 z) → T (lt x y) → T (lt y z) → T (lt x z)
lt_trans x y z f g i h k =
    let p = lt-numbers x y h in
    let q = lt-numbers y z k in
    subst T (sym (lt-is x z f i p.0 q.1))
    (below-trans (negative x) (height x) (negative y) (height y) (negative z) (height z) (subst T (lt-is x y f g p.0 p.1) h) (subst T (lt-is y z g i q.0 q.1) k))

-- ---- numbers above zero: there `lt` is the total order
zero-not-above : (s : Bool) → T (lt (zero_of false) (zero_of s)) → ⊥
unfolding lt
zero-not-above true h = h
zero-not-above false h = h

pub lt-above-zero : (x y : Float) → T (fits binary32 x) → T (fits binary32 y) → T (lt (zero_of false) x) → T (lt (zero_of false) y) → lt x y ≡ not (at_most y x)
lt-above-zero x y f g h k =
    let p = (lt-numbers (zero_of false) x h).1 in
    let q = (lt-numbers (zero_of false) y k).1 in
    lt-by-order x y f g p q
    ∙ elim (decide (eq x y)) [
      | inl e ↦ elim (eq-either x y f g p q (yes (eq x y) e)) [
        | inl same ↦ rw (e, is_true (at_most y x) (subst (λ z. T (at_most y z)) (sym same) (at_most-refl y g)))
        | inr z ↦ absurd (zero-not-above (negative x) (subst (λ v. T (lt (zero_of false) v)) z.0 h))
      ]
      | inr e ↦ rw e (and-true (not (at_most y x)))
    ]
  where
    and-true : (b : Bool) → (b && true) ≡ b
    and-true true = refl
    and-true false = refl

-- what is above zero is less than nothing that is not
pub not-above : (x y : Float) → T (fits binary32 x) → T (fits binary32 y) → T (lt (zero_of false) x) → (T (lt (zero_of false) y) → ⊥) → lt x y ≡ false
not-above x y f g h k = is_false (lt x y) (λ l. k (lt_trans (zero_of false) x y (zero-fits false) f g h l))
