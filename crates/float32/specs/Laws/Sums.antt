-- Laws of Sums: results that stay within a bound are finite and no NaN, and rounding never passes a number that has at most 24 digits.
use Rattle.std.specs.Prelude.{◌≡◌, ℕ, ◌+◌, ◌-◌, ◌*◌, ◌^◌, ◌<◌, ◌≤◌, Bool, true, false, cond, not, ◌&&◌, T, pos, nat_lt, refl, Float}
use Rattle.std.proofs.Common.{sym, ap, ◌∙◌, subst, le_trans, le_of_eq, lt_of_le_of_lt, mul-le-mul, mul-le-mul_left, mul-le-mul_right, mul-pos, arith, true≢false, lit<, lit≤, leb-true}
use Rattle.std.specs.Bool.{beq}
use Rattle.std.specs.Float.{nan, inf, fin, binary32}
use Rattle.std.specs.Float.Ieee.{round, sum, add, sub, mul, of_int, is_nan, unlike, up, down}
use Rattle.std.specs.Float.Ieee.Fits.{down_pos}
use Rattle.std.specs.Float.Ieee.Scale.{finite}
use Rattle.float32.specs.Laws.Rounded.{rounded}
use Rattle.float32.specs.Laws.Operations.{mul-by, add-by, sub_by, int-value}
use Rattle.float32.specs.Units.{one, negative, mag}
use Rattle.float32.specs.Laws.Units.{one-pos, value_of}
use Rattle.float32.specs.Laws.RoundedUnits.{round-value, rounded-le}
use Rattle.float32.specs.Bound.{in_bound, Bounded}
use Rattle.float32.specs.Sums.{Within}

pub within-finite : (b : ℕ) (x : Float) → Within b x → T (finite x)
within-finite b nan w = absurd w.value
within-finite b (inf s) w = absurd w.value
within-finite b (fin s m e) w = tt

pub finite-no-nan : (x : Float) → T (finite x) → T (not (is_nan x))
unfolding is_nan
finite-no-nan nan t = absurd t
finite-no-nan (inf s) t = absurd t
finite-no-nan (fin s m e) t = tt

pub within-no-nan : (b : ℕ) (x : Float) → Within b x → T (not (is_nan x))
within-no-nan b x w = finite-no-nan x (within-finite b x w)

pub wider : (a b : ℕ) (x : Float) → a ≤ b → Within a x → Within b x
wider a b x h w = record { sign = w.sign; size = w.size; value = w.value; small = le_trans w.small h }

-- whichever of two a test picks
pub pick : {b : ℕ} {x y : Float} (k : Bool) → Within b x → Within b y → Within b (cond k x y)
pick true u v = u
pick false u v = v

-- ---- one operation. The bound on its result is q * 2 ^ j units, q of at most 24 digits, below the infinities
abbrev pub Room : ℕ → ℕ → Type 0
Room q j = (q < 2 ^ 24) × (q * 2 ^ j < one * 2 ^ 128)

pub round-within : (s : Bool) (a c q j : ℕ) → 0 < c → Room q j → a * one ≤ q * 2 ^ j * c → Within (q * 2 ^ j) (round binary32 s a c)
round-within s a c q j C r h =
    let l = rounded-le (a * one) c q j C r.0 h in
    record { sign = s; size = rounded (a * one) c; value = round-value s a c (lt_of_le_of_lt l r.1); small = l }

pub sum-within : (s t : Bool) (a b q j : ℕ) → Room q j → a + b ≤ q * 2 ^ j → Within (q * 2 ^ j) (sum binary32 s a t b one)
unfolding sum
sum-within s t a b q j r h = pick (beq s t) (at s (a + b) h) (pick (nat_lt a b) (at t (b - a) (less (q * 2 ^ j) h)) (at (s && nat_lt b a) (a - b) (less' (q * 2 ^ j) h)))
  where
    at : (s : Bool) (w : ℕ) → w ≤ q * 2 ^ j → Within (q * 2 ^ j) (round binary32 s w one)
    at s w k = round-within s w one q j one-pos r (mul-le-mul_right one k)

    less : (b' : ℕ) → a + b ≤ b' → b - a ≤ b'
    less b' h = omega arith

    less' : (b' : ℕ) → a + b ≤ b' → a - b ≤ b'
    less' b' h = omega arith

both : (a b c d e : ℕ) → a ≤ c → b ≤ d → c + d ≤ e → a + b ≤ e
both a b c d e h k l = omega arith

pub add-within : (a b q j : ℕ) (x y : Float) → Room q j → a + b ≤ q * 2 ^ j → Within a x → Within b y → Within (q * 2 ^ j) (add binary32 x y)
add-within a b q j x y r h X Y =
    subst (Within (q * 2 ^ j)) (sym (add-by binary32 x y X.sign Y.sign X.size Y.size one one-pos X.value Y.value))
    (sum-within X.sign Y.sign X.size Y.size q j r (both X.size Y.size a b (q * 2 ^ j) X.small Y.small h))

pub sub_within : (a b q j : ℕ) (x y : Float) → Room q j → a + b ≤ q * 2 ^ j → Within a x → Within b y → Within (q * 2 ^ j) (sub binary32 x y)
sub_within a b q j x y r h X Y =
    subst (Within (q * 2 ^ j)) (sym (sub_by binary32 x y X.sign Y.sign X.size Y.size one one-pos X.value Y.value))
    (sum-within X.sign (not Y.sign) X.size Y.size q j r (both X.size Y.size a b (q * 2 ^ j) X.small Y.small h))

pub mul-within : (a b q j : ℕ) (x y : Float) → Room q j → a * b ≤ q * 2 ^ j * one → Within a x → Within b y → Within (q * 2 ^ j) (mul binary32 x y)
mul-within a b q j x y r h X Y =
    subst (Within (q * 2 ^ j)) (sym (mul-by binary32 x y X.sign Y.sign X.size one Y.size one one-pos one-pos X.value Y.value))
    (round-within (unlike X.sign Y.sign) (X.size * Y.size) (one * one) q j (mul-pos one-pos one-pos) r (grow (X.size * Y.size) one (q * 2 ^ j) (le_trans (mul-le-mul X.small Y.small)
    h)))
  where
    grow : (p o b : ℕ) → p ≤ b * o → p * o ≤ b * (o * o)
    grow p o b h = let w : p * o ≤ b * o * o = mul-le-mul_right o h in omega arith

-- a whole number up to 2 ^ 24 times a value
pub times-within : (n b q j : ℕ) (x : Float) → n ≤ 2 ^ 24 → Room q j → n * b ≤ q * 2 ^ j → Within b x → Within (q * 2 ^ j) (mul binary32 (of_int binary32 (pos n)) x)
times-within n b q j x N r h X =
    subst (Within (q * 2 ^ j)) (sym (mul-by binary32 (of_int binary32 (pos n)) x false X.sign n 1 X.size one (lit< tt) one-pos (int-value n N) X.value))
    (round-within (unlike false X.sign) (n * X.size) (1 * one) q j (mul-pos (lit< tt) one-pos) r (grow (n * X.size) one (q * 2 ^ j) (le_trans (mul-le-mul_left n X.small) h)))
  where
    grow : (p o b : ℕ) → p ≤ b → p * o ≤ b * (1 * o)
    grow p o b h = let w : p * o ≤ b * o = mul-le-mul_right o h in omega arith

-- ---- the numbers of document 01, in units: 2 ^ 181 is 2 ^ 32
pub power-room : (j : ℕ) → T (nat_lt (1 * 2 ^ j) (2 ^ 277)) → Room 1 j
unfolding one
power-room j t = (lit< tt, lit< t)

at-32 : one * 2 ^ 32 ≡ 1 * 2 ^ 181
unfolding one
at-32 = refl

pub bounded-within : (x : Float) → Bounded x → Within (1 * 2 ^ 181) x
bounded-within x X = record { sign = negative x; size = mag x; value = value_of x X.fit X.fin; small = le_trans X.small (le_of_eq at-32) }

-- the product of two values in bound is at most 2 ^ 64
units : 2 ^ 32 * 2 ^ 32 * one ≡ 1 * 2 ^ 213
unfolding one
units = refl

pub product-within : (x y : Float) → in_bound x ≡ true → in_bound y ≡ true → Within (1 * 2 ^ 213) (mul binary32 x y)
unfolding in_bound
product-within nan y h k = absurd (true≢false (sym h))
product-within (inf s) y h k = absurd (true≢false (sym h))
product-within (fin s m e) nan h k = absurd (true≢false (sym k))
product-within (fin s m e) (inf t) h k = absurd (true≢false (sym k))
product-within (fin s m e) (fin t n d) h k =
    subst (Within (1 * 2 ^ 213)) (sym (mul-by binary32 (fin s m e) (fin t n d) s t (m * up e) (down e) (n * up d) (down d) (down_pos e) (down_pos d) (refl, refl) (refl, refl)))
    (round-within (unlike s t) (m * up e * (n * up d)) (down e * down d) 1 213 (mul-pos (down_pos e) (down_pos d)) (power-room 213 tt)
    (within-room (m * up e) (n * up d) (down e) (down d) (leb-true (m * up e) (2 ^ 32 * down e) h) (leb-true (n * up d) (2 ^ 32 * down d) k)))
  where
    regroup : (p o c d : ℕ) → p * c * (p * d) * o ≡ p * p * o * (c * d)
    regroup p o c d = omega arith

    within-room : (a b c d : ℕ) → a ≤ 2 ^ 32 * c → b ≤ 2 ^ 32 * d → a * b * one ≤ 1 * 2 ^ 213 * (c * d)
    within-room a b c d h k = le_trans (mul-le-mul_right one (mul-le-mul h k)) (le_of_eq (regroup (2 ^ 32) one c d ∙ ap (λ z. z * (c * d)) units))

-- what is read back from a byte, with a stored minimum and step as document 01 allows them, is at most 2 ^ 41, and its product with a
-- bounded value at most 2 ^ 73
pub read-back-within : (minimum step : Float) (code : ℕ) → Bounded minimum → Bounded step → code ≤ 255
    → Within (1 * 2 ^ 190) (add binary32 (mul binary32 (of_int binary32 (pos code)) step) minimum)
read-back-within l s c L S h =
    add-within (1 * 2 ^ 189) (1 * 2 ^ 181) 1 190 (mul binary32 (of_int binary32 (pos c)) s) l (power-room 190 tt) (lit≤ tt)
    (times-within c (1 * 2 ^ 181) 1 189 s (le_trans h (lit≤ tt)) (power-room 189 tt) (le_trans (mul-le-mul_right (1 * 2 ^ 181) h) (lit≤ tt)) (bounded-within s S)) (bounded-within l L)

pub read-product-within : (x y : Float) → Within (1 * 2 ^ 190) x → Bounded y → Within (1 * 2 ^ 222) (mul binary32 x y)
unfolding one
read-product-within x y X Y = mul-within (1 * 2 ^ 190) (1 * 2 ^ 181) 1 222 x y (power-room 222 tt) (lit≤ tt) X (bounded-within y Y)
