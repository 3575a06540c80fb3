-- Keys are in the total order, no two values have one key, and each value is read back from its key.
use Rattle.std.specs.Prelude.{◌≡◌, ℕ, suc, ◌+◌, ◌-◌, ◌%◌, ◌<◌, ◌≤◌, Bool, true, false, cond, not, T, leb, from_bits, nat_le, refl, Float}
use Rattle.std.proofs.Common.{sym, ap, ◌∙◌, subst, inl, inr, le_trans, le_of_eq, arith, true≢false, leb→le, le→leb, leb-true, leb-false, le-leb, lt-ltb, le-ltb}
use Rattle.std.proofs.lemmas.Bool.{lt-leb}
use Rattle.std.specs.Float.{nan, inf, fin, binary32}
use Rattle.std.specs.Float.Ieee.{ne, fits, is_nan, to_bits, nan_bits}
use Rattle.std.specs.Float.Ieee.Bits.{of_bits-to_bits, to_bits-of_bits, to_bits-lt, of_bits-fits, nan_bits_is, nan_bits_above}
use Rattle.sequences.specs.Laws.Lists.{decide}
use Rattle.float32.specs.Laws.Tests.{is_true, is_false}
use Rattle.float32.specs.Units.{negative}
use Rattle.float32.specs.Order.{at_most}
use Rattle.float32.specs.Laws.Heights.{height}
use Rattle.float32.specs.Key.{turned, key_of, value_of}
use Rattle.float32.specs.Laws.Patterns.{body, bits_are, key-neg, key-pos, by-patterns}

pub key-of-number : (x : Float) → T (not (is_nan x)) → key_of x ≡ turned (to_bits binary32 x)
unfolding key_of
key-of-number nan h = absurd h
key-of-number (inf s) h = refl
key-of-number (fin s m e) h = refl

pub key-of-nan : key_of nan ≡ 4294967295
unfolding key_of
key-of-nan = refl

-- the key of +infinity is the greatest of a number
pub key-number : (x : Float) → T (fits binary32 x) → T (not (is_nan x)) → key_of x ≤ 4286578688
key-number x f h =
    let b = bits_are x f h in
    le_trans (le_of_eq (key-of-number x h)) (go (negative x) (to_bits binary32 x) (body (height x)) b.0 b.1)
  where
    go : (s : Bool) (b n : ℕ) → b ≡ cond s 2147483648 0 + n → n ≤ 2139095040 → turned b ≤ 4286578688
    go true b n e k = le_trans (le_of_eq (key-neg b n e)) (omega arith)
    go false b n e k = le_trans (le_of_eq (key-pos b n e k)) (omega arith)

pub key_below : (x : Float) → T (fits binary32 x) → key_of x < 4294967296
unfolding is_nan
key_below nan f = le_of_eq (ap suc key-of-nan)
key_below (inf s) f = let w = key-number (inf s) f tt in omega arith
key_below (fin s m e) f = let w = key-number (fin s m e) f tt in omega arith

-- the order, both ways
pub key-order : (x y : Float) → T (fits binary32 x) → T (fits binary32 y) → nat_le (key_of x) (key_of y) ≡ at_most x y
unfolding is_nan at_most key_of to_bits
key-order x nan f g = is_true (nat_le (key_of x) (key_of nan)) (le→leb (key_of x) (key_of nan) (let w = key_below x f in omega (arith, key-of-nan)))
key-order nan (inf t) f g = is_false (nat_le (key_of nan) (key_of (inf t))) (λ h. let k = leb→le (key_of nan) (key_of (inf t)) h in let w = key-number (inf t) g tt in omega (arith, key-of-nan))
key-order nan (fin t n d) f g = is_false (nat_le (key_of nan) (key_of (fin t n d))) (λ h. let k = leb→le (key_of nan) (key_of (fin t n d)) h in let w = key-number (fin t n d) g tt in
    omega (arith, key-of-nan))
key-order (inf s) (inf t) f g = by-patterns (inf s) (inf t) f g tt tt
key-order (inf s) (fin t n d) f g = by-patterns (inf s) (fin t n d) f g tt tt
key-order (fin s m e) (inf t) f g = by-patterns (fin s m e) (inf t) f g tt tt
key-order (fin s m e) (fin t n d) f g = by-patterns (fin s m e) (fin t n d) f g tt tt

-- ---- back from the key
-- the pattern that a key stands for
abbrev untangled : ℕ → ℕ
untangled k = cond (nat_le 2147483648 k) (k - 2147483648) (4294967295 - k)

turned-back : (b : ℕ) → b < 4294967296 → untangled (turned b) ≡ b
turned-back b h = elim (decide (nat_le 2147483648 b)) [
  | inl e ↦ let k = leb-true 2147483648 b e in let z : leb 2147483648 (4294967295 - b) ≡ false = lt-leb 2147483648 (4294967295 - b) (omega arith) in rw (e, z) (omega arith)
  | inr e ↦ let k = leb-false 2147483648 b e in let z : leb 2147483648 (b + 2147483648) ≡ true = le-leb 2147483648 (b + 2147483648) (omega arith) in rw (e, z) (omega arith)
]

back-turned : (k : ℕ) → k < 4294967296 → turned (untangled k) ≡ k
back-turned k h = elim (decide (nat_le 2147483648 k)) [
  | inl e ↦ let l = leb-true 2147483648 k e in let z : leb 2147483648 (k - 2147483648) ≡ false = lt-leb 2147483648 (k - 2147483648) (omega arith) in rw (e, z) (omega arith)
  | inr e ↦ let l = leb-false 2147483648 k e in let z : leb 2147483648 (4294967295 - k) ≡ true = le-leb 2147483648 (4294967295 - k) (omega arith) in rw (e, z) (omega arith)
]

pub value-key : (x : Float) → T (fits binary32 x) → value_of (key_of x) ≡ x
unfolding is_nan key_of value_of
value-key nan f = refl
value-key (inf s) f = ap (from_bits binary32) (turned-back (to_bits binary32 (inf s)) (to_bits-lt binary32 (inf s) f)) ∙ of_bits-to_bits binary32 (inf s) f
value-key (fin s m e) f = ap (from_bits binary32) (turned-back (to_bits binary32 (fin s m e)) (to_bits-lt binary32 (fin s m e) f)) ∙ of_bits-to_bits binary32 (fin s m e) f

-- no two values have one key
pub key-inj : (x y : Float) → T (fits binary32 x) → T (fits binary32 y) → key_of x ≡ key_of y → x ≡ y
key-inj x y f g e = sym (value-key x f) ∙ ap value_of e ∙ value-key y g

pub value-fits : (k : ℕ) → T (fits binary32 (value_of k))
unfolding value_of
value-fits k = of_bits-fits binary32 (untangled k)

-- a number that is some value's key, but for that of `nan`, is the key of the value that it gives
pub key-value : (k : ℕ) → k < 4294967296 → T (not (is_nan (value_of k))) → key_of (value_of k) ≡ k
unfolding value_of
key-value k h n = key-of-number (value_of k) n ∙ ap turned (to_bits-of_bits binary32 (untangled k) (pattern k h) n) ∙ back-turned k h
  where
    pattern : (k : ℕ) → k < 4294967296 → untangled k < 4294967296
    pattern k h = elim (decide (nat_le 2147483648 k)) [ inl e ↦ rw e (omega arith) | inr e ↦ rw e (omega arith) ]

-- ---- numbers and NaN, as a program tells them apart
pub equals_itself : (x : Float) → ne x x ≡ false → T (not (is_nan x))
unfolding ne is_nan
equals_itself nan e = true≢false e
equals_itself (inf s) e = tt
equals_itself (fin s m e) h = tt

pub number-pattern : (n : ℕ) → n % 2147483648 ≤ 2139095040 → T (not (nan_bits binary32 n))
number-pattern n h = subst (λ z. T (not z)) (sym (nan_bits_above binary32 n ∙ le-ltb 2139095040 (n % 2147483648) h)) tt

pub only_nan : (x : Float) → is_nan x ≡ true → nan ≡ x
unfolding is_nan
only_nan nan e = refl
only_nan (inf s) e = absurd (true≢false (sym e))
only_nan (fin s m e) h = absurd (true≢false (sym h))

nan_pattern : (n : ℕ) → 2139095040 < n % 2147483648 → nan ≡ from_bits binary32 n
nan_pattern n h = only_nan (from_bits binary32 n) (sym (nan_bits_is binary32 n) ∙ nan_bits_above binary32 n ∙ lt-ltb 2139095040 (n % 2147483648) h)

-- below the key of -infinity, and above that of +infinity, there is no number's key
pub no-key-below : (k : ℕ) → k < 8388607 → nan ≡ value_of k
unfolding value_of
no-key-below k h = let e : leb 2147483648 k ≡ false = lt-leb 2147483648 k (omega arith) in rw e (nan_pattern (4294967295 - k) (omega arith))

pub no-key-above : (k : ℕ) → 4286578688 < k → k < 4294967296 → nan ≡ value_of k
unfolding value_of
no-key-above k h l = let e : leb 2147483648 k ≡ true = le-leb 2147483648 k (omega arith) in rw e (nan_pattern (k - 2147483648) (omega arith))
