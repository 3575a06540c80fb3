-- The bit pattern of a value by its sign and height; turned, the patterns of numbers are in the total order.
use Rattle.std.specs.Prelude.{◌≡◌, ℕ, suc, ◌+◌, ◌-◌, ◌*◌, ◌/◌, ◌^◌, ◌<◌, ◌≤◌, Bool, true, false, cond, not, T, leb, ℤ, from_bits, nat_le, refl, Float}
use Rattle.std.proofs.Common.{sym, ap, ◌∙◌, subst, inl, inr, le_trans, le_of_eq, le_of_lt, le_antisymm, lt_of_le_of_lt, lt_of_not-le, eq-or-lt_of_le, le-div_iff_mul-le, le_of_suc-le-suc, lt_irrefl, arith, leb→le, le→leb, pow_pos, pow-add}
use Rattle.std.proofs.Math.Dec.{nleb→lt}
use Rattle.std.proofs.Math.Pow.{shr_mono}
use Rattle.std.specs.Float.{nan, inf, fin, binary32}
use Rattle.std.specs.Float.Ieee.{fits, is_nan, to_bits, size}
use Rattle.std.specs.Float.Ieee.Digits.{size-lt, size-le, size_reaches}
use Rattle.std.specs.Float.Ieee.Fits.{kept-lt}
use Rattle.std.specs.Float.Ieee.Bits.{of_bits-to_bits}
use Rattle.float32.specs.Laws.Tests.{same_test, is_true, is_false}
use Rattle.float32.specs.Units.{one, negative, mag}
use Rattle.float32.specs.Order.{at_most}
use Rattle.float32.specs.Laws.Heights.{signed_at_most, height, at-most-is, mag-lt}
use Rattle.float32.specs.Key.{turned}

-- the pattern of a magnitude of n units, without its sign
abbrev pub body : ℕ → ℕ
body n = (size n - 24) * 8388608 + n / 2 ^ (size n - 24)

size_mono : (a b : ℕ) → a ≤ b → size a ≤ size b
size_mono a b h = size-le a (size b) (lt_of_le_of_lt h (size-lt b))

-- where digits are dropped, what is kept has 24 digits
full : (n : ℕ) → 0 < size n - 24 → 8388608 ≤ n / 2 ^ (size n - 24)
full n h =
    let k = size n - 24 in
    (le-div_iff_mul-le (pow_pos k)).1 (le_trans (le_of_eq (sym (pow-add 2 23 k))) (size_reaches n (23 + k) (use-all (size n) h)))
  where
    use-all : (z : ℕ) → 0 < z - 24 → 23 + (z - 24) < z
    use-all z h = omega arith

pub body-mono : (a b : ℕ) → a ≤ b → body a ≤ body b
body-mono a b h = elim (eq-or-lt_of_le (fewer (size a) (size b) (size_mono a b h))) [
  | inl e ↦ subst (λ (j : ℕ). j * 8388608 + a / 2 ^ j ≤ body b) (sym e) (same (size b - 24) (a / 2 ^ (size b - 24)) (b / 2 ^ (size b - 24)) (shr_mono (size b - 24) h))
  | inr l ↦ apart (size a - 24) (size b - 24) (a / 2 ^ (size a - 24)) (b / 2 ^ (size b - 24)) l (kept-lt 24 a) (full b (above (size a - 24) (size b - 24) l))
]
  where
    fewer : (x y : ℕ) → x ≤ y → x - 24 ≤ y - 24
    fewer x y h = omega arith

    same : (k x y : ℕ) → x ≤ y → k * 8388608 + x ≤ k * 8388608 + y
    same k x y h = omega arith

    above : (j k : ℕ) → j < k → 0 < k
    above j k h = omega arith

    apart : (j k x y : ℕ) → j < k → x < 2 ^ 24 → 8388608 ≤ y → j * 8388608 + x ≤ k * 8388608 + y
    apart j k x y l p q = omega arith

bits-fin : (s : Bool) (m : ℕ) (e : ℤ) → to_bits binary32 (fin s m e) ≡ cond s 2147483648 0 + (size (mag (fin s m e)) - 24) * 8388608 + mag (fin s m e) / 2 ^ (size (mag (fin s m e)) - 24)
unfolding to_bits mag one
bits-fin s m e = refl

bits-neg : (m : ℕ) (e : ℤ) → to_bits binary32 (fin true m e) ≡ 2147483648 + body (mag (fin true m e))
bits-neg m e = bits-fin true m e ∙ go ((size (mag (fin true m e)) - 24) * 8388608) (mag (fin true m e) / 2 ^ (size (mag (fin true m e)) - 24))
  where
    go : (x y : ℕ) → 2147483648 + x + y ≡ 2147483648 + (x + y)
    go x y = omega arith

bits_pos : (m : ℕ) (e : ℤ) → to_bits binary32 (fin false m e) ≡ body (mag (fin false m e))
bits_pos m e = bits-fin false m e ∙ go ((size (mag (fin false m e)) - 24) * 8388608) (mag (fin false m e) / 2 ^ (size (mag (fin false m e)) - 24))
  where
    go : (x y : ℕ) → 0 + x + y ≡ x + y
    go x y = omega arith

-- ---- every value but a NaN: its sign and the body of its height
body-inf : body (one * 2 ^ 128) ≡ 2139095040
unfolding one size
body-inf = refl

body-small : (n : ℕ) → n < one * 2 ^ 128 → body n < 2139095040
unfolding one
body-small n h = go (size n) (n / 2 ^ (size n - 24)) (size-le n 277 h) (kept-lt 24 n)
  where
    go : (z r : ℕ) → z ≤ 277 → r < 2 ^ 24 → (z - 24) * 8388608 + r < 2139095040
    go z r h k = omega arith

pub bits_are : (x : Float) → T (fits binary32 x) → T (not (is_nan x)) → (to_bits binary32 x ≡ cond (negative x) 2147483648 0 + body (height x)) × (body (height x) ≤ 2139095040)
unfolding height is_nan to_bits
bits_are nan f h = absurd h
bits_are (inf true) f h = (ap (λ (z : ℕ). 2147483648 + z) (sym body-inf), le_of_eq body-inf)
bits_are (inf false) f h = (ap (λ (z : ℕ). 0 + z) (sym body-inf), le_of_eq body-inf)
bits_are (fin true m e) f h = (bits-neg m e, le_of_lt (body-small (mag (fin true m e)) (mag-lt true m e f)))
bits_are (fin false m e) f h = (bits_pos m e ∙ zero (body (mag (fin false m e))), le_of_lt (body-small (mag (fin false m e)) (mag-lt false m e f)))
  where
    zero : (x : ℕ) → x ≡ 0 + x
    zero x = omega arith

pub key-neg : (b n : ℕ) → b ≡ 2147483648 + n → turned b ≡ 4294967295 - b
key-neg b n e = go (nat_le 2147483648 b) (nleb→lt 2147483648 b)
  where
    no : b < 2147483648 → ⊥
    no h = omega arith

    go : (t : Bool) → (T (not t) → b < 2147483648) → cond t (4294967295 - b) (b + 2147483648) ≡ 4294967295 - b
    go true h = refl
    go false h = absurd (no (h tt))

pub key-pos : (b n : ℕ) → b ≡ 0 + n → n ≤ 2139095040 → turned b ≡ b + 2147483648
key-pos b n e k = go (nat_le 2147483648 b) (leb→le 2147483648 b)
  where
    no : 2147483648 ≤ b → ⊥
    no h = omega arith

    go : (t : Bool) → (T t → 2147483648 ≤ b) → cond t (4294967295 - b) (b + 2147483648) ≡ b + 2147483648
    go true h = absurd (no (h tt))
    go false h = refl

-- of one sign, the heights are in the order of the bodies
back : (x y : Float) (s : Bool) → T (fits binary32 x) → T (fits binary32 y) → negative x ≡ s → negative y ≡ s
    → to_bits binary32 x ≡ cond (negative x) 2147483648 0 + body (height x) → to_bits binary32 y ≡ cond (negative y) 2147483648 0 + body (height y)
    → body (height x) ≤ body (height y) → height x ≤ height y
back x y s f g p q bx by h =
    le_of_suc-le-suc (lt_of_not-le (λ (l : suc (height y) ≤ height x).
    let e : body (height x) ≡ body (height y) = le_antisymm h (body-mono (height y) (height x) (weak (height y) (height x) l)) in
    let b : to_bits binary32 x ≡ to_bits binary32 y = cc in
    let v : x ≡ y = sym (of_bits-to_bits binary32 x f) ∙ ap (from_bits binary32) b ∙ of_bits-to_bits binary32 y g in
    lt_irrefl (height y) (subst (λ (z : Float). suc (height y) ≤ height z) v l)))
  where
    weak : (a b : ℕ) → a < b → a ≤ b
    weak a b h = omega arith

keys : (s t : Bool) (a b X Y : ℕ) → X ≡ cond s 2147483648 0 + body a → Y ≡ cond t 2147483648 0 + body b → body a ≤ 2139095040 → body b ≤ 2139095040
    → (s ≡ t → body a ≤ body b → a ≤ b) → (s ≡ t → body b ≤ body a → b ≤ a) → nat_le (turned X) (turned Y) ≡ signed_at_most s a t b
keys true true a b X Y p q u v h k =
    ap (λ (z : ℕ). leb z (turned Y)) (key-neg X (body a) p) ∙ ap (λ (z : ℕ). leb (4294967295 - X) z) (key-neg Y (body b) q)
    ∙ same_test (nat_le (4294967295 - X) (4294967295 - Y)) (nat_le b a)
    (λ t. le→leb b a (k refl (there X Y (body a) (body b) p q u v (leb→le (4294967295 - X) (4294967295 - Y) t))))
    (λ t. le→leb (4294967295 - X) (4294967295 - Y) (back' X Y (body a) (body b) p q (body-mono b a (leb→le b a t))))
  where
    there : (X Y x y : ℕ) → X ≡ 2147483648 + x → Y ≡ 2147483648 + y → x ≤ 2139095040 → y ≤ 2139095040 → 4294967295 - X ≤ 4294967295 - Y → y ≤ x
    there X Y x y p q u v h = omega arith

    back' : (X Y x y : ℕ) → X ≡ 2147483648 + x → Y ≡ 2147483648 + y → y ≤ x → 4294967295 - X ≤ 4294967295 - Y
    back' X Y x y p q h = omega arith
keys true false a b X Y p q u v h k =
    ap (λ (z : ℕ). leb z (turned Y)) (key-neg X (body a) p) ∙ ap (λ (z : ℕ). leb (4294967295 - X) z) (key-pos Y (body b) q v)
    ∙ is_true (nat_le (4294967295 - X) (Y + 2147483648)) (le→leb (4294967295 - X) (Y + 2147483648) (below X Y (body a) p))
  where
    below : (X Y x : ℕ) → X ≡ 2147483648 + x → 4294967295 - X ≤ Y + 2147483648
    below X Y x p = omega arith
keys false true a b X Y p q u v h k =
    ap (λ (z : ℕ). leb z (turned Y)) (key-pos X (body a) p u) ∙ ap (λ (z : ℕ). leb (X + 2147483648) z) (key-neg Y (body b) q)
    ∙ is_false (nat_le (X + 2147483648) (4294967295 - Y)) (λ t. above X Y (body b) q (leb→le (X + 2147483648) (4294967295 - Y) t))
  where
    above : (X Y y : ℕ) → Y ≡ 2147483648 + y → X + 2147483648 ≤ 4294967295 - Y → ⊥
    above X Y y q h = omega arith
keys false false a b X Y p q u v h k =
    ap (λ (z : ℕ). leb z (turned Y)) (key-pos X (body a) p u) ∙ ap (λ (z : ℕ). leb (X + 2147483648) z) (key-pos Y (body b) q v)
    ∙ same_test (nat_le (X + 2147483648) (Y + 2147483648)) (nat_le a b)
    (λ t. le→leb a b (h refl (there X Y (body a) (body b) p q (leb→le (X + 2147483648) (Y + 2147483648) t))))
    (λ t. le→leb (X + 2147483648) (Y + 2147483648) (back' X Y (body a) (body b) p q (body-mono a b (leb→le a b t))))
  where
    there : (X Y x y : ℕ) → X ≡ 0 + x → Y ≡ 0 + y → X + 2147483648 ≤ Y + 2147483648 → x ≤ y
    there X Y x y p q h = omega arith

    back' : (X Y x y : ℕ) → X ≡ 0 + x → Y ≡ 0 + y → x ≤ y → X + 2147483648 ≤ Y + 2147483648
    back' X Y x y p q h = omega arith

pub by-patterns : (x y : Float) → T (fits binary32 x) → T (fits binary32 y) → T (not (is_nan x)) → T (not (is_nan y)) → nat_le (turned (to_bits binary32 x)) (turned (to_bits binary32 y)) ≡ at_most x y
by-patterns x y f g n k =
    let bx = bits_are x f n in
    let by = bits_are y g k in
    keys (negative x) (negative y) (height x) (height y) (to_bits binary32 x) (to_bits binary32 y) bx.0 by.0 bx.1 by.1
    (λ e h. back x y (negative y) f g e refl bx.0 by.0 h) (λ e h. back y x (negative y) g f refl e by.0 bx.0 h)
    ∙ sym (at-most-is x y f g)
