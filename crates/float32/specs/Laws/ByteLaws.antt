-- The nearest byte by the whole part of a value and a comparison with the point half way to the next whole number, as a program finds it.
use Rattle.std.specs.Prelude.{◌≡◌, ℕ, suc, ◌+◌, ◌-◌, ◌*◌, ◌/◌, ◌%◌, ◌^◌, ◌<◌, ◌≤◌, min, Bool, true, false, T, ℤ, pos, negsuc, ◌==◌, ◌≢◌, refl, Float}
use Rattle.std.proofs.Common.{sym, ap, subst, ◌∙◌, le_trans, lt_of_not-le, mul-le-mul_right, le_of_mul-le-mul_right, mul_assoc, mul-pos, div-mul-le_self, div-add-mod', mod-lt, le-div_iff_mul-le, add-zero, arith, true≢false, leb→le, le→leb, eqb→eq, lit<, lit≤, inl, inr}
use Rattle.std.specs.Float.{nan, inf, fin, binary32}
use Rattle.std.specs.Float.Ieee.{up, down, le, sum, add, of_int, to_unsigned}
use mir.Val.{bool_byte}
use Rattle.std.specs.Float.Ieee.Fits.{down_pos, and_r}
use Rattle.std.specs.Float.Ieee.Exact.{HasValue, round_exact}
use Rattle.sequences.specs.Laws.Lists.{decide}
use Rattle.float32.specs.Laws.Operations.{add-by, int-value}
use Rattle.float32.specs.Laws.Tests.{yes, no, le_test}
use Rattle.float32.specs.Laws.RoundingLaws.{nearest_byte, div_is}

-- (2M + d) / 2d, by the whole part t of M / d and whether what is left is a half or more
module _ (M d t : ℕ) (D : 0 < d) (lo : t * d ≤ M) (hi : M < suc t * d) where
  half_up : (2 * t + 1) * d ≤ 2 * M → (2 * M + d) / (2 * d) ≡ t + 1
  half_up h = div_is (2 * M + d) (2 * d) (t + 1) (mul-pos (lit< tt) D) (omega arith) (omega arith)

  half_down : 2 * M < (2 * t + 1) * d → (2 * M + d) / (2 * d) ≡ t
  half_down h = div_is (2 * M + d) (2 * d) t (mul-pos (lit< tt) D) (omega arith) (omega arith)

part-lo : (M d : ℕ) → M / d * d ≤ M
part-lo M d = div-mul-le_self M d

part-hi : (M d : ℕ) → 0 < d → M < suc (M / d) * d
part-hi M d D = go (M / d) (M % d) (div-add-mod' M d) (mod-lt M D)
  where
    go : (q r : ℕ) → q * d + r ≡ M → r < d → M < suc q * d
    go q r e l = omega arith

-- t is the whole part, and below 255 it is not cut
cut : (a t : ℕ) → t ≡ min a (2 ^ 64 - 1) → t < 255 → t ≡ a
cut a t e h = omega arith

cut-ge : (a t : ℕ) → t ≡ min a (2 ^ 64 - 1) → 255 ≤ t → 255 ≤ a
cut-ge a t e h = omega arith

not-both : (t : ℕ) → t ≡ 0 → 255 ≤ t → ⊥
not-both t e h = omega arith

pub byte-top : (q : Float) (t : ℕ) → t ≡ to_unsigned 64 q → 255 ≤ t → 255 ≡ nearest_byte q
unfolding nearest_byte to_unsigned
byte-top nan t e h = absurd (not-both t e h)
byte-top (inf true) t e h = absurd (not-both t e h)
byte-top (inf false) t e h = refl
byte-top (fin true m x) t e h = absurd (not-both t e h)
byte-top (fin false m x) t e h = go (m * up x) (down x) (down_pos x) (cut-ge (m * up x / down x) t e h)
  where
    go : (M d : ℕ) → 0 < d → 255 ≤ M / d → 255 ≡ min ((2 * M + d) / (2 * d)) 255
    go M d D h =
        let a : 255 * d ≤ M = le_trans (mul-le-mul_right d h) (part-lo M d) in
        let b : 255 ≤ (2 * M + d) / (2 * d) = (le-div_iff_mul-le (mul-pos (lit< tt) D)).1 (omega arith) in
        omega arith

-- t + 1 / 2, exactly
abbrev pub half_way : ℕ → Float
half_way t = add binary32 (of_int binary32 (pos t)) (fin false 1 (negsuc 0))

twice-value : (t : ℕ) (x : Float) → HasValue x false t 1 → HasValue x false (2 * t) 2
twice-value t nan v = v
twice-value t (inf s) v = v
twice-value t (fin s m e) v = (v.0, go (m * up e) (down e) v.1)
  where
    go : (M d : ℕ) → M * 1 ≡ t * d → M * 2 ≡ 2 * t * d
    go M d h = omega arith

half-exact : (t : ℕ) → t < 255 → HasValue (sum binary32 false (2 * t) false 1 2) false (2 * t + 1) 2
unfolding sum
half-exact t h = round_exact binary32 false (2 * t + 1) 2 (2 * t + 1) 148 (lit< tt) (omega arith) (fine (2 * t + 1) (omega arith)) (same (2 * t + 1))
  where
    fine : (q : ℕ) → q ≤ 511 → q * 2 ^ 148 < 2 ^ 277
    fine q h = le_trans (step (q * 2 ^ 148) (511 * 2 ^ 148) (mul-le-mul_right (2 ^ 148) h)) (lit≤ tt)
      where
        step : (a b : ℕ) → a ≤ b → suc a ≤ suc b
        step a b h = omega arith

    same : (q : ℕ) → q * 2 ^ 149 ≡ q * 2 ^ 148 * 2
    same q = sym (mul_assoc q (2 ^ 148) 2)

small_int : (t : ℕ) → t < 255 → t ≤ 2 ^ 24
small_int t h = omega arith

half-value : (t : ℕ) → t < 255 → HasValue (half_way t) false (2 * t + 1) 2
half-value t h =
    subst (λ (z : Float). HasValue z false (2 * t + 1) 2)
    (sym (add-by binary32 (of_int binary32 (pos t)) (fin false 1 (negsuc 0)) false false (2 * t) 1 2 (lit< tt) (twice-value t (of_int binary32 (pos t)) (int-value t (small_int t h))) (refl, refl)))
    (half-exact t h)

-- `le` against a number above zero, as fractions
le-half : (h : Float) (a b : ℕ) (m : ℕ) (e : ℤ) → 0 < b → HasValue h false a b → (T (le h (fin false m e)) → a * down e ≤ m * up e * b) × (a * down e ≤ m * up e * b → T (le h (fin false m e)))
unfolding le
le-half nan a b m e B v = absurd v
le-half (inf s) a b m e B v = absurd v
le-half (fin true n d) a b m e B v = absurd (true≢false v.0)
le-half (fin false n d) a b m e B v = (
  (λ t. there (n * up d) (m * up e) (down d) (down e) (down_pos d) v.1 (leb→le (n * up d * down e) (m * up e * down d) (subst T (le_test (n * up d * down e) (m * up e * down d)) t))),
  (λ h. subst T (sym (le_test (n * up d * down e) (m * up e * down d))) (le→leb (n * up d * down e) (m * up e * down d) (back (n * up d) (m * up e) (down d) (down e) v.1 h))),
)
  where
    there : (N M dd de : ℕ) → 0 < dd → N * b ≡ a * dd → N * de ≤ M * dd → a * de ≤ M * b
    there N M dd de D v h = le_of_mul-le-mul_right {k = dd} (let w : N * de * b ≤ M * dd * b = mul-le-mul_right b h in let u : N * b * de ≡ a * dd * de = ap (λ (z : ℕ). z * de) v in omega arith) D

    back : (N M dd de : ℕ) → N * b ≡ a * dd → a * de ≤ M * b → N * de ≤ M * dd
    back N M dd de v h = le_of_mul-le-mul_right {k = b} (let w : a * de * dd ≤ M * b * dd = mul-le-mul_right dd h in let u : N * b * de ≡ a * dd * de = ap (λ (z : ℕ). z * de) v in omega arith) B

le-neg : (h : Float) (a b : ℕ) (m : ℕ) (e : ℤ) → 0 < a → 0 < b → HasValue h false a b → T (le h (fin true m e)) → ⊥
unfolding le
le-neg nan a b m e A B v t = v
le-neg (inf s) a b m e A B v t = v
le-neg (fin true n d) a b m e A B v t = true≢false v.0
le-neg (fin false n d) a b m e A B v t = pos-not (n * up d) (down e) (down d) (down_pos e) (down_pos d) v.1 (eqb→eq (n * up d * down e) 0 (and_r (n * up d * down e == m * up e * down d)
    (n * up d * down e == 0) t))
  where
    pos-not : (N de dd : ℕ) → 0 < de → 0 < dd → N * b ≡ a * dd → N * de ≢ 0
    pos-not N de dd E D v z =
        let x : 0 < a * dd * de = mul-pos (mul-pos A D) E in
        let y : N * b * de ≡ a * dd * de = ap (λ (z : ℕ). z * de) v in
        let w : N * de * b ≡ 0 * b = ap (λ (z : ℕ). z * b) z in
        omega arith

-- nor is it at most a NaN or -infinity
le-nothing : (h : Float) (a b : ℕ) → HasValue h false a b → (T (le h nan) → ⊥) × (T (le h (inf true)) → ⊥)
unfolding le
le-nothing nan a b v = absurd v
le-nothing (inf s) a b v = absurd v
le-nothing (fin s n d) a b v = ((λ t. t), (λ t. t))

all-but-top : (t : ℕ) → t ≡ 2 ^ 64 - 1 → t < 255 → ⊥
all-but-top t e h = omega arith

byte-up : (q : Float) (t : ℕ) → t ≡ to_unsigned 64 q → t < 255 → T (le (half_way t) q) → t + 1 ≡ nearest_byte q
unfolding nearest_byte to_unsigned
byte-up nan t e h l = absurd ((le-nothing (half_way t) (2 * t + 1) 2 (half-value t h)).0 l)
byte-up (inf true) t e h l = absurd ((le-nothing (half_way t) (2 * t + 1) 2 (half-value t h)).1 l)
byte-up (inf false) t e h l = absurd (all-but-top t e h)
byte-up (fin true m x) t e h l = absurd (le-neg (half_way t) (2 * t + 1) 2 m x (omega arith) (lit< tt) (half-value t h) l)
byte-up (fin false m x) t e h l = go (m * up x) (down x) (down_pos x) (cut (m * up x / down x) t e h) ((le-half (half_way t) (2 * t + 1) 2 m x (lit< tt) (half-value t h)).0 l)
  where
    go : (M d : ℕ) → 0 < d → t ≡ M / d → (2 * t + 1) * d ≤ M * 2 → t + 1 ≡ min ((2 * M + d) / (2 * d)) 255
    go M d D e k =
        let w : (2 * M + d) / (2 * d) ≡ t + 1 = half_up M d t D (subst (λ (z : ℕ). z * d ≤ M) (sym e) (part-lo M d)) (subst (λ (z : ℕ). M < suc z * d) (sym e) (part-hi M d D)) (omega arith) in
        omega arith

byte_down : (q : Float) (t : ℕ) → t ≡ to_unsigned 64 q → t < 255 → (T (le (half_way t) q) → ⊥) → t ≡ nearest_byte q
unfolding nearest_byte to_unsigned
byte_down nan t e h l = e
byte_down (inf true) t e h l = e
byte_down (inf false) t e h l = absurd (all-but-top t e h)
byte_down (fin true m x) t e h l = e
byte_down (fin false m x) t e h l =
    go (m * up x) (down x) (down_pos x) (cut (m * up x / down x) t e h)
    (lt_of_not-le (λ (g : (2 * t + 1) * down x ≤ m * up x * 2). l ((le-half (half_way t) (2 * t + 1) 2 m x (lit< tt) (half-value t h)).1 g)))
  where
    go : (M d : ℕ) → 0 < d → t ≡ M / d → M * 2 < (2 * t + 1) * d → t ≡ min ((2 * M + d) / (2 * d)) 255
    go M d D e k =
        let w : (2 * M + d) / (2 * d) ≡ t = half_down M d t D (subst (λ (z : ℕ). z * d ≤ M) (sym e) (part-lo M d)) (subst (λ (z : ℕ). M < suc z * d) (sym e) (part-hi M d D)) (omega arith) in
        omega arith

-- below 255 the whole part and one more where the half way is reached, with no branch
pub byte-by : (q : Float) (t : ℕ) → t ≡ to_unsigned 64 q → t < 255 → t + bool_byte (le (half_way t) q) ≡ nearest_byte q
byte-by q t e h = elim (decide (le (half_way t) q)) [
  | inl y ↦ rw y (byte-up q t e h (yes (le (half_way t) q) y))
  | inr n ↦ rw n (add-zero t ∙ byte_down q t e h (no (le (half_way t) q) n))
]

-- and that is a byte
pub byte_fits : (t : ℕ) (b : Bool) → t < 255 → t + bool_byte b < 256
byte_fits t true h = omega arith
byte_fits t false h = omega arith
