-- The total order by sign and height, where the height of a finite value is its number of units: `lt`, `eq` and `at_most` as tests on
-- numbers.
use Rattle.std.specs.Prelude.{◌≡◌, ℕ, zero, suc, ◌+◌, ◌*◌, ◌%◌, ◌^◌, ◌<◌, ◌≤◌, Bool, true, false, not, ◌&&◌, ◌||◌, T, ℤ, ◌==◌, nat_le, nat_lt, refl, Float}
use Rattle.std.proofs.Common.{sym, ap, ◌∙◌, inl, inr, le_refl, le_trans, le_of_eq, le_antisymm, eq-or-lt_of_le, lt_of_mul-lt-mul_right, lt_of_not-le, not-le_of_lt, mul-le-mul_right, mul-lt-mul_of_pos_right, le_of_mul-le-mul_right, mul-pos, zero-mul, arith, leb→le, le→leb, ltb→lt, lt→ltb, eqb→eq, lit<}
use Rattle.std.specs.Float.{nan, inf, fin, binary32}
use Rattle.std.specs.Float.Ieee.{up, down, lt, eq, below, level, fits}
use Rattle.std.specs.Float.Ieee.Fits.{down_pos, and_r, eq→eqb}
use Rattle.float32.specs.Laws.Tests.{same_test, is_true, is_false, or_left, or_right, or_split}
use Rattle.float32.specs.Units.{one, negative, mag}
use Rattle.float32.specs.Laws.Units.{one-pos, value_of}
use Rattle.float32.specs.Order.{at_most}

-- ---- by sign and height
abbrev pub signed_at_most : Bool → ℕ → Bool → ℕ → Bool
signed_at_most true a true b = nat_le b a
signed_at_most true a false b = true
signed_at_most false a true b = false
signed_at_most false a false b = nat_le a b

unfoldable pub height : Float → ℕ
unfolding mag
height nan = suc (one * 2 ^ 128)
height (inf s) = one * 2 ^ 128
height (fin s m e) = mag (fin s m e)

-- the tests of two fractions a / c, b / c are those of x / o, y / o
module _ (a b x y c o : ℕ) (C : 0 < c) (O : 0 < o) (p : a * o ≡ x * c) (q : b * o ≡ y * c) where
  le-there : a ≤ b → x ≤ y
  le-there h = le_of_mul-le-mul_right {k = c} (le_trans (le_of_eq (sym p)) (le_trans (mul-le-mul_right o h) (le_of_eq q))) C

  le-back : x ≤ y → a ≤ b
  le-back h = le_of_mul-le-mul_right {k = o} (le_trans (le_of_eq p) (le_trans (mul-le-mul_right c h) (le_of_eq (sym q)))) O

fraction-lt : (a b x y c o : ℕ) → 0 < c → 0 < o → a * o ≡ x * c → b * o ≡ y * c → nat_lt a b ≡ nat_lt x y
fraction-lt a b x y c o C O p q =
    same_test (nat_lt a b) (nat_lt x y)
    (λ t. lt→ltb x y (lt_of_not-le (λ (g : y ≤ x). not-le_of_lt (ltb→lt a b t) (le-back b a y x c o C O q p g))))
    (λ t. lt→ltb a b (lt_of_not-le (λ (g : b ≤ a). not-le_of_lt (ltb→lt x y t) (le-there b a y x c o C O q p g))))

fraction-eq : (a b x y c o : ℕ) → 0 < c → 0 < o → a * o ≡ x * c → b * o ≡ y * c → (a == b) ≡ (x == y)
fraction-eq a b x y c o C O p q =
    same_test (a == b) (x == y)
    (λ t. let e = eqb→eq a b t in eq→eqb (le_antisymm (le-there a b x y c o C O p q (le_of_eq e)) (le-there b a y x c o C O q p (le_of_eq (sym e)))))
    (λ t. let e = eqb→eq x y t in eq→eqb (le_antisymm (le-back a b x y c o C O p q (le_of_eq e)) (le-back b a y x c o C O q p (le_of_eq (sym e)))))

below-same : (s t : Bool) (a b x y c o : ℕ) → 0 < c → 0 < o → a * o ≡ x * c → b * o ≡ y * c → below s a t b ≡ below s x t y
below-same true true a b x y c o C O p q = fraction-lt b a y x c o C O q p
below-same true false a b x y c o C O p q = fraction-lt 0 (a + b) 0 (x + y) c o C O (omega arith) (omega arith)
below-same false true a b x y c o C O p q = refl
below-same false false a b x y c o C O p q = fraction-lt a b x y c o C O p q

level-same : (s t : Bool) (a b x y c o : ℕ) → 0 < c → 0 < o → a * o ≡ x * c → b * o ≡ y * c → level s a t b ≡ level s x t y
level-same s t a b x y c o C O p q = cc (fraction-eq a b x y c o C O p q, fraction-eq a 0 x 0 c o C O p (omega arith))

cross-l : (M X de dd o : ℕ) → M * o ≡ X * de → M * dd * o ≡ X * (de * dd)
cross-l M X de dd o h = let w : M * o * dd ≡ X * de * dd = ap (λ (z : ℕ). z * dd) h in omega arith

cross-r : (N Y de dd o : ℕ) → N * o ≡ Y * dd → N * de * o ≡ Y * (de * dd)
cross-r N Y de dd o h = let w : N * o * de ≡ Y * dd * de = ap (λ (z : ℕ). z * de) h in omega arith

pub lt-units : (s t : Bool) (m n : ℕ) (e d : ℤ) → T (fits binary32 (fin s m e)) → T (fits binary32 (fin t n d)) → lt (fin s m e) (fin t n d) ≡ below s (mag (fin s m e)) t (mag (fin t n d))
unfolding lt
lt-units s t m n e d f g =
    below-same s t (m * up e * down d) (n * up d * down e) (mag (fin s m e)) (mag (fin t n d)) (down e * down d) one (mul-pos (down_pos e) (down_pos d)) one-pos
    (cross-l (m * up e) (mag (fin s m e)) (down e) (down d) one (value_of (fin s m e) f tt).1) (cross-r (n * up d) (mag (fin t n d)) (down e) (down d) one (value_of (fin t n d) g tt).1)

pub eq-units : (s t : Bool) (m n : ℕ) (e d : ℤ) → T (fits binary32 (fin s m e)) → T (fits binary32 (fin t n d)) → eq (fin s m e) (fin t n d) ≡ level s (mag (fin s m e)) t (mag (fin t n d))
unfolding eq
eq-units s t m n e d f g =
    level-same s t (m * up e * down d) (n * up d * down e) (mag (fin s m e)) (mag (fin t n d)) (down e * down d) one (mul-pos (down_pos e) (down_pos d)) one-pos
    (cross-l (m * up e) (mag (fin s m e)) (down e) (down d) one (value_of (fin s m e) f tt).1) (cross-r (n * up d) (mag (fin t n d)) (down e) (down d) one (value_of (fin t n d) g tt).1)

-- `below` or level with the right signs is `signed_at_most`
lt-or-eq : (a b : ℕ) (k : Bool) → (T k → a ≡ b) → (a ≡ b → T k) → (nat_lt a b || k) ≡ nat_le a b
lt-or-eq a b k K L =
    same_test (nat_lt a b || k) (nat_le a b)
    (λ t. elim (or_split (nat_lt a b) k t) [ inl u ↦ le→leb a b (lt-le a b (ltb→lt a b u)) | inr u ↦ le→leb a b (le_of_eq (K u)) ])
    (λ t. elim (eq-or-lt_of_le (leb→le a b t)) [ inl e ↦ or_right (nat_lt a b) k (L e) | inr u ↦ or_left (nat_lt a b) k (lt→ltb a b u) ])
  where
    lt-le : (a b : ℕ) → a < b → a ≤ b
    lt-le a b h = omega arith

twice-true : (b : Bool) → T (b && true && true) → T b
twice-true true t = tt
twice-true false t = t

true-twice : (b : Bool) → T b → T (b && true && true)
true-twice true t = tt
true-twice false t = t

by_sign : (s t : Bool) (x y : ℕ) → (below s x t y || (level s x t y && (s || not t))) ≡ signed_at_most s x t y
by_sign true true x y = lt-or-eq y x (x == y && true && true) (λ t. sym (eqb→eq x y (twice-true (x == y) t))) (λ e. true-twice (x == y) (eq→eqb (sym e)))
by_sign true false x y = is_true (nat_lt 0 (x + y) || (x == y && x == 0 && true)) (go x y)
  where
    go : (x y : ℕ) → T (nat_lt 0 (x + y) || (x == y && x == 0 && true))
    go zero zero = tt
    go zero (suc y) = or_left (nat_lt 0 (0 + suc y)) (0 == suc y && 0 == 0 && true) (lt→ltb 0 (0 + suc y) (omega arith))
    go (suc x) y = or_left (nat_lt 0 (suc x + y)) (suc x == y && suc x == 0 && true) (lt→ltb 0 (suc x + y) (omega arith))
by_sign false true x y = is_false (x == y && x == 0 && false) (λ t. and_r (x == y && x == 0) false t)
by_sign false false x y = lt-or-eq x y (x == y && true && true) (λ t. eqb→eq x y (twice-true (x == y) t)) (λ e. true-twice (x == y) (eq→eqb e))

-- what is finite is below the infinities
pub mag-lt : (s : Bool) (m : ℕ) (e : ℤ) → T (fits binary32 (fin s m e)) → mag (fin s m e) < one * 2 ^ 128
unfolding fits
mag-lt s zero e h = go (mag (fin s zero e)) one (down e) (2 ^ 128) (down_pos e) (mul-pos one-pos (lit< tt)) (value_of (fin s zero e) h tt).1
  where
    go : (x o d b : ℕ) → 0 < d → 0 < o * b → zero * up e * o ≡ x * d → x < o * b
    go x o d b D O q = lt_of_mul-lt-mul_right d (let w : 0 < o * b * d = mul-pos O D in let z : x * d ≡ 0 = sym q ∙ ap (λ (k : ℕ). k * o) (zero-mul (up e)) ∙ zero-mul o in omega arith)
mag-lt s (suc m) e h =
    let fit : suc m * up e < 2 ^ 128 * down e = ltb→lt (suc m * up e) (2 ^ 128 * down e) (and_r (suc m % 2 == 1 && nat_lt (suc m) (2 ^ 24) && nat_le (down e) (2 ^ 149))
    (nat_lt (suc m * up e) (2 ^ 128 * down e)) h) in
    go (mag (fin s (suc m) e)) one (suc m * up e) (down e) (2 ^ 128) one-pos (value_of (fin s (suc m) e) h tt).1 fit
  where
    go : (x o M d b : ℕ) → 0 < o → M * o ≡ x * d → M < b * d → x < o * b
    go x o M d b O q l = lt_of_mul-lt-mul_right d (let w : M * o < b * d * o = mul-lt-mul_of_pos_right l O in omega arith)

lt→nleb : (a b : ℕ) → b < a → nat_le a b ≡ false
lt→nleb a b h = is_false (nat_le a b) (λ t. not-le_of_lt h (leb→le a b t))

le→yes : (a b : ℕ) → a ≤ b → nat_le a b ≡ true
le→yes a b h = is_true (nat_le a b) (le→leb a b h)

weak : (a b : ℕ) → a < b → a ≤ b
weak a b h = omega arith

pub at-most-is : (x y : Float) → T (fits binary32 x) → T (fits binary32 y) → at_most x y ≡ signed_at_most (negative x) (height x) (negative y) (height y)
unfolding at_most height
at-most-is nan nan f g = sym (le→yes (suc (one * 2 ^ 128)) (suc (one * 2 ^ 128)) (le_refl (suc (one * 2 ^ 128))))
at-most-is nan (inf true) f g = refl
at-most-is nan (inf false) f g = sym (lt→nleb (suc (one * 2 ^ 128)) (one * 2 ^ 128) (le_refl (suc (one * 2 ^ 128))))
at-most-is nan (fin true n d) f g = refl
at-most-is nan (fin false n d) f g = sym (lt→nleb (suc (one * 2 ^ 128)) (mag (fin false n d)) (step (mag (fin false n d)) (one * 2 ^ 128) (mag-lt false n d g)))
  where
    step : (a b : ℕ) → a < b → a < suc b
    step a b h = omega arith
at-most-is (inf true) nan f g = refl
at-most-is (inf false) nan f g = sym (le→yes (one * 2 ^ 128) (suc (one * 2 ^ 128)) (weak (one * 2 ^ 128) (suc (one * 2 ^ 128)) (le_refl (suc (one * 2 ^ 128)))))
at-most-is (inf true) (inf true) f g = sym (le→yes (one * 2 ^ 128) (one * 2 ^ 128) (le_refl (one * 2 ^ 128)))
at-most-is (inf true) (inf false) f g = refl
at-most-is (inf false) (inf true) f g = refl
at-most-is (inf false) (inf false) f g = sym (le→yes (one * 2 ^ 128) (one * 2 ^ 128) (le_refl (one * 2 ^ 128)))
at-most-is (inf true) (fin true n d) f g = sym (le→yes (mag (fin true n d)) (one * 2 ^ 128) (weak (mag (fin true n d)) (one * 2 ^ 128) (mag-lt true n d g)))
at-most-is (inf true) (fin false n d) f g = refl
at-most-is (inf false) (fin true n d) f g = refl
at-most-is (inf false) (fin false n d) f g = sym (lt→nleb (one * 2 ^ 128) (mag (fin false n d)) (mag-lt false n d g))
at-most-is (fin true m e) nan f g = refl
at-most-is (fin false m e) nan f g = sym (le→yes (mag (fin false m e)) (suc (one * 2 ^ 128)) (weak (mag (fin false m e)) (suc (one * 2 ^ 128)) (step (mag (fin false m e)) (one * 2 ^ 128)
    (mag-lt false m e f))))
  where
    step : (a b : ℕ) → a < b → a < suc b
    step a b h = omega arith
at-most-is (fin true m e) (inf true) f g = sym (lt→nleb (one * 2 ^ 128) (mag (fin true m e)) (mag-lt true m e f))
at-most-is (fin true m e) (inf false) f g = refl
at-most-is (fin false m e) (inf true) f g = refl
at-most-is (fin false m e) (inf false) f g = sym (le→yes (mag (fin false m e)) (one * 2 ^ 128) (weak (mag (fin false m e)) (one * 2 ^ 128) (mag-lt false m e f)))
at-most-is (fin s m e) (fin t n d) f g =
    ap (λ (b : Bool). b || (eq (fin s m e) (fin t n d) && (s || not t))) (lt-units s t m n e d f g)
    ∙ ap (λ (b : Bool). below s (mag (fin s m e)) t (mag (fin t n d)) || (b && (s || not t))) (eq-units s t m n e d f g)
    ∙ by_sign s t (mag (fin s m e)) (mag (fin t n d))
