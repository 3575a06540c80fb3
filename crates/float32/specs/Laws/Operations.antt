-- Each operation on two finite values, by any fractions that the values equal.
use Rattle.std.specs.Prelude.{◌≡◌, ℕ, ◌+◌, ◌-◌, ◌*◌, ◌^◌, ◌<◌, ◌≤◌, Bool, true, false, cond, not, ◌&&◌, T, ℤ, pos, ◌==◌, ◌≢◌, nat_lt, refl, Float}
use Rattle.std.proofs.Common.{sym, ap, ◌∙◌, subst, inl, inr, lt_of_not-le, not-le_of_lt, lt_irrefl, mul-le-mul_right, mul-lt-mul_of_pos_right, mul_comm, mul_assoc, mul_left_comm, mul_right_comm, mul-pos, zero-mul, eq-zero-or-pos, arith, eqb→eq, ltb→lt, lt→ltb}
use Rattle.std.proofs.Math.Nat.{mul-sub, mul-mul-mul_comm}
use Rattle.std.specs.Bool.{beq}
use Rattle.std.specs.Float.{nan, inf, fin, Format, binary32}
use Rattle.std.specs.Float.Ieee.{up, down, round, sum, add, sub, mul, div, neg, of_int, unlike}
use Rattle.std.specs.Float.Ieee.Fits.{down_pos}
use Rattle.std.specs.Float.Ieee.Exact.{HasValue}
use Rattle.std.specs.Float.Ieee.Back.{round_whole}
use Rattle.std.specs.Float.Ieee.Scale.{round_same}
use Rattle.float32.specs.Laws.Tests.{same_test}

mul-fin : (f : Format) (s t : Bool) (m n : ℕ) (e d : ℤ) → mul f (fin s m e) (fin t n d) ≡ round f (unlike s t) (m * up e * (n * up d)) (down e * down d)
unfolding mul
mul-fin f s t m n e d = refl

pub mul-by : (f : Format) (x y : Float) (s t : Bool) (a c b k : ℕ) → 0 < c → 0 < k → HasValue x s a c → HasValue y t b k → mul f x y ≡ round f (unlike s t) (a * b) (c * k)
mul-by f nan y s t a c b k C K p q = absurd p
mul-by f (inf v) y s t a c b k C K p q = absurd p
mul-by f (fin v m e) nan s t a c b k C K p q = absurd q
mul-by f (fin v m e) (inf w) s t a c b k C K p q = absurd q
mul-by f (fin v m e) (fin w n d) s t a c b k C K p q =
    mul-fin f v w m n e d
    ∙ ap (λ (z : Bool). round f (unlike z w) (m * up e * (n * up d)) (down e * down d)) p.0
    ∙ ap (λ (z : Bool). round f (unlike s z) (m * up e * (n * up d)) (down e * down d)) q.0
    ∙ round_same f (unlike s t) (m * up e * (n * up d)) (down e * down d) (a * b) (c * k) (mul-pos (down_pos e) (down_pos d)) (mul-pos C K)
    (mul-mul-mul_comm (m * up e) (n * up d) c k ∙ ap (λ (z : ℕ). z * (n * up d * k)) p.1 ∙ ap (λ (z : ℕ). a * down e * z) q.1 ∙ mul-mul-mul_comm a (down e) b (down d))

-- a product above zero has a first factor above zero
first_pos : (n u : ℕ) → 0 < n * u → 0 < n
first_pos n u h = elim (eq-zero-or-pos n) [ inl z ↦ absurd (lt_irrefl 0 (subst (λ (k : ℕ). 0 < k) (ap (λ (k : ℕ). k * u) z ∙ zero-mul u) h)) | inr p ↦ p ]

div-fin : (f : Format) (s t : Bool) (m n : ℕ) (e d : ℤ) → 0 < n → div f (fin s m e) (fin t n d) ≡ round f (unlike s t) (m * up e * down d) (n * up d * down e)
unfolding div
div-fin f s t m n e d h = go (n == 0) (eqb→eq n 0)
  where
    no : (n : ℕ) → 0 < n → n ≢ 0
    no n h e = omega arith

    go : (b : Bool) → (T b → n ≡ 0) → cond b (cond (m == 0) nan (inf (unlike s t))) (round f (unlike s t) (m * up e * down d) (n * up d * down e)) ≡ round f (unlike s t) (m * up e * down d)
        (n * up d * down e)
    go true k = absurd (no n h (k tt))
    go false k = refl

pub div-by : (f : Format) (x y : Float) (s t : Bool) (a c b k : ℕ) → 0 < c → 0 < k → 0 < b → HasValue x s a c → HasValue y t b k → div f x y ≡ round f (unlike s t) (a * k) (b * c)
div-by f nan y s t a c b k C K B p q = absurd p
div-by f (inf v) y s t a c b k C K B p q = absurd p
div-by f (fin v m e) nan s t a c b k C K B p q = absurd q
div-by f (fin v m e) (inf w) s t a c b k C K B p q = absurd q
div-by f (fin v m e) (fin w n d) s t a c b k C K B p q =
    let N : 0 < n * up d = first_pos (n * up d) k (subst (λ (z : ℕ). 0 < z) (sym q.1) (mul-pos B (down_pos d))) in
    div-fin f v w m n e d (first_pos n (up d) N)
    ∙ ap (λ (z : Bool). round f (unlike z w) (m * up e * down d) (n * up d * down e)) p.0
    ∙ ap (λ (z : Bool). round f (unlike s z) (m * up e * down d) (n * up d * down e)) q.0
    ∙ round_same f (unlike s t) (m * up e * down d) (n * up d * down e) (a * k) (b * c) (mul-pos N (down_pos e)) (mul-pos B C)
    (cross (m * up e) (n * up d) (down e) (down d) p.1 q.1)
  where
    cross : (M N de dd : ℕ) → M * c ≡ a * de → N * k ≡ b * dd → M * dd * (b * c) ≡ a * k * (N * de)
    cross M N de dd p q =
        simp (mul_assoc, mul_comm, mul_left_comm) (simp (mul_assoc, mul_comm, mul_left_comm) at (ap (λ (z : ℕ). z * (b * dd)) p ∙ ap (λ (z : ℕ). a * de * z) (sym q)))

-- ---- sums
-- the three tests and fractions of `sum` see only the values
pub sum_same : (f : Format) (s t : Bool) (a b c a' b' c' : ℕ) → 0 < c → 0 < c' → a * c' ≡ a' * c → b * c' ≡ b' * c → sum f s a t b c ≡ sum f s a' t b' c'
unfolding sum
sum_same f s t a b c a' b' c' C C' p q =
    ap (λ (z : Float). cond (beq s t) z (cond (nat_lt a b) (round f t (b - a) c) (round f (s && nat_lt b a) (a - b) c))) (round_same f s (a + b) c (a' + b') c' C C' (omega arith))
    ∙ ap (λ (z : Bool). cond (beq s t) (round f s (a' + b') c') (cond z (round f t (b - a) c) (round f (s && nat_lt b a) (a - b) c))) (tests a b a' b' p q)
    ∙ ap (λ (z : Float). cond (beq s t) (round f s (a' + b') c') (cond (nat_lt a' b') z (round f (s && nat_lt b a) (a - b) c))) (round_same f t (b - a) c (b' - a') c' C C' (diff b a b' a' q p))
    ∙ ap (λ (z : Bool). cond (beq s t) (round f s (a' + b') c') (cond (nat_lt a' b') (round f t (b' - a') c') (round f (s && z) (a - b) c))) (tests b a b' a' q p)
    ∙ ap (λ (z : Float). cond (beq s t) (round f s (a' + b') c') (cond (nat_lt a' b') (round f t (b' - a') c') z)) (round_same f (s && nat_lt b' a') (a - b) c (a' - b') c' C C' (diff a b a' b' p q))
  where
    lt-cancel : (x y k : ℕ) → x * k < y * k → x < y
    lt-cancel x y k h = lt_of_not-le (λ (g : y ≤ x). not-le_of_lt h (mul-le-mul_right k g))

    forth : (a b a' b' : ℕ) → a * c' ≡ a' * c → b * c' ≡ b' * c → a < b → a' < b'
    forth a b a' b' p q h = let w : a * c' < b * c' = mul-lt-mul_of_pos_right h C' in lt-cancel a' b' c (omega arith)

    back : (a b a' b' : ℕ) → a * c' ≡ a' * c → b * c' ≡ b' * c → a' < b' → a < b
    back a b a' b' p q h = let w : a' * c < b' * c = mul-lt-mul_of_pos_right h C in lt-cancel a b c' (omega arith)

    tests : (a b a' b' : ℕ) → a * c' ≡ a' * c → b * c' ≡ b' * c → nat_lt a b ≡ nat_lt a' b'
    tests a b a' b' p q = same_test (nat_lt a b) (nat_lt a' b') (λ t. lt→ltb a' b' (forth a b a' b' p q (ltb→lt a b t))) (λ t. lt→ltb a b (back a b a' b' p q (ltb→lt a' b' t)))

    sub-mul : (x y k : ℕ) → (x - y) * k ≡ x * k - y * k
    sub-mul x y k = mul_comm (x - y) k ∙ mul-sub k x y ∙ ap (λ (z : ℕ). z - k * y) (mul_comm k x) ∙ ap (λ (z : ℕ). x * k - z) (mul_comm k y)

    diff : (a b a' b' : ℕ) → a * c' ≡ a' * c → b * c' ≡ b' * c → (a - b) * c' ≡ (a' - b') * c
    diff a b a' b' p q = sub-mul a b c' ∙ ap (λ (z : ℕ). z - b * c') p ∙ ap (λ (z : ℕ). a' * c - z) q ∙ sym (sub-mul a' b' c)

add-fin : (f : Format) (s t : Bool) (m n : ℕ) (e d : ℤ) → add f (fin s m e) (fin t n d) ≡ sum f s (m * up e * down d) t (n * up d * down e) (down e * down d)
unfolding add
add-fin f s t m n e d = refl

pub add-by : (f : Format) (x y : Float) (s t : Bool) (a b c : ℕ) → 0 < c → HasValue x s a c → HasValue y t b c → add f x y ≡ sum f s a t b c
add-by f nan y s t a b c C p q = absurd p
add-by f (inf v) y s t a b c C p q = absurd p
add-by f (fin v m e) nan s t a b c C p q = absurd q
add-by f (fin v m e) (inf w) s t a b c C p q = absurd q
add-by f (fin v m e) (fin w n d) s t a b c C p q =
    add-fin f v w m n e d
    ∙ ap (λ (z : Bool). sum f z (m * up e * down d) w (n * up d * down e) (down e * down d)) p.0
    ∙ ap (λ (z : Bool). sum f s (m * up e * down d) z (n * up d * down e) (down e * down d)) q.0
    ∙ sum_same f s t (m * up e * down d) (n * up d * down e) (down e * down d) a b c (mul-pos (down_pos e) (down_pos d)) C
    (mul_right_comm (m * up e) (down d) c ∙ ap (λ (z : ℕ). z * down d) p.1 ∙ mul_assoc a (down e) (down d))
    (mul_right_comm (n * up d) (down e) c ∙ ap (λ (z : ℕ). z * down e) q.1 ∙ mul_assoc b (down d) (down e) ∙ ap (λ (z : ℕ). b * z) (mul_comm (down d) (down e)))

pub neg_value : (x : Float) (s : Bool) (a c : ℕ) → HasValue x s a c → HasValue (neg x) (not s) a c
unfolding neg
neg_value nan s a c p = absurd p
neg_value (inf v) s a c p = absurd p
neg_value (fin v m e) s a c p = (ap not p.0, p.1)

sub_is : (f : Format) (x y : Float) → sub f x y ≡ add f x (neg y)
unfolding sub
sub_is f x y = refl

pub sub_by : (f : Format) (x y : Float) (s t : Bool) (a b c : ℕ) → 0 < c → HasValue x s a c → HasValue y t b c → sub f x y ≡ sum f s a (not t) b c
sub_by f x y s t a b c C p q = sub_is f x y ∙ add-by f x (neg y) s (not t) a b c C p (neg_value y t b c q)

-- a whole number up to 2 ^ 24 is a value
pub int-value : (n : ℕ) → n ≤ 2 ^ 24 → HasValue (of_int binary32 (pos n)) false n 1
unfolding of_int
int-value n h = round_whole binary32 false n h
