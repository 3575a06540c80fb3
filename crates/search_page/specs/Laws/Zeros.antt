-- A product with +0 is a zero, and adding a zero changes no sum that starts at +0: such a sum is never -0.
use Rattle.std.specs.Prelude.{◌≡◌, refl, ◌⊎◌, Bool, true, false, ◌&&◌, cond, ℕ, zero, suc, ◌+◌, ◌-◌, ◌*◌, ◌%◌, ◌^◌, ◌≤◌, ◌<◌, T, eqb, ltb, leb, ℤ, pos, negsuc, Float}
use Rattle.std.proofs.Common.{sym, ap, ◌∙◌, subst, inl, inr, true≢false, le_of_suc-le-suc, lt_of_lt_of_le, lt_of_not-le, not-le_of_lt, mul-pos, mul-one, mul_assoc, arith, leb→le, lit<, pow-add, pow_pos, pow_mono, lt-ltb, le-ltb, ltb-true, eqb-true}
use Rattle.std.specs.Bool.{beq}
use Rattle.std.proofs.Math.Nat.{eq_of_mul-eq-mul_right}
use Rattle.std.proofs.Math.Pow.{pow-lt}
use Rattle.std.specs.Float.{nan, inf, fin, binary32}
use Rattle.std.specs.Float.Ieee.{up, down, fits, add, mul, sum, round, size, odd, units, unlike}
use Rattle.std.specs.Float.Ieee.Digits.{back}
use Rattle.std.specs.Float.Ieee.Exact.{HasValue, round_exact}
use Rattle.std.specs.Float.Ieee.Fits.{down_pos, and_l, and_r, round_is, round-fits}
use Rattle.std.specs.Float.Ieee.Order.{drop, kept}
use Rattle.std.specs.Float.Ieee.Scale.{finite, round_same}
use Rattle.std.proofs.lemmas.Bool.{eqb-false}
use Rattle.float32.specs.Laws.Operations.{add-by}
use Rattle.float32.specs.Laws.OrderLaws.{fin-unique}
use Rattle.float32.specs.Laws.Heights.{mag-lt}
use Rattle.float32.specs.Laws.Rounded.{rounded}
use Rattle.float32.specs.Laws.RoundedUnits.{round-value, rounded-ge}
use Rattle.float32.specs.Laws.RoundingLaws.{few-digits}
use Rattle.float32.specs.Units.{one, mag, negative}
use Rattle.float32.specs.Laws.Units.{one-pos, mag_of, value_of}
use Rattle.float32.specs.Laws.Comparisons.{zero_of, zero-fits}

-- ---- nothing rounds to nothing
round-nothing : (s : Bool) → round binary32 s 0 1 ≡ zero_of s
unfolding round size units odd
round-nothing true = refl
round-nothing false = refl

nothing : (s : Bool) (a c : ℕ) → a ≡ 0 → 0 < c → round binary32 s a c ≡ zero_of s
nothing s a c e h = round_same binary32 s a c 0 1 h (lit< tt) (omega arith) ∙ round-nothing s

pub zero-product : (v : Float) → T (finite v) → mul binary32 v (zero_of false) ≡ zero_of (negative v)
unfolding mul
zero-product nan h = absurd h
zero-product (inf s) h = absurd h
zero-product (fin s m e) h = nothing (unlike s false) (m * up e * (0 * up (pos 0))) (down e * down (pos 0)) (omega arith) (mul-pos (down_pos e) (down_pos (pos 0))) ∙ ap zero_of (same s)
  where
    same : (s : Bool) → unlike s false ≡ s
    same true = refl
    same false = refl

-- ---- a value is its own rounding
small-exponent : (s : Bool) (m k : ℕ) → T (fits binary32 (fin s (suc m) (negsuc k))) → suc k ≤ 149
unfolding fits
small-exponent s m k h =
    let a = eqb (suc m % 2) 1 in
    let b = ltb (suc m) (2 ^ 24) in
    let c = leb (2 ^ suc k) (2 ^ 149) in
    let l : 2 ^ suc k ≤ 2 ^ 149 = leb→le (2 ^ suc k) (2 ^ 149) (and_r (a && b) c (and_l (a && b && c) (ltb (suc m * 1) (2 ^ 128 * 2 ^ suc k)) h)) in
    le_of_suc-le-suc (lt_of_not-le (λ (g : 150 ≤ suc k). not-le_of_lt (lt_of_lt_of_le (pow-lt {i = 149} {j = 150} (lit< tt)) (pow_mono g)) l))

digits : (s : Bool) (m : ℕ) (e : ℤ) → T (fits binary32 (fin s m e)) → (j : ℕ) × (mag (fin s m e) ≡ m * 2 ^ j)
unfolding one
digits s m (pos k) h = (k + 149, go (mag (fin s m (pos k))) (value_of (fin s m (pos k)) h tt).1)
  where
    go : (x : ℕ) → m * 2 ^ k * 2 ^ 149 ≡ x * 1 → x ≡ m * 2 ^ (k + 149)
    go x e = sym (mul-one x) ∙ sym e ∙ mul_assoc m (2 ^ k) (2 ^ 149) ∙ ap (λ (z : ℕ). m * z) (sym (pow-add 2 k 149))
digits s zero (negsuc k) h = (0, go (mag (fin s zero (negsuc k))) (2 ^ 149) (2 ^ suc k) (pow_pos (suc k)) (value_of (fin s zero (negsuc k)) h tt).1)
  where
    go : (x o d : ℕ) → 0 < d → 0 * 1 * o ≡ x * d → x ≡ 0 * 2 ^ 0
    go x o d p e = eq_of_mul-eq-mul_right d p x 0 (omega arith)
digits s (suc m) (negsuc k) h =
    let w : 2 ^ (149 - suc k) * 2 ^ suc k ≡ 2 ^ 149 = sym (pow-add 2 (149 - suc k) (suc k)) ∙ ap (λ (z : ℕ). 2 ^ z) (back 149 (suc k) (small-exponent s m k h)) in
    (149 - suc k, go (mag (fin s (suc m) (negsuc k))) (2 ^ (149 - suc k)) (2 ^ suc k) (2 ^ 149) (pow_pos (suc k)) w (value_of (fin s (suc m) (negsuc k)) h tt).1)
  where
    go : (x r d o : ℕ) → 0 < d → r * d ≡ o → suc m * 1 * o ≡ x * d → x ≡ suc m * r
    go x r d o p w e = eq_of_mul-eq-mul_right d p x (suc m * r) (sym e ∙ ap (λ (z : ℕ). z * o) (mul-one (suc m)) ∙ ap (λ (z : ℕ). suc m * z) (sym w) ∙ sym (mul_assoc (suc m) r d))

by_value : (y : Float) (s : Bool) (m : ℕ) (e : ℤ) → T (fits binary32 y) → T (fits binary32 (fin s m e)) → HasValue y s (mag (fin s m e)) one → y ≡ fin s m e
by_value nan s m e f g v = absurd v
by_value (inf t) s m e f g v = absurd v
by_value (fin t n d) s m e f g v = fin-unique t s n m d e f g v.0 (mag_of (fin t n d) s (mag (fin s m e)) v)

own : (s : Bool) (m : ℕ) (e : ℤ) → T (fits binary32 (fin s m e)) → round binary32 s (mag (fin s m e)) one ≡ fin s m e
unfolding one
own s m e h =
    let a = mag (fin s m e) in
    let d = digits s m e h in
    let under : m * 2 ^ d.0 < 2 ^ 149 * 2 ^ 128 = subst (λ (z : ℕ). z < 2 ^ 149 * 2 ^ 128) d.1 (mag-lt s m e h) in
    by_value (round binary32 s a one) s m e (round-fits binary32 s a one) h (round_exact binary32 s a one m d.0 one-pos (few-digits s m e h) under (ap (λ (z : ℕ). z * 2 ^ 149) d.1))

-- ---- adding a zero
zero-value : (t : Bool) → HasValue (zero_of t) t 0 one
zero-value t = (refl, go one)
  where
    go : (o : ℕ) → 0 * 1 * o ≡ 0 * 1
    go o = omega arith

-- what is negative and not -0 is more than nothing
more : (s : Bool) (m : ℕ) (e : ℤ) → T (fits binary32 (fin s m e)) → (fin s m e ≡ zero_of true → ⊥) → s ≡ true → 0 < mag (fin s m e)
more s m e h n q = at (eqb (mag (fin s m e)) 0) refl
  where
    at : (b : Bool) → eqb (mag (fin s m e)) 0 ≡ b → 0 < mag (fin s m e)
    at true f = absurd (n (fin-unique s true m 0 e (pos 0) h (zero-fits true) q (eqb-true (mag (fin s m e)) 0 f ∙ sym (mag_of (zero_of true) true 0 (zero-value true)))))
    at false f = let z : mag (fin s m e) ≡ 0 → ⊥ = eqb-false (mag (fin s m e)) 0 f in omega arith

plain : (a : ℕ) → a + 0 ≡ a
plain a = omega arith

less : (a : ℕ) → a - 0 ≡ a
less a = omega arith

sum-none : (s t : Bool) (a : ℕ) → (s ≡ true → 0 < a) → sum binary32 s a t 0 one ≡ round binary32 s a one
unfolding sum
sum-none true true a h = ap (λ (z : ℕ). round binary32 true z one) (plain a)
sum-none false false a h = ap (λ (z : ℕ). round binary32 false z one) (plain a)
sum-none true false a h = rw (le-ltb a 0 (omega arith), lt-ltb 0 a (h refl)) (ap (λ (z : ℕ). round binary32 true z one) (less a))
sum-none false true a h = rw (le-ltb a 0 (omega arith)) (ap (λ (z : ℕ). round binary32 false z one) (less a))

pub add-zero : (x : Float) (t : Bool) → T (fits binary32 x) → (x ≡ zero_of true → ⊥) → add binary32 x (zero_of t) ≡ x
unfolding add
add-zero nan t h n = refl
add-zero (inf s) t h n = refl
add-zero (fin s m e) t h n =
    add-by binary32 (fin s m e) (zero_of t) s t (mag (fin s m e)) 0 one one-pos (value_of (fin s m e) h tt) (zero-value t)
    ∙ sum-none s t (mag (fin s m e)) (more s m e h n)
    ∙ own s m e h

-- ---- a sum does not become -0
shape : (s : Bool) (a : ℕ) → (round binary32 s a one ≡ inf s) ⊎ HasValue (round binary32 s a one) s (rounded (a * one) one) one
unfolding one units
shape s a = at (ltb (rounded (a * one) one) (one * 2 ^ 128)) refl
  where
    at : (b : Bool) → ltb (rounded (a * one) one) (one * 2 ^ 128) ≡ b → (round binary32 s a one ≡ inf s) ⊎ HasValue (round binary32 s a one) s (rounded (a * one) one) one
    at true e = inr (round-value s a one (ltb-true (rounded (a * one) one) (one * 2 ^ 128) e))
    at false e = inl (round_is binary32 s a one ∙ ap (λ b. cond b (odd 25 s (kept 24 (a * one) one) (drop 24 (a * one) one) 149) (inf s)) e)

not-minus : (s : Bool) (a : ℕ) → (s ≡ true → 0 < a) → round binary32 s a one ≡ zero_of true → ⊥
not-minus s a h p = elim (shape s a) [ inl e ↦ subst (λ z. T (finite z)) (sym p ∙ e) tt | inr v ↦ at (subst (λ z. HasValue z s (rounded (a * one) one) one) p v) ]
  where
    none : (r o : ℕ) → 1 * 2 ^ 0 ≤ r → 0 * 1 * o ≡ r * 1 → ⊥
    none r o l e = omega arith

    reach : (b o : ℕ) → 0 < b → 1 * 2 ^ 0 * o ≤ b * o
    reach zero o l = elim l [ ]
    reach (suc b) o l = omega arith

    at : HasValue (zero_of true) s (rounded (a * one) one) one → ⊥
    at v = none (rounded (a * one) one) one (rounded-ge (a * one) one 1 0 one-pos (lit< tt) (reach a one (h (sym v.0)))) v.1

never : false ≡ true → ⊥
never e = true≢false (sym e)

sum_kept : (s t : Bool) (a b : ℕ) → (s ≡ true → 0 < a) → sum binary32 s a t b one ≡ zero_of true → ⊥
unfolding sum
sum_kept true true a b h = not-minus true (a + b) (λ q. let l = h refl in omega arith)
sum_kept false false a b h = not-minus false (a + b) (λ q. absurd (never q))
sum_kept true false a b h = at (ltb a b) refl (ltb b a) refl
  where
    at : (u : Bool) → ltb a b ≡ u → (v : Bool) → ltb b a ≡ v → cond u (round binary32 false (b - a) one) (round binary32 (true && v) (a - b) one) ≡ zero_of true → ⊥
    at true e v f = not-minus false (b - a) (λ q. absurd (never q))
    at false e true f = not-minus true (a - b) (λ q. let l = ltb-true b a f in omega arith)
    at false e false f = not-minus false (a - b) (λ q. absurd (never q))
sum_kept false true a b h = at (ltb a b) refl
  where
    at : (u : Bool) → ltb a b ≡ u → cond u (round binary32 true (b - a) one) (round binary32 false (a - b) one) ≡ zero_of true → ⊥
    at true e = not-minus true (b - a) (λ q. let l = ltb-true a b e in omega arith)
    at false e = not-minus false (a - b) (λ q. absurd (never q))

infinite : (x : Float) → (T (finite x) → ⊥) → x ≡ zero_of true → ⊥
infinite x h p = h (subst (λ z. T (finite z)) (sym p) tt)

pub stays-off : (x y : Float) → T (fits binary32 x) → T (fits binary32 y) → (x ≡ zero_of true → ⊥) → add binary32 x y ≡ zero_of true → ⊥
unfolding add
stays-off nan y f g n = infinite nan (λ t. t)
stays-off (inf s) nan f g n = infinite nan (λ t. t)
stays-off (inf s) (inf t) f g n = at (beq s t)
  where
    at : (b : Bool) → cond b (inf s) nan ≡ zero_of true → ⊥
    at true = infinite (inf s) (λ t. t)
    at false = infinite nan (λ t. t)
stays-off (inf s) (fin t k d) f g n = infinite (inf s) (λ t. t)
stays-off (fin s m e) nan f g n = infinite nan (λ t. t)
stays-off (fin s m e) (inf t) f g n = infinite (inf t) (λ t. t)
stays-off (fin s m e) (fin t k d) f g n = λ p.
    sum_kept s t (mag (fin s m e)) (mag (fin t k d)) (more s m e f n)
    (sym (add-by binary32 (fin s m e) (fin t k d) s t (mag (fin s m e)) (mag (fin t k d)) one one-pos (value_of (fin s m e) f tt) (value_of (fin t k d) g tt)) ∙ p)
