-- The error of `round`, over naturals.
use Rattle.std.specs.Prelude.{◌≡◌, ℕ, zero, suc, ◌+◌, ◌-◌, ◌*◌, ◌/◌, ◌%◌, ◌^◌, ◌<◌, ◌≤◌, not, T, ◌⊎◌, ◌==◌}
use Rattle.std.proofs.Common.{sym, subst, inl, inr, le_trans, le_of_eq, mul-le-mul_right, le_of_mul-le-mul_right, mul-pos, div-add-mod', mod-lt, eq-zero-or-pos, le-div_iff_mul-le, arith, leb→le, eqb→eq, lit<, pow_pos, pow-add}
use Prim.Native.Nat.{compare, Ordering}
use Rattle.std.proofs.Math.Nat.{div-div-eq-div-mul}
use Rattle.std.proofs.Math.Dec.{is_le, compare_is_eq, nleb→lt, eqb_refl}
use Rattle.std.proofs.Math.Arith.{lt_of_le-ne}
use Rattle.std.specs.Float.Ieee.{nearest, size}
use Rattle.std.specs.Float.Ieee.Digits.{size_reaches}
use Rattle.std.specs.Float.Ieee.Fits.{nearest-le, kept-lt}
use Rattle.std.specs.Float.Ieee.Nearest.{closest, nearest-ge}
use Rattle.std.specs.Float.Ieee.Order.{drop, kept}

abbrev Cmp : Ordering → ℕ → ℕ → Type 0
Cmp Ordering.lt a b = a < b
Cmp Ordering.eq a b = a ≡ b
Cmp Ordering.gt a b = b < a

cmp : (a b : ℕ) → Cmp (compare a b) a b
cmp a b = go (compare a b) (leb→le a b) (nleb→lt a b) (eqb→eq a b) (λ (e : a ≡ b). subst (λ (x : ℕ). T (a == x)) e (eqb_refl a))
  where
    go : (o : Ordering) → (T (is_le o) → a ≤ b) → (T (not (is_le o)) → b < a) → (T (compare_is_eq o) → a ≡ b) → (a ≡ b → T (compare_is_eq o)) → Cmp o a b
    go Ordering.lt h k e n = lt_of_le-ne (h tt) n
    go Ordering.eq h k e n = e tt
    go Ordering.gt h k e n = k tt

-- a and b differ by at most d
pub record Near (a b d : ℕ) : Type 0 where
  pub up : a ≤ b + d
  pub dn : b ≤ a + d

-- q * u + r rounded to a multiple of u is off by half of u at most
near-at : (q r u : ℕ) (o : Ordering) → r < u → Cmp o (r * 2) u → Near (2 * (nearest q o * u)) (2 * (q * u + r)) u
near-at q r u Ordering.lt h c = omega arith
near-at q r u Ordering.eq h c = tie (q % 2) (omega arith)
  where
    tie : (p : ℕ) → p < 2 → Near (2 * ((q + p) * u)) (2 * (q * u + r)) u
    tie zero l = omega arith
    tie (suc zero) l = omega arith
    tie (suc (suc p)) l = absurd (no p l)
      where
        no : (p : ℕ) → suc (suc p) < 2 → ⊥
        no p l = omega arith
near-at q r u Ordering.gt h c = omega arith

pub closest-near : (a b : ℕ) → 0 < b → Near (2 * (closest a b * b)) (2 * a) b
closest-near a b B =
    subst (λ (x : ℕ). Near (2 * (closest a b * b)) (2 * x) b) (div-add-mod' a b)
    (near-at (a / b) (a % b) b (compare (a % b * 2) b) (mod-lt a B) (cmp (a % b * 2) b))

-- ---- the same of `round`'s choice of a unit. What it keeps has 24 digits at least, where it drops any
all_in_use : (z p : ℕ) → 0 < p → 0 < z - p → p - 1 + (z - p) < z
all_in_use z p P h = omega arith

pub kept-ge : (p n den : ℕ) → 0 < p → 0 < drop p n den → 2 ^ (p - 1) ≤ kept p n den
kept-ge p n den P K =
    let k = drop p n den in
    let u = den * 2 ^ k in
    let w = n / den in
    let a : 2 ^ (p - 1) * 2 ^ k ≤ w = le_trans (le_of_eq (sym (pow-add 2 (p - 1) k))) (size_reaches w (p - 1 + k) (all_in_use (size w) p P K)) in
    le_trans (subst (λ (x : ℕ). 2 ^ (p - 1) ≤ x) (div-div-eq-div-mul n den (2 ^ k)) ((le-div_iff_mul-le (pow_pos k)).1 a)) (nearest-ge (n / u) (compare (n % u * 2) u))

pub kept-le : (n c : ℕ) → kept 24 n c ≤ 2 ^ 24
kept-le n c =
    let k = drop 24 n c in
    let u = c * 2 ^ k in
    le_trans (nearest-le (n / u) (compare (n % u * 2) u)) (subst (λ (x : ℕ). x < 2 ^ 24) (div-div-eq-div-mul n c (2 ^ k)) (kept-lt 24 (n / c)))

-- n / c units rounded to 24 digits, in units
abbrev pub rounded : ℕ → ℕ → ℕ
rounded n c = kept 24 n c * 2 ^ drop 24 n c

-- half a unit in the last place
pub half-ulp : (n c : ℕ) → 0 < c → Near (2 * (rounded n c * c)) (2 * n) (c * 2 ^ drop 24 n c)
half-ulp n c C = go (kept 24 n c) (2 ^ drop 24 n c) (closest-near n (c * 2 ^ drop 24 n c) (mul-pos C (pow_pos (drop 24 n c))))
  where
    go : (q u : ℕ) → Near (2 * (q * (c * u))) (2 * n) (c * u) → Near (2 * (q * u * c)) (2 * n) (c * u)
    go q u h = omega arith

-- either nothing is dropped, or the unit is at most a part in 2 ^ 23 of the result
pub unit_size : (n c : ℕ) → (drop 24 n c ≡ 0) ⊎ (8388608 * 2 ^ drop 24 n c ≤ rounded n c)
unit_size n c = elim (eq-zero-or-pos (drop 24 n c)) [ inl z ↦ inl z | inr h ↦ inr (mul-le-mul_right (2 ^ drop 24 n c) (kept-ge 24 n c (lit< tt) h)) ]

-- so the error is at most a part in 2 ^ 24 of the result, or of 2 ^ 23 units where the result is below that
pub relative : (n c m : ℕ) → 0 < c → rounded n c ≤ m → 8388608 ≤ m → Near (16777216 * (rounded n c * c)) (16777216 * n) (c * m)
relative n c m C R M =
    elim (unit_size n c) [
      | inl z ↦ flat (rounded n c) (subst (λ (k : ℕ). Near (2 * (rounded n c * c)) (2 * n) (c * 2 ^ k)) z (half-ulp n c C))
      | inr h ↦ steep (rounded n c) (2 ^ drop 24 n c) R h (half-ulp n c C)
    ]
  where
    flat : (r : ℕ) → Near (2 * (r * c)) (2 * n) (c * 2 ^ 0) → Near (16777216 * (r * c)) (16777216 * n) (c * m)
    flat r h = let w : 8388608 * c ≤ m * c = mul-le-mul_right c M in omega arith

    steep : (r u : ℕ) → r ≤ m → 8388608 * u ≤ r → Near (2 * (r * c)) (2 * n) (c * u) → Near (16777216 * (r * c)) (16777216 * n) (c * m)
    steep r u x y h = let w : 8388608 * u * c ≤ m * c = mul-le-mul_right c (le_trans y x) in omega arith

-- where n / c is a whole number of units w (a sum, a difference, a product by a whole number), there is no floor: nothing below 2 ^ 24
-- units is rounded
pub relative-whole : (n c w : ℕ) → 0 < c → n ≡ w * c → Near (16777216 * rounded n c) (16777216 * w) (rounded n c)
relative-whole n c w C e =
    elim (unit_size n c) [
      | inl z ↦ flat (rounded n c) (subst (λ (k : ℕ). Near (2 * (rounded n c * c)) (2 * n) (c * 2 ^ k)) z (half-ulp n c C))
      | inr h ↦ steep (rounded n c) (2 ^ drop 24 n c) h (half-ulp n c C)
    ]
  where
    cancel : {x y : ℕ} → x * c ≤ y * c → x ≤ y
    cancel h = le_of_mul-le-mul_right h C

    flat : (r : ℕ) → Near (2 * (r * c)) (2 * n) (c * 2 ^ 0) → Near (16777216 * r) (16777216 * w) r
    flat r h =
        let a : 2 * r ≤ 2 * w + 1 = cancel (omega arith) in
        let b : 2 * w ≤ 2 * r + 1 = cancel (omega arith) in
        omega arith

    steep : (r u : ℕ) → 8388608 * u ≤ r → Near (2 * (r * c)) (2 * n) (c * u) → Near (16777216 * r) (16777216 * w) r
    steep r u y h =
        let a : 2 * r ≤ 2 * w + u = cancel (omega arith) in
        let b : 2 * w ≤ 2 * r + u = cancel (omega arith) in
        omega arith
