-- The chain of the six roundings, over whole numbers alone: the difference, the step, the offset, the quotient, the product and the sum.
use Rattle.std.specs.Prelude.{◌≡◌, ◌⊎◌, ℕ, ◌+◌, ◌-◌, ◌*◌, ◌^◌, ◌≤◌, ◌<◌, max}
use Rattle.std.proofs.Common.{inl, inr, mul-le-mul_right, le_of_mul-le-mul_right, lt_of_not-le, not-le_of_lt, arith}
use Rattle.float32.specs.Laws.Rounded.{Near}

-- ---- small steps, each with few hypotheses: `omega` stops where a number on its way has more than 38 digits
clip-offset : (A A' S : ℕ) → Near (16777216 * A') (16777216 * A) A' → 16777216 * A' ≤ 4278191355 * S → Near (16777216 * A') (16777216 * A) (256 * S)
clip-offset A A' S h o = let a : A' ≤ 256 * S = omega arith in omega arith

clip-product : (P X S : ℕ) → Near (16777216 * P) (16777216 * X) P → X ≤ 255 * S → Near (16777216 * P) (16777216 * X) (256 * S)
clip-product P X S h o = let a : P ≤ 256 * S = omega arith in omega arith

join_up : (P X A' A S : ℕ) → 16777216 * P ≤ 16777216 * X + 256 * S → 33554432 * X ≤ 33554432 * A' + (16777216 * S + 512 * S) → 16777216 * A' ≤ 16777216 * A + 256 * S → 33554432 * P ≤ 33554432 * A
    + (16777216 * S + 1536 * S)
join_up P X A' A S p x a = omega arith

-- the last sum. Its result r is at most 2 * (M + S) in size
size-of-last : (A P S vp vm lp lm rp rm M : ℕ) → vp + lm ≡ A + (vm + lp) → vp + vm ≤ M → P ≤ A + S → A ≤ P + S
    → Near (16777216 * (rp + lm)) (16777216 * (rm + (P + lp))) (rp + rm) → (rp ≡ 0) ⊎ (rm ≡ 0) → rp + rm ≤ 2 * M + 2 * S
size-of-last A P S vp vm lp lm rp rm M e m pa ap n z = elim z [ inl z ↦ at z | inr z ↦ at' z ]
  where
    at : rp ≡ 0 → rp + rm ≤ 2 * M + 2 * S
    at z = let a : rm + (P + lp) ≤ lm + M + S + rm = omega arith in omega arith

    at' : rm ≡ 0 → rp + rm ≤ 2 * M + 2 * S
    at' z = omega arith

last_up : (A P S X vp vm lp lm rp rm M : ℕ) → vp + lm ≡ A + (vm + lp) → 33554432 * P ≤ 33554432 * A + (16777216 * S + 1536 * S) → 16777216 * (rp + lm) ≤ 16777216 * (rm + (P + lp)) + X → X ≤ 2 * M
    + 2 * S
    → 8388608 * (rp + vm) ≤ 8388608 * (rm + vp) + (4194304 * S + 512 * S + M)
last_up A P S X vp vm lp lm rp rm M e p n x = omega arith

last-dn : (A P S X vp vm lp lm rp rm M : ℕ) → vp + lm ≡ A + (vm + lp) → 33554432 * A ≤ 33554432 * P + (16777216 * S + 1536 * S) → 16777216 * (rm + (P + lp)) ≤ 16777216 * (rp + lm) + X → X ≤ 2 * M
    + 2 * S
    → 8388608 * (rm + vp) ≤ 8388608 * (rp + vm) + (4194304 * S + 512 * S + M)
last-dn A P S X vp vm lp lm rp rm M e p n x = omega arith

within : (P A S : ℕ) → 33554432 * P ≤ 33554432 * A + (16777216 * S + 1536 * S) → P ≤ A + S
within P A S h = omega arith

-- ---- D = greatest - least and A = value - least, exactly; D' and A' the same rounded; S the step; Q the quotient; C the code; P the
-- product. L is 1 in units.
cancel : (k : ℕ) {x y : ℕ} → 0 < k → x * k ≤ y * k → x ≤ y
cancel k K h = le_of_mul-le-mul_right h K

pub offset-small : (D A D' A' S : ℕ) → A ≤ D → Near (16777216 * D') (16777216 * D) D' → Near (16777216 * (S * 255)) (16777216 * D') (255 * S) → Near (16777216 * A') (16777216 * A) A'
    → 16777216 * A' ≤ 4278191355 * S
offset-small D A D' A' S le h1 h2 h3 = omega arith

module _ (A' S L Q : ℕ) (SP : 0 < S) (LP : 8388608 ≤ L) (off : 16777216 * A' ≤ 4278191355 * S)
    (h4 : (m : ℕ) → Q ≤ m → 8388608 ≤ m → Near (16777216 * (Q * S)) (16777216 * (A' * L)) (S * m)) where
  pub quotient-small : 2 * Q < 511 * L
  quotient-small =
      lt_of_not-le (λ (g : 511 * L ≤ 2 * Q).
      let a : Near (16777216 * (Q * S)) (16777216 * (A' * L)) (S * Q) = h4 Q (omega arith) (omega arith) in
      let b : 16777216 * A' * L ≤ 4278191355 * S * L = mul-le-mul_right L off in
      let c : 16777215 * Q ≤ 4278191355 * L = cancel S SP (omega arith) in
      not-le_of_lt (no c) g)
    where
      no : 16777215 * Q ≤ 4278191355 * L → 2 * Q < 511 * L
      no c = omega arith

  module _ (C : ℕ) (h5 : 2 * (C * L) ≤ 2 * Q + L) (h5' : 2 * Q ≤ 2 * (C * L) + L) where
    pub code-small : C ≤ 255
    code-small = below (lt_of_not-le (λ (g : 256 ≤ C). let a : 256 * L ≤ C * L = mul-le-mul_right L g in not-le_of_lt quotient-small (omega arith)))
      where
        below : C < 256 → C ≤ 255
        below h = omega arith

    pub product-near : (A P : ℕ) → Near (16777216 * A') (16777216 * A) A' → Near (16777216 * P) (16777216 * (C * S)) P → Near (33554432 * P) (33554432 * A) (16777216 * S + 1536 * S)
    product-near A P h3 h6 =
        let q : Near (16777216 * (Q * S)) (16777216 * (A' * L)) (S * (256 * L)) = h4 (256 * L) (omega (arith, quotient-small)) (omega arith) in
        let a : 2 * (C * L) * S ≤ (2 * Q + L) * S = mul-le-mul_right S h5 in
        let b : 2 * Q * S ≤ (2 * (C * L) + L) * S = mul-le-mul_right S h5' in
        let c : 33554432 * (C * S) ≤ 33554432 * A' + (16777216 * S + 512 * S) = cancel L (omega arith) (omega arith) in
        let d : 33554432 * A' ≤ 33554432 * (C * S) + (16777216 * S + 512 * S) = cancel L (omega arith) (omega arith) in
        let e : C * S ≤ 255 * S = mul-le-mul_right S code-small in
        let p : Near (16777216 * P) (16777216 * (C * S)) (256 * S) = clip-product P (C * S) S h6 e in
        let a' : Near (16777216 * A') (16777216 * A) (256 * S) = clip-offset A A' S h3 off in
        record { up = join_up P (C * S) A' A S p.up c a'.up; dn = join_up A A' (C * S) P S a'.dn d p.dn }

-- the last sum, with signs: v = v⁺ - v⁻, l = l⁺ - l⁻, r = r⁺ - r⁻, v - l = A, |v| ≤ M
pub final : (A P S vp vm lp lm rp rm M : ℕ) → Near (33554432 * P) (33554432 * A) (16777216 * S + 1536 * S) → vp + lm ≡ A + (vm + lp) → vp + vm ≤ M
    → Near (16777216 * (rp + lm)) (16777216 * (rm + (P + lp))) (rp + rm) → (rp ≡ 0) ⊎ (rm ≡ 0)
    → Near (8388608 * (rp + vm)) (8388608 * (rm + vp)) (4194304 * S + 512 * S + M)
final A P S vp vm lp lm rp rm M p e m n z =
    let x : rp + rm ≤ 2 * M + 2 * S = size-of-last A P S vp vm lp lm rp rm M e m (within P A S p.up) (within A P S p.dn) n z in
    record { up = last_up A P S (rp + rm) vp vm lp lm rp rm M e p.up n.up x; dn = last-dn A P S (rp + rm) vp vm lp lm rp rm M e p.dn n.dn x }

-- ---- two numbers l ≤ g and a v between them, each as what is above zero and what is below
-- |v| is at most the larger of |l| and |g|
pub between : (lp lm vp vm gp gm : ℕ) → lp + vm ≤ vp + lm → vp + gm ≤ gp + vm → (vp ≡ 0) ⊎ (vm ≡ 0) → vp + vm ≤ max (lp + lm) (gp + gm)
between lp lm vp vm gp gm a b z = elim z [ inl z ↦ omega arith | inr z ↦ omega arith ]

pub through : (lp lm vp vm gp gm : ℕ) → lp + vm ≤ vp + lm → vp + gm ≤ gp + vm → lp + gm ≤ gp + lm
through lp lm vp vm gp gm a b = omega arith

pub part : (lp lm vp vm gp gm : ℕ) → lp + vm ≤ vp + lm → vp + gm ≤ gp + vm → (vp + lm) - (lp + vm) ≤ (gp + lm) - (lp + gm)
part lp lm vp vm gp gm a b = omega arith

pub whole-diff : (lp lm vp vm : ℕ) → lp + vm ≤ vp + lm → vp + lm ≡ ((vp + lm) - (lp + vm)) + (vm + lp)
whole-diff lp lm vp vm a = omega arith

pub diff-size : (d w n m o : ℕ) → Near (16777216 * d) (16777216 * w) d → w ≤ n + m → n ≤ o * 2 ^ 32 → m ≤ o * 2 ^ 32 → d ≤ o * 2 ^ 34
diff-size d w n m o h k a b = let x : d ≤ 2 * w = omega arith in omega arith

pub sub-le : (a b : ℕ) → a - b ≤ a
sub-le a b = omega arith
