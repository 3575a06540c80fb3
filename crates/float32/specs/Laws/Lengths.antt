-- How the f32 nearest to a u64 is found with one rounding: a number of 48 digits is a sum of two floats, and of a longer one the last
-- digits matter only by whether any of them is set.
use Rattle.std.specs.Prelude.{◌≡◌, ℕ, suc, ◌+◌, ◌-◌, ◌*◌, ◌/◌, ◌%◌, ◌^◌, ◌<◌, ◌≤◌, Bool, false, T, pos, ◌==◌, ◌≢◌, nat_le, refl, Float}
use Rattle.std.proofs.Common.{sym, ap, ◌∙◌, subst, inl, inr, le_trans, le_of_eq, le_of_lt, le_antisymm, lt_of_le_of_lt, lt_of_lt_of_le, lt_of_not-le, not-le_of_lt, mul-le-mul_left, mul-le-mul_right, mul-lt-mul_of_pos_right, lt_of_mul-lt-mul_right, mul-pos, mul_assoc, mul-one, one-mul, div-one, div-mul-le_self, div-add-mod', mod-lt, arith, le→leb, lit<, lit≤, eqb-true, pow_pos, pow_mono, pow-add}
use Rattle.std.proofs.lemmas.Bool.{eqb-false}
use Rattle.std.specs.Float.{fin, binary32}
use Rattle.std.specs.Float.Ieee.{round, units, sum, add, mul, of_int, size}
use Rattle.std.specs.Float.Ieee.Digits.{size-lt, size-le, back}
use Rattle.std.specs.Float.Ieee.Fits.{core, round_is}
use Rattle.std.specs.Float.Ieee.Exact.{HasValue, round_exact}
use Rattle.std.specs.Float.Ieee.Nearest.{closest}
use Rattle.sequences.specs.Laws.Lists.{decide}
use Rattle.float32.specs.Laws.Rounded.{Near, closest-near}
use Rattle.float32.specs.Laws.Operations.{mul-by, add-by, int-value}
use Rattle.float32.specs.Lengths.{without_end}

-- ---- two halves, each exact
pub shifted : (n k : ℕ) → n < 2 ^ 24 → k ≤ 64 → HasValue (mul binary32 (of_int binary32 (pos n)) (fin false 1 (pos k))) false (n * 2 ^ k) 1
shifted n k h l =
    subst (λ (z : Float). HasValue z false (n * 2 ^ k) 1)
    (sym (mul-by binary32 (of_int binary32 (pos n)) (fin false 1 (pos k)) false false n 1 (2 ^ k) 1 (lit< tt) (lit< tt) (int-value n (le_of_lt h)) (refl, ap (λ (z : ℕ). z * 1) (one-mul (2 ^ k)))))
    (round_exact binary32 false (n * 2 ^ k) 1 n (k + 149) (lit< tt) h room (sym (mul-one (n * 2 ^ (k + 149)) ∙ tail)))
  where
    tail : n * 2 ^ (k + 149) ≡ n * 2 ^ k * 2 ^ 149
    tail = ap (λ (z : ℕ). n * z) (pow-add 2 k 149) ∙ sym (mul_assoc n (2 ^ k) (2 ^ 149))

    room : n * 2 ^ (k + 149) < 2 ^ 277
    room = lt_of_lt_of_le (mul-lt-mul_of_pos_right h (pow_pos (k + 149))) (le_trans (mul-le-mul_left (2 ^ 24) (pow_mono (more k l))) (lit≤ tt))
      where
        more : (k : ℕ) → k ≤ 64 → k + 149 ≤ 213
        more k l = omega arith

pub joined : (x y : Float) (a b : ℕ) → HasValue x false a 1 → HasValue y false b 1 → add binary32 x y ≡ round binary32 false (a + b) 1
unfolding sum
joined x y a b p q = add-by binary32 x y false false a b 1 (lit< tt) p q

-- ---- two numbers that lie strictly between the same multiples of a step, well below the last digit kept, round alike
-- what lies strictly between the half steps h and h + 1 has one nearest whole step
between-halves : (h v a x : ℕ) → 0 < v → h * v < a → a < suc h * v → Near (2 * (x * (2 * v))) (2 * a) (2 * v) → x ≡ (h + 1) / 2
between-halves h v a x P lo hi n =
    last h x
    (lt_of_mul-lt-mul_right v (up h v a x hi n.up))
    (lt_of_mul-lt-mul_right v (dn h v a x lo n.dn))
  where
    up : (h v a x : ℕ) → a < suc h * v → 2 * (x * (2 * v)) ≤ 2 * a + 2 * v → 2 * x * v < (h + 2) * v
    up h v a x hi n = omega arith

    dn : (h v a x : ℕ) → h * v < a → 2 * a ≤ 2 * (x * (2 * v)) + 2 * v → h * v < (2 * x + 1) * v
    dn h v a x lo n = omega arith

    last : (h x : ℕ) → 2 * x < h + 2 → h < 2 * x + 1 → x ≡ (h + 1) / 2
    last h x p q = omega arith

-- the step is 2 ^ 166 units, which is 2 ^ 17
abbrev Inside : ℕ → ℕ → Type 0
Inside b n = (b * 2 ^ 166 < n) × (n < suc b * 2 ^ 166)

split : (z : ℕ) → 166 ≤ z → 2 ^ z ≡ 2 ^ (z - 166) * 2 ^ 166
split z h = ap (λ (k : ℕ). 2 ^ k) (sym (back z 166 h)) ∙ pow-add 2 (z - 166) 166

module _ (b : ℕ) (B : 2 ^ 31 ≤ b) where
  many : (n : ℕ) → Inside b n → 198 ≤ size n
  many n i =
      lt_of_not-le (λ (g : size n ≤ 197).
      not-le_of_lt i.0 (le_trans (le_of_lt (size-lt n)) (le_trans (pow_mono g) (le_trans (lit≤ tt) (mul-le-mul_right (2 ^ 166) B)))))

  fewer_digits : (n m : ℕ) → Inside b n → Inside b m → size n ≤ size m
  fewer_digits n m i j =
      let e = split (size m) (le_trans (lit≤ tt) (many m j)) in
      let l : b < 2 ^ (size m - 166) = lt_of_mul-lt-mul_right (2 ^ 166) (lt_of_lt_of_le (i' m j) (le_of_eq e)) in
      size-le n (size m) (lt_of_lt_of_le i.1 (le_trans (mul-le-mul_right (2 ^ 166) l) (le_of_eq (sym e))))
    where
      i' : (m : ℕ) → Inside b m → b * 2 ^ 166 < 2 ^ size m
      i' m j = lt_of_le_of_lt (le_of_lt j.0) (size-lt m)

  -- 2 ^ w steps are half of the unit in the last place
  to-half : (n w u : ℕ) → Inside b n → u ≡ 2 * (2 ^ w * 2 ^ 166) → closest n u ≡ (b / 2 ^ w + 1) / 2
  to-half n w u i e =
      between-halves (b / 2 ^ w) (2 ^ w * 2 ^ 166) n (closest n u) (mul-pos (pow_pos w) (pow_pos 166))
      (lt_of_le_of_lt (le_trans (le_of_eq (sym (mul_assoc (b / 2 ^ w) (2 ^ w) (2 ^ 166)))) (mul-le-mul_right (2 ^ 166) (div-mul-le_self b (2 ^ w)))) i.0)
      (lt_of_lt_of_le i.1 (le_trans (mul-le-mul_right (2 ^ 166) (above (b / 2 ^ w) (b % 2 ^ w) (2 ^ w) (div-add-mod' b (2 ^ w)) (mod-lt b (pow_pos w))))
      (le_of_eq (mul_assoc (suc (b / 2 ^ w)) (2 ^ w) (2 ^ 166)))))
      (at (closest n u) u e (closest-near n u (subst (λ (z : ℕ). 0 < z) (sym e) (mul-pos (lit< tt) (mul-pos (pow_pos w) (pow_pos 166))))))
    where
      above : (q r d : ℕ) → q * d + r ≡ b → r < d → b < suc q * d
      above q r d e l = omega arith

      at : (x u : ℕ) → u ≡ 2 * (2 ^ w * 2 ^ 166) → Near (2 * (x * u)) (2 * n) u → Near (2 * (x * (2 * (2 ^ w * 2 ^ 166)))) (2 * n) (2 * (2 ^ w * 2 ^ 166))
      at x u e h = subst (λ (z : ℕ). Near (2 * (x * z)) (2 * n) z) e h

  unit : (k : ℕ) → 174 ≤ k → 1 * 2 ^ k ≡ 2 * (2 ^ (k - 167) * 2 ^ 166)
  unit k h = one-mul (2 ^ k) ∙ ap (λ (z : ℕ). 2 ^ z) (whole k h) ∙ pow-add 2 1 (k - 167 + 166) ∙ ap (λ (z : ℕ). 2 * z) (pow-add 2 (k - 167) 166)
    where
      whole : (k : ℕ) → 174 ≤ k → k ≡ 1 + (k - 167 + 166)
      whole k h = omega arith

  pub rounds-alike : (s : Bool) (n m : ℕ) → Inside b (n * 2 ^ 149) → Inside b (m * 2 ^ 149) → round binary32 s n 1 ≡ round binary32 s m 1
  rounds-alike s n m i j =
      let z : size (n * 2 ^ 149) ≡ size (m * 2 ^ 149) = le_antisymm (fewer_digits (n * 2 ^ 149) (m * 2 ^ 149) i j) (fewer_digits (m * 2 ^ 149) (n * 2 ^ 149) j i) in
      let k = size (n * 2 ^ 149) - 24 in
      let u = unit k (digits (size (n * 2 ^ 149)) (many (n * 2 ^ 149) i)) in
      round_is binary32 s n 1
      ∙ ap (λ (x : ℕ). core binary32 s (n * 2 ^ 149) 1 (size x - 24)) (div-one (n * 2 ^ 149))
      ∙ ap (λ (x : ℕ). units binary32 s x k) (to-half (n * 2 ^ 149) (k - 167) (1 * 2 ^ k) i u ∙ sym (to-half (m * 2 ^ 149) (k - 167) (1 * 2 ^ k) j u))
      ∙ ap (λ (x : ℕ). core binary32 s (m * 2 ^ 149) 1 (x - 24)) z
      ∙ sym (ap (λ (x : ℕ). core binary32 s (m * 2 ^ 149) 1 (size x - 24)) (div-one (m * 2 ^ 149)))
      ∙ sym (round_is binary32 s m 1)
    where
      digits : (z : ℕ) → 198 ≤ z → 174 ≤ z - 24
      digits z h = omega arith

end-small : (n : ℕ) → n < 18446744073709551616 → without_end n < 281474976710656
end-small n h = elim (decide (n % 65536 == 0)) [ inl e ↦ rw e (omega arith) | inr e ↦ rw e (omega arith) ]

pub kept_small : (n m : ℕ) → n < 18446744073709551616 → m ≡ without_end n → m < 281474976710656
kept_small n m h e = subst (λ (k : ℕ). k < 281474976710656) (sym e) (end-small n h)

-- both halves of 48 digits are whole numbers that f32 has
pub high_half : (n : ℕ) → n < 281474976710656 → T (nat_le (n / 16777216) 16777216)
high_half n h = le→leb (n / 16777216) 16777216 (omega arith)

pub low_half : (n : ℕ) → T (nat_le (n % 16777216) 16777216)
low_half n = le→leb (n % 16777216) 16777216 (omega arith)

inside : (b x : ℕ) → b * 131072 < x → x < suc b * 131072 → Inside b (x * 2 ^ 149)
inside b x lo hi = (
  lt_of_le_of_lt (le_of_eq (sym (mul_assoc b 131072 (2 ^ 149)))) (mul-lt-mul_of_pos_right lo (pow_pos 149)),
  lt_of_lt_of_le (mul-lt-mul_of_pos_right hi (pow_pos 149)) (le_of_eq (mul_assoc (suc b) 131072 (2 ^ 149))),
)

pub end-rounds-alike : (n : ℕ) → 281474976710656 ≤ n → round binary32 false (without_end n * 65536) 1 ≡ round binary32 false n 1
end-rounds-alike n h = elim (decide (n % 65536 == 0)) [
  | inl e ↦ let z = eqb-true (n % 65536) 0 e in rw e (ap (λ (x : ℕ). round binary32 false x 1) (none n z))
  | inr e ↦
      let z = eqb-false (n % 65536) 0 e in
      let b = n / 131072 in
      rw e (rounds-alike b (enough n h) false ((b * 2 + 1) * 65536) n (inside b ((b * 2 + 1) * 65536) (omega arith) (omega arith)) (inside b n (some n z) (omega arith)))
]
  where
    none : (n : ℕ) → n % 65536 ≡ 0 → n / 65536 * 65536 ≡ n
    none n z = omega arith

    enough : (n : ℕ) → 281474976710656 ≤ n → 2 ^ 31 ≤ n / 131072
    enough n h = omega arith

    some : (n : ℕ) → (n % 65536 ≢ 0) → n / 131072 * 131072 < n
    some n z = lt_of_not-le (λ (g : n ≤ n / 131072 * 131072). z (omega arith))

-- ---- the two sums
pub short-nearest : (n : ℕ) → n < 281474976710656
    → add binary32 (mul binary32 (of_int binary32 (pos (n / 16777216))) (fin false 1 (pos 24))) (of_int binary32 (pos (n % 16777216))) ≡ of_int binary32 (pos n)
unfolding of_int
short-nearest n h =
    joined (mul binary32 (of_int binary32 (pos (n / 16777216))) (fin false 1 (pos 24))) (of_int binary32 (pos (n % 16777216))) (n / 16777216 * 2 ^ 24) (n % 16777216)
    (shifted (n / 16777216) 24 (omega arith) (lit≤ tt)) (int-value (n % 16777216) (omega arith))
    ∙ ap (λ (x : ℕ). round binary32 false x 1) (div-add-mod' n 16777216)

pub long-nearest : (n m : ℕ) → 281474976710656 ≤ n → m ≡ without_end n → m < 281474976710656
    → add binary32 (mul binary32 (of_int binary32 (pos (m / 16777216))) (fin false 1 (pos 40))) (mul binary32 (of_int binary32 (pos (m % 16777216))) (fin false 1 (pos 16))) ≡ of_int binary32 (pos n)
unfolding of_int
long-nearest n m h e l =
    joined (mul binary32 (of_int binary32 (pos (m / 16777216))) (fin false 1 (pos 40))) (mul binary32 (of_int binary32 (pos (m % 16777216))) (fin false 1 (pos 16))) (m / 16777216 * 2 ^ 40)
    (m % 16777216 * 2 ^ 16)
    (shifted (m / 16777216) 40 (omega arith) (lit≤ tt)) (shifted (m % 16777216) 16 (omega arith) (lit≤ tt))
    ∙ ap (λ (x : ℕ). round binary32 false x 1) (parts m)
    ∙ ap (λ (x : ℕ). round binary32 false (x * 65536) 1) e
    ∙ end-rounds-alike n h
  where
    parts : (m : ℕ) → m / 16777216 * 1099511627776 + m % 16777216 * 65536 ≡ m * 65536
    parts m = omega arith
