-- Sums and differences of two numbers of units, with their signs, each rounded once.
use Rattle.std.specs.Prelude.{◌≡◌, ℕ, ◌+◌, ◌-◌, ◌*◌, ◌^◌, ◌<◌, ◌≤◌, Bool, true, false, cond, not, T, nat_lt, refl, Float}
use Rattle.std.proofs.Common.{sym, subst, arith, ltb→lt, nltb→le}
use Rattle.std.specs.Float.{binary32}
use Rattle.std.specs.Float.Ieee.{round, sum, sub}
use Rattle.std.specs.Float.Ieee.Exact.{HasValue}
use Rattle.float32.specs.Laws.Rounded.{Near}
use Rattle.float32.specs.Laws.Operations.{sub_by}
use Rattle.float32.specs.Units.{one, negative, mag, over, under, above, below, Ordered}
use Rattle.float32.specs.Laws.Units.{one-pos, value_of}
use Rattle.float32.specs.Laws.RoundedUnits.{Whole, round-units, twice}
use Rattle.float32.specs.Bound.{Bounded}

-- ---- a sum of two numbers of units, with their signs: the result u, z
pub record Sum (s t : Bool) (a b : ℕ) (x : Float) : Type 0 where
  pub sign : Bool
  pub size : ℕ
  pub value : HasValue x sign size one
  pub near : Near (16777216 * (over sign size + (under s a + under t b))) (16777216 * (under sign size + (over s a + over t b))) size
  pub small : size ≤ 2 * (a + b)

-- numbers this small do not overflow
abbrev pub Small : ℕ → Type 0
Small a = a ≤ one * 2 ^ 100

plain : (s : Bool) (a b : ℕ) (x : Float) → Whole (a + b) s x → Sum s s a b x
plain true a b x w = record { sign = true; size = w.size; value = w.value; near = near w.size w.near; small = twice w.size (a + b) w.near }
  where
    near : (r : ℕ) → Near (16777216 * r) (16777216 * (a + b)) r → Near (16777216 * (0 + (a + b))) (16777216 * (r + (0 + 0))) r
    near r h = omega arith
plain false a b x w = record { sign = false; size = w.size; value = w.value; near = near w.size w.near; small = twice w.size (a + b) w.near }
  where
    near : (r : ℕ) → Near (16777216 * r) (16777216 * (a + b)) r → Near (16777216 * (r + (0 + 0))) (16777216 * (0 + (a + b))) r
    near r h = omega arith

total-small : (a b : ℕ) → Small a → Small b → a + b ≤ one * 2 ^ 101
total-small a b h k = go one a b h k
  where
    go : (o a b : ℕ) → a ≤ o * 2 ^ 100 → b ≤ o * 2 ^ 100 → a + b ≤ o * 2 ^ 101
    go o a b h k = omega arith

diff-small : (a b : ℕ) → Small a → a - b ≤ one * 2 ^ 101
diff-small a b h = go one a b h
  where
    go : (o a b : ℕ) → a ≤ o * 2 ^ 100 → a - b ≤ o * 2 ^ 101
    go o a b h = omega arith

twice-diff : (r a b : ℕ) → r ≤ 2 * (a - b) → r ≤ 2 * (a + b)
twice-diff r a b h = omega arith

twice-diff' : (r a b : ℕ) → r ≤ 2 * (b - a) → r ≤ 2 * (a + b)
twice-diff' r a b h = omega arith

-- a negative a and a b that is not negative
minus_plus : (a b : ℕ) (y z : Bool) → (T y → a < b) → (T (not y) → b ≤ a) → (T (not z) → a ≤ b) → Small a → Small b
    → Sum true false a b (cond y (round binary32 false (b - a) one) (round binary32 z (a - b) one))
minus_plus a b true z lt ge le A B =
    let w = round-units false (b - a) (diff-small b a B) in
    record { sign = false; size = w.size; value = w.value; near = near w.size (lt tt) w.near; small = twice-diff' w.size a b (twice w.size (b - a) w.near) }
  where
    near : (r : ℕ) → a < b → Near (16777216 * r) (16777216 * (b - a)) r → Near (16777216 * (r + (a + 0))) (16777216 * (0 + (0 + b))) r
    near r l h = omega arith
minus_plus a b false true lt ge le A B =
    let w = round-units true (a - b) (diff-small a b A) in
    record { sign = true; size = w.size; value = w.value; near = near w.size (ge tt) w.near; small = twice-diff w.size a b (twice w.size (a - b) w.near) }
  where
    near : (r : ℕ) → b ≤ a → Near (16777216 * r) (16777216 * (a - b)) r → Near (16777216 * (0 + (a + 0))) (16777216 * (r + (0 + b))) r
    near r l h = omega arith
minus_plus a b false false lt ge le A B =
    let w = round-units false (a - b) (diff-small a b A) in
    record { sign = false; size = w.size; value = w.value; near = near w.size (ge tt) (le tt) w.near; small = twice-diff w.size a b (twice w.size (a - b) w.near) }
  where
    near : (r : ℕ) → b ≤ a → a ≤ b → Near (16777216 * r) (16777216 * (a - b)) r → Near (16777216 * (r + (a + 0))) (16777216 * (0 + (0 + b))) r
    near r l g h = omega arith

plus-minus : (a b : ℕ) (y : Bool) → (T y → a < b) → (T (not y) → b ≤ a) → Small a → Small b
    → Sum false true a b (cond y (round binary32 true (b - a) one) (round binary32 false (a - b) one))
plus-minus a b true lt ge A B =
    let w = round-units true (b - a) (diff-small b a B) in
    record { sign = true; size = w.size; value = w.value; near = near w.size (lt tt) w.near; small = twice-diff' w.size a b (twice w.size (b - a) w.near) }
  where
    near : (r : ℕ) → a < b → Near (16777216 * r) (16777216 * (b - a)) r → Near (16777216 * (0 + (0 + b))) (16777216 * (r + (a + 0))) r
    near r l h = omega arith
plus-minus a b false lt ge A B =
    let w = round-units false (a - b) (diff-small a b A) in
    record { sign = false; size = w.size; value = w.value; near = near w.size (ge tt) w.near; small = twice-diff w.size a b (twice w.size (a - b) w.near) }
  where
    near : (r : ℕ) → b ≤ a → Near (16777216 * r) (16777216 * (a - b)) r → Near (16777216 * (r + (0 + b))) (16777216 * (0 + (a + 0))) r
    near r l h = omega arith

pub sum-units : (s t : Bool) (a b : ℕ) → Small a → Small b → Sum s t a b (sum binary32 s a t b one)
unfolding sum
sum-units true true a b A B = plain true a b (round binary32 true (a + b) one) (round-units true (a + b) (total-small a b A B))
sum-units false false a b A B = plain false a b (round binary32 false (a + b) one) (round-units false (a + b) (total-small a b A B))
sum-units true false a b A B = minus_plus a b (nat_lt a b) (nat_lt b a) (ltb→lt a b) (nltb→le a b) (nltb→le b a) A B
sum-units false true a b A B = plus-minus a b (nat_lt a b) (ltb→lt a b) (nltb→le a b) A B

-- ---- a difference of two bounded values that is not negative
over-not : (s : Bool) (n : ℕ) → over (not s) n ≡ under s n
over-not true n = refl
over-not false n = refl

under-not : (s : Bool) (n : ℕ) → under (not s) n ≡ over s n
under-not true n = refl
under-not false n = refl

pub record Diff (w : ℕ) (x : Float) : Type 0 where
  pub sign : Bool
  pub size : ℕ
  pub value : HasValue x sign size one
  pub near : Near (16777216 * size) (16777216 * w) size
  pub zero_if : T sign → size ≡ 0

diff-of : (u : Bool) (d x y : ℕ) → x ≤ y → Near (16777216 * (over u d + x)) (16777216 * (under u d + y)) d → Near (16777216 * d) (16777216 * (y - x)) d × (T u → d ≡ 0)
diff-of true d x y h n = omega arith
diff-of false d x y h n = (omega arith, (λ t. absurd t))

-- what is in bound is far from overflow
pub wide : (o n : ℕ) → n ≤ o * 2 ^ 32 → n ≤ o * 2 ^ 100
wide o n h = omega arith

pub sub-units : (x y : Float) → Bounded x → Bounded y → Ordered y x → Diff ((above x + below y) - (above y + below x)) (sub binary32 x y)
sub-units x y X Y h =
    let s = negative x in
    let t = negative y in
    let a = mag x in
    let b = mag y in
    let z : Sum s (not t) a b (sub binary32 x y) =
    subst (Sum s (not t) a b) (sym (sub_by binary32 x y s t a b one one-pos (value_of x X.fit X.fin) (value_of y Y.fit Y.fin)))
    (sum-units s (not t) a b (wide one a X.small) (wide one b Y.small)) in
    let n = subst (λ (k : ℕ). Near (16777216 * (over z.sign z.size + (under s a + k))) (16777216 * (under z.sign z.size + (over s a + over (not t) b))) z.size) (under-not t b)
    z.near in
    let n' = subst (λ (k : ℕ). Near (16777216 * (over z.sign z.size + (under s a + over t b))) (16777216 * (under z.sign z.size + (over s a + k))) z.size) (over-not t b) n in
    let r = diff-of z.sign z.size (under s a + over t b) (over s a + under t b) (flip (over t b) (under s a) (over s a) (under t b) h) n' in
    record {
      sign = z.sign;
      size = z.size;
      value = z.value;
      near = subst (λ (k : ℕ). Near (16777216 * z.size) (16777216 * (over s a + under t b - k)) z.size) (turn (under s a) (over t b))
          r.0;
      zero_if = r.1;
    }
  where
    flip : (p q r s : ℕ) → p + q ≤ r + s → q + p ≤ r + s
    flip p q r s h = omega arith

    turn : (p q : ℕ) → p + q ≡ q + p
    turn p q = omega arith
