-- One turn of writing offsets, and its end.
use Prim.Native.Nat.{ℕ, suc, ◌+◌, ◌*◌, ◌≤◌, ◌<◌, ◌/◌}
use mathlib.Core.Path.{◌≡◌, sym, ap, ◌∙◌}
use mathlib.Core.List.{List, [], ◌∷◌, ◌++◌, append_assoc}
use native.Mathlib.Nat.{mul-le-mul_right}
use native.Mathlib.Numerals.{add-one}
use native.Mathlib.Omega.{arith}
use lib.ListN.{length, set, drop}
use lib.Seq.{drop-cons, set_at}
use Rattle.blocking.specs.Blocking.{starts, fixed_offsets, in_front}
use Rattle.blocking.specs.Laws.Blocking.{starts_more, length-starts, offsets-number}

-- the next start fits where the starts of k blocks do
pub next_fits : (n b k i : ℕ) → i < k → k * b ≤ n → i * b + b ≤ n
next_fits n b k i h le = omega (arith, mul-le-mul_right b h)

module _ (b i : ℕ) (old : List ℕ) (w : i < length old) where
  -- a store after the first i starts
  stored : (v : ℕ) → set (starts b i ++ drop i old) i v ≡ (starts b i ++ (v ∷ [])) ++ drop (suc i) old
  stored v =
      ap (λ l. set (starts b i ++ l) i v) (drop-cons old i 0 w)
      ∙ set_at (starts b i) _ (drop (suc i) old) v i (length-starts b i)
      ∙ sym (append_assoc (starts b i) (v ∷ []) (drop (suc i) old))

  pub one_more : set (starts b i ++ drop i old) i (i * b) ≡ starts b (i + 1) ++ drop (i + 1) old
  one_more = stored (i * b) ∙ rw (add-one i) (ap (λ l. l ++ drop (suc i) old) (sym (starts_more b i)))

  pub ended : (n : ℕ) → i ≡ n / b → set (starts b i ++ drop i old) i n ≡ in_front (fixed_offsets n b) old
  unfolding fixed_offsets
  ended n e = stored n ∙ rw (offsets-number n b, ← e)
