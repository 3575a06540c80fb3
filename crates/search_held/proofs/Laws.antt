-- The worst kept score, the order's number, and a block.
use Prim.Native.Nat.{ℕ, ◌+◌, ◌-◌}
use mathlib.Core.Path.{◌≡◌}
use mathlib.Core.List.{List}
use lib.ListN.{get_or}
use lib.Ieee.{Float, nan}
use borrow.Author.Tests.{eq-eqb, ne_eqb}
use Rattle.search_held.specs.declared.Block.{Block}
use Rattle.search_held.specs.Blocks.{worst_held, block_at}

-- ---- the worst kept score
pub worst-none : (n : ℕ) (xs : List Float) → n ≡ 0 → nan ≡ worst_held n xs
worst-none n xs h = rw (eq-eqb n 0 h)

pub worst-some : (n : ℕ) (xs : List Float) (x : Float) → (n ≡ 0 → ⊥) → x ≡ get_or xs (n - 1) nan → x ≡ worst_held n xs
worst-some n xs x h e = rw (ne_eqb n 0 h) e

-- ---- a block
pub block-is : (os : List ℕ) (xs : List Float) (n b : ℕ) (x : Float) (s e : ℕ) → n ≡ b → x ≡ get_or xs n nan → s ≡ get_or os n 0 → e ≡ get_or os (n + 1) 0
    → ◌≡◌ {A = Block} (record { score = x; start = s; end = e }) (block_at os xs b)
unfolding block_at
block-is os xs n b x s e m p q r = rw (p, q, r, m)
