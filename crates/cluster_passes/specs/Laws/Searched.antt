-- Laws of the search for a rank in a sorted list: from any part that holds it, it is how many are less.
use Prim.Native.Nat.{ℕ, zero, suc, ◌+◌, ◌≤◌, ◌<◌}
use native.Mathlib.Omega.{arith}
use Rattle.std.specs.Prelude.{◌≡◌, Bool, List}
use Rattle.std.proofs.Math.Path.{refl}
use Rattle.std.proofs.Math.Bool.{true, false, cond}
use Rattle.std.proofs.Math.ListN.{length, get_or}
use Rattle.std.proofs.Math.Dec.{ltb}
use borrow.Author.Tests.{ltb-true, ltb-false}
use Rattle.sort.specs.Ranked.{middle, searched}
use Rattle.cluster_meaning.specs.Laws.Ordered.{Ordered}
use Rattle.cluster_meaning.specs.Laws.Ranks.{rank_of}
use Rattle.cluster_meaning.specs.Laws.Search.{rank-found, lower-all, upper-all}

module _ (l : List ℕ) (x : ℕ) (o : Ordered l) where
  pub search-found : (n low high : ℕ) → low ≤ high → high ≤ length l → high ≤ n + low → ((k : ℕ) → k < low → get_or l k 0 < x) → ((k : ℕ) → high ≤ k → k < length l → x ≤ get_or l k 0)
      → searched n l x low high ≡ rank_of l x
  unfolding searched
  search-found zero low high a b h p q = rank-found l x low (omega arith) p (λ k g f. q k (omega arith) f)
  search-found (suc n) low high a b h p q = go (ltb low high) refl (ltb (get_or l (middle low high) 0) x) refl (search-found n (middle low high + 1) high) (search-found n low (middle low high))
    where
      go : (c : Bool) → ltb low high ≡ c → (t : Bool) → ltb (get_or l (middle low high) 0) x ≡ t
          → (middle low high + 1 ≤ high → high ≤ length l → high ≤ n + (middle low high + 1) → ((k : ℕ) → k < middle low high + 1 → get_or l k 0 < x) → ((k : ℕ) → high ≤ k → k < length l
          → x ≤ get_or l k 0) → searched n l x (middle low high + 1) high ≡ rank_of l x)
          → (low ≤ middle low high → middle low high ≤ length l → middle low high ≤ n + low → ((k : ℕ) → k < low → get_or l k 0 < x) → ((k : ℕ) → middle low high ≤ k → k < length l → x ≤ get_or l k 0)
          → searched n l x low (middle low high) ≡ rank_of l x)
          → cond c (cond t (searched n l x (middle low high + 1) high) (searched n l x low (middle low high))) low ≡ rank_of l x
      go true e true f i j = let w = ltb-true low high e in i (omega arith) b (omega arith) (lower-all l x (middle low high) o (omega arith) (ltb-true (get_or l (middle low high) 0) x f)) q
      go true e false f i j = let w = ltb-true low high e in j (omega arith) (omega arith) (omega arith) p (upper-all l x (middle low high) o (ltb-false (get_or l (middle low high) 0) x f))
      go false e t f i j = let w = ltb-false low high e in rank-found l x low (omega arith) p (λ k g v. q k (omega arith) v)
