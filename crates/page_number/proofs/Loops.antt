-- What a search by halves finds among offsets that never fall.
use Prim.Native.Nat.{ℕ, ◌≤◌, ◌<◌}
use native.Mathlib.Omega.{arith}
use mathlib.Core.Path.{◌≡◌}
use mathlib.Core.Bool.{true}
use mathlib.Core.List.{List}
use lib.ListN.{length, get_or, take, length-take}
use lib.Seq.{get_or-take}
use Rattle.sequences.specs.Lists.{never_falls}
use Rattle.sort.specs.Ranked.{rank_in, Parted}
use Rattle.sort.specs.Laws.Ranked.{parted}
use Rattle.documents.specs.Laws.Documents.{never-falls-at}
use Rattle.page_number.specs.Answers.{Found}

-- ---- a search by halves
pub found : (os : List ℕ) (s n r : ℕ) → never_falls os ≡ true → n ≤ length os → r ≡ rank_in (take n os) s → Found os s n r
found os s n r R h e = record {
  within = omega (arith, z, p.within);
  below = λ k q. let b = p.below k (omega arith) in let g = at k (omega (arith, z, p.within)) in omega arith;
  above = λ k q l. let b = p.above k (omega arith) (omega (arith, z)) in let g = at k l in omega arith;
}
  where
    z : length (take n os) ≡ n
    z = simp length-take (omega arith)

    at : (k : ℕ) → k < n → get_or (take n os) k 0 ≡ get_or os k 0
    at k l = get_or-take n os k 0 l

    p : Parted (take n os) s (rank_in (take n os) s)
    p = parted (take n os) s (λ i k a b. let f = never-falls-at os R i k a (omega (arith, z)) in let g = at i (omega (arith, z)) in let w = at k (omega (arith, z)) in omega arith)
