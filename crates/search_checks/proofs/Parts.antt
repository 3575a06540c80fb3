-- What the checks of a layout's parts come to.
use mathlib.Core.Path.{◌≡◌, refl, ap}
use mathlib.Core.Bool.{Bool, true, false, not, ◌&&◌}
use mathlib.Core.List.{List, [], ◌∷◌}
use Prim.Native.Nat.{ℕ, suc, ◌+◌, ◌-◌, ◌<◌}
use native.Mathlib.Omega.{arith}
use native.Mathlib.Numerals.{add-one}
use lib.ListN.{length, get_or}
use lib.Dec.{leb, ltb, eqb}
use lib.Ieee.{Float}
use borrow.Author.Tests.{eq-eqb, ne_eqb}
use Rattle.sequences.specs.Lists.{every, first_or, last_or, between, never_falls, strictly_rise}
use Rattle.sequences.specs.Laws.Lists.{both, not-less}
use Rattle.blocking.specs.Limits.{list_limit, block_limit}
use Rattle.documents.specs.Laws.Documents.{last-at}
use Rattle.quantizing.specs.Quantizing.{minimum_allowed, step_allowed}
use Rattle.sparse_scores.specs.Layout.{arrays}
use Rattle.sparse_scores.specs.WellFormed.{blocks_hold, lengths_hold, offsets_hold, ids_hold, bounds_hold, well_formed}
use Rattle.search_checks.specs.Counting.{falls, seams, ids_counted}
use Rattle.search_checks.specs.Laws.Counting.{rise-by-count}

-- ---- block offsets
module _ (postings blocks : ℕ) (os : List ℕ) where
  pub blocks-none : blocks ≡ 0 → true ≡ blocks_hold postings blocks os
  unfolding blocks_hold
  blocks-none h = rw (eq-eqb blocks 0 h)

  pub blocks-uneven : (blocks ≡ 0 → ⊥) → (length os ≡ suc blocks → ⊥) → false ≡ blocks_hold postings blocks os
  unfolding blocks_hold
  blocks-uneven h k = rw (ne_eqb blocks 0 h, ne_eqb (length os) (suc blocks) k)

  pub blocks-even : (fall : Bool) → (blocks ≡ 0 → ⊥) → length os ≡ suc blocks → fall ≡ never_falls os → (fall && leb (get_or os (length os - 1) 0) postings) ≡ blocks_hold postings blocks os
  unfolding blocks_hold
  blocks-even fall h k e = rw (ne_eqb blocks 0 h, eq-eqb (length os) (suc blocks) k, e, ← last-at 0 os (omega arith))

-- ---- component offsets
pub offsets-none : (os : List ℕ) (entries : ℕ) → length os ≡ 0 → false ≡ offsets_hold os entries
unfolding offsets_hold
offsets-none [] entries h = refl
offsets-none (a ∷ os) entries h = let z : ⊥ = omega arith in absurd z

pub offsets-some : (os : List ℕ) (entries : ℕ) (fall : Bool) → 0 < length os → fall ≡ never_falls os → (eqb (get_or os 0 0) 0 && (fall && eqb (get_or os (length os - 1) 0) entries)) ≡ offsets_hold os entries
unfolding offsets_hold
offsets-some os entries fall h e = rw (e, ← last-at 0 os h) (ap (λ b. b && (never_falls os && eqb (last_or 0 os) entries)) (first os h))
  where
    first : (os : List ℕ) → 0 < length os → eqb (get_or os 0 0) 0 ≡ eqb (first_or 1 os) 0
    first [] h = let z : ⊥ = omega arith in absurd z
    first (a ∷ os) h = refl

pub counts : (summaries : ℕ) (os ids : List ℕ) (below : Bool) (m n : ℕ) → below ≡ every (λ i. ltb i summaries) ids → m ≡ falls ids → n ≡ seams ids os → (below && eqb m n) ≡ ids_counted summaries os ids
unfolding ids_counted
counts summaries os ids below m n a b c = rw (a, b, c)

-- ---- all of a layout
-- where the offsets hold, counting serves
same : (os ids : List ℕ) → offsets_hold os (length ids) ≡ true → eqb (falls ids) (seams ids os) ≡ every strictly_rise (between os ids)
unfolding offsets_hold
same os ids e =
    let a = both (eqb (first_or 1 os) 0) (never_falls os && eqb (last_or 0 os) (length ids)) e in
    let b = both (never_falls os) (eqb (last_or 0 os) (length ids)) a.1 in
    rise-by-count ids os a.0 b.0 b.1

counted : (summaries : ℕ) (os ids : List ℕ) (rest : Bool) → (offsets_hold os (length ids) && (ids_counted summaries os ids && rest)) ≡ (offsets_hold os (length ids) && (ids_hold summaries os ids && rest))
unfolding ids_counted ids_hold
counted summaries os ids rest = go (offsets_hold os (length ids)) refl
  where
    go : (b : Bool) → offsets_hold os (length ids) ≡ b → (b && ((every (λ i. ltb i summaries) ids && eqb (falls ids) (seams ids os)) && rest)) ≡ (b && ((every (λ i. ltb i summaries) ids && every strictly_rise (between os ids)) && rest))
    go true e = ap (λ z. (every (λ i. ltb i summaries) ids && z) && rest) (same os ids e)
    go false e = refl

module _ (postings : ℕ) (bs cs os is ks : List ℕ) (ms ss : List Float) where
  pub all_hold : (many long blocks risen offset id low step : Bool) → many ≡ ltb block_limit (length ms) → long ≡ ltb list_limit postings → blocks ≡ blocks_hold postings (length ms) bs → risen ≡ strictly_rise cs → offset ≡ offsets_hold os (length is) → id ≡ ids_counted (length ms) os is
      → low ≡ every minimum_allowed ms → step ≡ every step_allowed ss
      → ((not many && not long) && (blocks && ((eqb (length os) (length cs + 1) && (eqb (length is) (length ks) && eqb (length ms) (length ss))) && (risen && (offset && (id && (low && step)))))))
      ≡ well_formed postings bs (arrays cs os is ks ms ss)
  unfolding well_formed lengths_hold bounds_hold
  all_hold many long blocks risen offset id low step m l a b c d e f = rw (m, l, not-less block_limit (length ms), not-less list_limit postings, a, b, c, d, e, f, add-one (length cs), counted (length ms) os is (every minimum_allowed ms && every step_allowed ss))
