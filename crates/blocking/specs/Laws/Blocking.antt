-- Laws of Blocking: the offsets of fixed blocking, its answers, and the count of centroids.
use Rattle.refusal.specs.declared.Refusal.{Refusal}
use Rattle.std.specs.Prelude.{ℕ, zero, suc, ◌+◌, ◌*◌, ◌≤◌, ◌<◌, ◌/◌, ◌%◌, ◌≡◌, refl, true, false, List, [], ◌∷◌, ◌++◌, map, ltb, Float, length, get_or, Result, Ok, Err}
use Rattle.std.proofs.Common.{sym, ◌∙◌, div-mul-le_self, div-add-mod', mod-lt, arith, length-append, le-leb, eq-eqb, ne_eqb}
use Rattle.std.proofs.Math.Path.{ap}
use Rattle.std.proofs.lemmas.List.{map-append, length-map}
use Rattle.std.proofs.Math.Nat.{div-eq_of_lt}
use Rattle.std.proofs.Math.ListN.{get_or-append}
use Rattle.std.proofs.lemmas.Bool.{lt-leb}
use Rattle.refusal.specs.declared.Refusal.TheVariants.{NoBlockSize, BufferTooShort, OutsideLimits}
use Rattle.refusal.specs.First.{first_of}
use Rattle.sequences.specs.Lists.{from, last_or, never_falls, between}
use Rattle.sequences.specs.Laws.Lists.{from-length as length_from, last_end}
use Rattle.blocking.specs.Limits.{list_limit, block_limit}
use Rattle.blocking.specs.Blocking.{starts, fixed_offsets, blocking_tests, answered, blocked, left, offsets_left, centroid_count}
use Rattle.blocking.specs.Blocks.{Blocks}

-- ---- the starts of k blocks
from_more : (a k : ℕ) → from a (suc k) ≡ from a k ++ ((a + k) ∷ [])
from_more a zero = let e : a ≡ a + 0 = omega arith in ap (λ n. n ∷ []) e
from_more a (suc k) = let e : suc a + k ≡ a + suc k = omega arith in ap (λ l. a ∷ l) (from_more (suc a) k ∙ ap (λ n. from (suc a) k ++ (n ∷ [])) e)

pub starts_more : (b k : ℕ) → starts b (suc k) ≡ starts b k ++ ((k * b) ∷ [])
starts_more b k = let e : 0 + k ≡ k = omega arith in ap (map (λ i. i * b)) (from_more 0 k) ∙ map-append (λ i. i * b) (from 0 k) ((0 + k) ∷ []) ∙ ap (λ n. starts b k ++ ((n * b) ∷ [])) e

pub length-starts : (b k : ℕ) → length (starts b k) ≡ k
length-starts b k = length-map (from 0 k) (λ i. i * b) ∙ length_from 0 k

-- ---- how many offsets there are: one more than blocks
pub offsets-number : (n b : ℕ) → length (fixed_offsets n b) ≡ suc (n / b)
unfolding fixed_offsets
offsets-number n b = length-append (starts b (n / b)) (n ∷ []) ∙ omega (arith, length-starts b (n / b))

-- ---- they never fall
never-fall : (b n a k : ℕ) → (a + k) * b ≤ n → never_falls (map (λ i. i * b) (from a k) ++ (n ∷ [])) ≡ true
never-fall b n a zero h = refl
never-fall b n a (suc zero) h = rw (le-leb (a * b) n (omega arith))
never-fall b n a (suc (suc k)) h = rw (le-leb (a * b) (suc a * b) (omega arith)) (never-fall b n (suc a) (suc k) (omega arith))

pub offsets-never-fall : (n b : ℕ) → never_falls (fixed_offsets n b) ≡ true
unfolding fixed_offsets
offsets-never-fall n b = never-fall b n 0 (n / b) (omega (arith, div-mul-le_self n b))

-- ---- the last one is the length of the list
pub offsets-last : (n b : ℕ) → last_or 0 (fixed_offsets n b) ≡ n
unfolding fixed_offsets
offsets-last n b = last_end 0 (starts b (n / b)) n

-- ---- each block starts b past the one before it
get_from : (b a k i : ℕ) → i < k → get_or (map (λ j. j * b) (from a k)) i 0 ≡ (a + i) * b
get_from b a zero i h = absurd (omega arith)
get_from b a (suc k) zero h = omega arith
get_from b a (suc k) (suc i) h = get_from b (suc a) k i (omega arith) ∙ omega arith

pub offset_at : (n b i : ℕ) → i < n / b → get_or (fixed_offsets n b) i 0 ≡ i * b
unfolding fixed_offsets
offset_at n b i h = get_or-append (starts b (n / b)) (n ∷ []) 0 i (omega (arith, length-starts b (n / b))) ∙ get_from b 0 (n / b) i h ∙ omega arith

-- and the last one, which starts at k x b, holds at least b ids and fewer than 2 b
pub last_block : (n b k : ℕ) → 0 < b → n / b ≡ suc k → (k * b + b ≤ n) × (n < k * b + 2 * b)
last_block n b k p e = let q : suc k * b + n % b ≡ n = ap (λ j. j * b + n % b) (sym e) ∙ div-add-mod' n b in omega (arith, mod-lt n p)

-- ---- a list shorter than b has one offset and no blocks
pub short-list : (n b : ℕ) → n < b → fixed_offsets n b ≡ n ∷ []
unfolding fixed_offsets
short-list n b h = ap (λ k. starts b k ++ (n ∷ [])) (div-eq_of_lt h)

pub no_blocks : {A : Type 0} (n b : ℕ) (ids : List A) → n < b → between (fixed_offsets n b) ids ≡ []
no_blocks n b ids h = ap (λ offsets. between offsets ids) (short-list n b h)

-- ---- there is at least one centroid
pub some-centroid : (fraction : Float) (n : ℕ) → 1 ≤ centroid_count fraction n
some-centroid fraction n = omega arith

module _ (n b : ℕ) (buffer : List ℕ) where
  by-verdict : (v : Result (Unit {0}) Refusal) → first_of (blocking_tests n b (length buffer)) ≡ v → Blocks n b buffer (answered v (n / b + 1)) (left v (fixed_offsets n b) buffer)
  unfolding blocked offsets_left
  by-verdict v e = (ap (λ w. answered w (n / b + 1)) (sym e), ap (λ w. left w (fixed_offsets n b) buffer) (sym e))

  pub length-refused : ltb list_limit n ≡ true → Blocks n b buffer (answered (Err OutsideLimits) 0) buffer
  length-refused h = by-verdict (Err OutsideLimits) (rw h)

  module _ (short : ltb list_limit n ≡ false) where
    pub size-refused : b ≡ 0 → Blocks n b buffer (answered (Err NoBlockSize) 0) buffer
    size-refused h = by-verdict (Err NoBlockSize) (rw (short, eq-eqb b 0 h))

    module _ (size : b ≡ 0 → ⊥) where
      pub blocks-refused : ltb block_limit (n / b) ≡ true → Blocks n b buffer (answered (Err OutsideLimits) 0) buffer
      blocks-refused h = by-verdict (Err OutsideLimits) (rw (short, ne_eqb b 0 size, h))

      module _ (few : ltb block_limit (n / b) ≡ false) where
        pub buffer-refused : length buffer ≤ n / b → Blocks n b buffer (answered (Err BufferTooShort) 0) buffer
        buffer-refused h = by-verdict (Err BufferTooShort) (rw (short, ne_eqb b 0 size, few, le-leb (length buffer) (n / b) h))

        pub offsets-written : n / b < length buffer → Blocks n b buffer (answered (Ok tt) (n / b + 1)) (left (Ok tt) (fixed_offsets n b) buffer)
        offsets-written h = by-verdict (Ok tt) (rw (short, ne_eqb b 0 size, few, lt-leb (length buffer) (n / b) h))
