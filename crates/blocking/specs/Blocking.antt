-- Blocking: document 01, "Leaves first".
use Rattle.std.specs.Prelude.{ℕ, ◌+◌, ◌*◌, ◌/◌, max, List, [], ◌∷◌, ◌++◌, map, ◌⊎◌, leb, ltb, eqb, Float, length, drop, Result, Ok, Err}
use Rattle.std.proofs.Common.{inl, inr}
use Rattle.refusal.specs.declared.Refusal.{Refusal}
use Rattle.refusal.specs.declared.Refusal.TheVariants.{NoBlockSize, BufferTooShort, OutsideLimits}
use Rattle.refusal.specs.Refusals.{number_of}
use Rattle.refusal.specs.First.{Test, ◌gives◌, first_of}
use Rattle.sequences.specs.Lists.{from}
use Rattle.float32.specs.Count.{scaled_length}
use Rattle.blocking.specs.Limits.{list_limit, block_limit}

-- i x b for i below k
abbrev pub starts : ℕ → ℕ → List ℕ
starts b k = map (λ i. i * b) (from 0 k)

-- i x b for i below floor(n / b), then n
unfoldable pub fixed_offsets : ℕ → ℕ → List ℕ
fixed_offsets n b = starts b (n / b) ++ (n ∷ [])

-- when fixed blocking is refused, first fault first; `room` is the length of the lent buffer
abbrev pub blocking_tests : ℕ → ℕ → ℕ → List Test
blocking_tests n b room =
    (ltb list_limit n gives OutsideLimits)
    ∷ (eqb b 0 gives NoBlockSize)
    ∷ (ltb block_limit (n / b) gives OutsideLimits)
    ∷ (leb room (n / b) gives BufferTooShort)
    ∷ []

abbrev pub answered : Result (Unit {0}) Refusal → ℕ → Result ℕ Refusal
answered (Ok _) number = Ok number
answered (Err r) number = Err r

-- what blocking a list of n ids by b comes to
unfoldable pub blocked : ℕ → ℕ → List ℕ → Result ℕ Refusal
blocked n b buffer = answered (first_of (blocking_tests n b (length buffer))) (n / b + 1)

-- a result at the front of a lent buffer; past it nothing changes
abbrev pub in_front : List ℕ → List ℕ → List ℕ
in_front result buffer = result ++ drop (length result) buffer

abbrev pub left : Result (Unit {0}) Refusal → List ℕ → List ℕ → List ℕ
left (Ok _) result buffer = in_front result buffer
left (Err r) result buffer = buffer

-- the lent buffer afterwards
unfoldable pub offsets_left : ℕ → ℕ → List ℕ → List ℕ
offsets_left n b buffer = left (first_of (blocking_tests n b (length buffer))) (fixed_offsets n b) buffer

-- an answer in document 01's terms: the number of the refusal, or how many offsets were written
abbrev pub in_numbers : Result ℕ Refusal → ℕ ⊎ ℕ
in_numbers (Err r) = inl (number_of r)
in_numbers (Ok number) = inr number

-- fraction x length, cut to a whole number (NaN and negative to 0), at least 1
abbrev pub centroid_count : Float → ℕ → ℕ
centroid_count fraction n = max 1 (scaled_length fraction n)
