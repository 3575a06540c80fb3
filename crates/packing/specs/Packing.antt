-- Packing: document 01, "Leaves first". The limits and the place of the two parts stand here and nowhere else; other crates go by
-- Laws/Packing.
use Rattle.std.specs.Prelude.{ℕ, ◌+◌, ◌-◌, ◌*◌, ◌/◌, ◌%◌, ◌^◌, List, [], ◌∷◌, ◌⊎◌, leb, ltb, Result, Ok, Err}
use Rattle.std.proofs.Common.{inl, inr}
use Rattle.refusal.specs.declared.Refusal.{Refusal}
use Rattle.refusal.specs.declared.Refusal.TheVariants.{StartTooLarge, RangeTooLong}
use Rattle.refusal.specs.Refusals.{number_of}
use Rattle.refusal.specs.First.{Test, ◌gives◌, first_of}
use Rattle.packing.specs.declared.UnpackedRange.{UnpackedRange}
use Rattle.packing.specs.declared.PackedPosting.{PackedPosting}

-- every start is below it
unfoldable pub start_limit : ℕ
start_limit = 2 ^ 48

-- no length is above it
unfoldable pub length_limit : ℕ
length_limit = 65535

-- start times 65,536 plus length
unfoldable pub pack_of : ℕ → ℕ → ℕ
unfolding length_limit
pack_of start length = start * (length_limit + 1) + length

-- the start and the length of a packed number
unfoldable pub start_of : ℕ → ℕ
unfolding length_limit
start_of n = n / (length_limit + 1)

unfoldable pub length_of : ℕ → ℕ
unfolding length_limit
length_of n = n % (length_limit + 1)

-- the length of the range from start to end; of an end below its start it is 0, as the difference of natural numbers is
abbrev pub range_length : ℕ → ℕ → ℕ
range_length start end = end - start

-- when a range is refused, first fault first
abbrev pub packing_tests : ℕ → ℕ → List Test
packing_tests start length = (leb start_limit start gives StartTooLarge) ∷ (ltb length_limit length gives RangeTooLong) ∷ []

abbrev pub answered : Result (Unit {0}) Refusal → ℕ → Result PackedPosting Refusal
answered (Ok _) n = Ok (record { 0 = n })
answered (Err r) n = Err r

-- what packing the range from start to end comes to
unfoldable pub packed : ℕ → ℕ → Result PackedPosting Refusal
packed start end = answered (first_of (packing_tests start (range_length start end))) (pack_of start (range_length start end))

-- the range of a packed number
abbrev pub unpacked : ℕ → UnpackedRange
unpacked n = record { start = record { 0 = start_of n }; length = length_of n; end = start_of n + length_of n }

-- an answer in document 01's terms: the number of the refusal, or the packed number
abbrev pub in_numbers : Result PackedPosting Refusal → ℕ ⊎ ℕ
in_numbers (Err r) = inl (number_of r)
in_numbers (Ok p) = inr p.0
