-- Worked cases of quantizing beside document 01's pages marked P, which stand in worked_cases/Laws/Pages. Values stand as their bit
-- patterns; the lent codes hold 9 throughout.
use Rattle.std.specs.Prelude.{◌≡◌, refl, ◌⊎◌, true, false, List, [], ◌∷◌, map, ℕ, ◌+◌, ◌*◌, max, T, leb, ltb, Float}
use Rattle.std.proofs.Common.{inl, inr}
use Rattle.std.specs.Float.{binary32}
use Rattle.std.specs.Float.Ieee.{of_bits, add, sub, mul, div, of_int, le}
use Rattle.float32.specs.Bound.{in_bound}
use Rattle.float32.specs.Order.{at_most}
use Rattle.float32.specs.Rounding.{byte_of}
use Rattle.float32.specs.Units.{one, mag}
use Rattle.quantizing.specs.Demand3.{apart, allowance}
use Rattle.quantizing.specs.Quantizing.{least, greatest, step_of, code_of, read_back, Left, in_numbers, quantized, step_allowed}

-- a value by its bit pattern
abbrev pub value : ℕ → Float
value pattern = of_bits binary32 pattern

abbrev pub values_of : List ℕ → List Float
values_of patterns = map value patterns

-- the answer in document 01's terms, and the codes that are left
abbrev pub told : Left → (ℕ ⊎ (Float × Float)) × List ℕ
told l = (in_numbers l.answer, l.codes)

-- what codes are read back as
abbrev pub read_all : Float → Float → List ℕ → List Float
read_all low step codes = map (read_back low step) codes

-- 1, 2, 511: step 2, and 2, which is half a step above 1, is read back as 3
pub half-a-step : told (quantized (values_of (0x3f800000 ∷ 0x40000000 ∷ 0x43ff8000 ∷ [])) (9 ∷ 9 ∷ 9 ∷ [])) ≡ (inr (value 0x3f800000, value 0x40000000), 0 ∷ 1 ∷ 255 ∷ [])
unfolding quantized least greatest at_most in_bound byte_of of_bits sub div of_int
half-a-step = refl

pub half-a-step-read : read_all (value 0x3f800000) (value 0x40000000) (0 ∷ 1 ∷ 255 ∷ []) ≡ values_of (0x3f800000 ∷ 0x40400000 ∷ 0x43ff8000 ∷ [])
unfolding of_bits add mul of_int
half-a-step-read = refl

-- +0, -0: -0 is the least, by total order
pub signed-zeros : told (quantized (values_of (0x00000000 ∷ 0x80000000 ∷ [])) (9 ∷ 9 ∷ [])) ≡ (inr (value 0x80000000, value 0x00000000), 0 ∷ 0 ∷ [])
unfolding quantized least greatest at_most in_bound byte_of of_bits sub div of_int
signed-zeros = refl

-- no value: 7, before the others
pub nothing-given : told (quantized [] []) ≡ (inl 7, [])
unfolding quantized
nothing-given = refl

-- +infinity, and no room for its code: 14, before 4
pub not_finite : told (quantized (values_of (0x7f800000 ∷ [])) []) ≡ (inl 14, [])
unfolding quantized in_bound of_bits
not_finite = refl

-- the f32 next above 2 ^ 32: 14
pub above-bound : told (quantized (values_of (0x00000000 ∷ 0x4f800001 ∷ [])) (9 ∷ 9 ∷ [])) ≡ (inl 14, 9 ∷ 9 ∷ [])
unfolding quantized in_bound of_bits
above-bound = refl

-- -2 ^ 32 and 2 ^ 32, with one place for two codes: 4
pub no_room : told (quantized (values_of (0xcf800000 ∷ 0x4f800000 ∷ [])) (9 ∷ [])) ≡ (inl 4, 9 ∷ [])
unfolding quantized in_bound of_bits
no_room = refl

-- ---- how much of its allowance demand 3 needs
-- 8388608 times how far a value is off, in units of 2 ^ -149
abbrev pub off : Float → Float → Float → ℕ
off low high v = let step = step_of low high in 8388608 * apart (read_back low step (code_of low step v)) v

-- -1080891.125 to 1074910.625, at 1070683.25: the value is off by more than half a step, and all three parts cover it.
-- Were the second part 1/65536 of a step, they would not
pub step_part : let low = value 0xc983f1d9 in let high = value 0x498336f5 in let v = value 0x4982b2da in let step = step_of low high in
    T (leb (off low high v) (allowance low high step)) × T (ltb (4194304 * mag step + 128 * mag step + max (mag low) (mag high)) (off low high v))
unfolding mag one byte_of of_bits add sub mul div of_int
step_part = (tt, tt)

-- 525065.625 to 525081.625, at 525073.625, which is read back as 525073.5625, the next f32 below:
-- were the third part 1/33554432 of the larger magnitude, the three would not cover it
pub magnitude-part : let low = value 0x4900309a in let high = value 0x4900319a in let v = value 0x4900311a in let step = step_of low high in
    T (leb (off low high v) (allowance low high step)) × T (ltb (4 * (4194304 * mag step + 512 * mag step) + max (mag low) (mag high)) (4 * off low high v))
unfolding mag one byte_of of_bits add sub mul div of_int
magnitude-part = (tt, tt)

-- ---- steps that a list may store: 0, -0 and 2 ^ 32, and not 2 ^ -149 below 0, the f32 next above 2 ^ 32 or +infinity
pub steps-allowed : map (λ p. step_allowed (value p)) (0x00000000 ∷ 0x80000000 ∷ 0x4f800000 ∷ 0x80000001 ∷ 0x4f800001 ∷ 0x7f800000 ∷ []) ≡ true ∷ true ∷ true ∷ false ∷ false ∷ false ∷ []
unfolding step_allowed in_bound of_bits le
steps-allowed = refl
