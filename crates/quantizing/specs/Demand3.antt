-- Demand 3: a value read back from its code is off by at most half a step, plus 1/16384 of a step, plus 1/8388608 of the larger magnitude
-- of least and greatest, for every accepted list whose step is at least 2 ^ -126. Every rounding is in it.
-- It says so of what `quantize` answers and leaves in the lent codes, over whole numbers. This file is the statement; `demand-3` of
-- Promises proves it.
use Rattle.std.specs.Prelude.{ℕ, ◌+◌, ◌-◌, ◌*◌, ◌≤◌, ◌<◌, max, ◌≡◌, false, List, length, get_or, negsuc, T, Float, Result}
use Rattle.std.proofs.Common.{inr}
use Rattle.std.specs.Float.{nan, fin, binary32}
use Rattle.std.specs.Float.Ieee.{fits, le}
use Rattle.std.specs.Float.Ieee.Scale.{finite}
use Rattle.refusal.specs.declared.Refusal.{Refusal}
use Rattle.float32.specs.Units.{mag, above, below}
use Rattle.quantizing.specs.declared.Scale.{Scale}
use Rattle.quantizing.specs.Quantizing.{greatest, read_back, left, quantized, in_numbers}

-- A finite f32 is a whole number of units of 2 ^ -149. `mag x` is how many units x is away from zero, on either side;
-- `above x` is that number where x is not negative, and else 0; `below x` is that number where x is negative, and else 0.
-- So x is `above x - below x` units, and x - y is `above x + below y` less `above y + below x`.

-- how far apart x and y are, in units: of the two differences one is cut to 0
abbrev pub apart : Float → Float → ℕ
apart x y = (above x + below y - (above y + below x)) + (above y + below x - (above x + below y))

-- 8388608 times the three parts that a value may be off by, in units: 8388608 / 2 and 8388608 / 16384 of a step, and the whole larger
-- magnitude
abbrev pub allowance : Float → Float → Float → ℕ
allowance low high step = 4194304 * mag step + 512 * mag step + max (mag low) (mag high)

-- r, read back for v, is a number (of a NaN or an infinity there are no units), and within the allowance of v
abbrev pub Drifts : Float → Float → Float → Float → Float → Type 0
Drifts low high step v r = T (finite r) × (8388608 * apart r v ≤ allowance low high step)

-- every element is a value of f32, as the elements of a slice of f32 are
abbrev pub F32s : List Float → Type 0
F32s values = (k : ℕ) → T (fits binary32 (get_or values k nan))

-- 1 * 2 ^ -126, as `negsuc n` is -1 - n
abbrev pub least_step : Float
least_step = fin false 1 (negsuc 125)

-- `left answer codes ≡ quantized values lent` is the contract of `quantize`: it answered `answer`, and left `codes` where `lent` was.
-- `in_numbers answer ≡ inr (low, step)` says that it did not refuse, but gave the least value and the step
abbrev pub Demand3 : Type 0
Demand3 =
    (values : List Float) (lent codes : List ℕ) (answer : Result Scale Refusal) (low step : Float)
    → F32s values
    → left answer codes ≡ quantized values lent
    → in_numbers answer ≡ inr (low, step)
    → T (le least_step step)
    → (k : ℕ) → k < length values
    → Drifts low (greatest values) step (get_or values k nan) (read_back low step (get_or codes k 0))
