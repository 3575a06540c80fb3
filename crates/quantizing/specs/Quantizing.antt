-- Document 01, "Quantizing": values of a summary as one byte each. Every operation is an f32 operation and rounds once.
use Rattle.std.specs.Prelude.{ℕ, Bool, false, not, ◌&&◌, ◌⊎◌, List, [], ◌∷◌, ◌++◌, map, length, drop, pos, ltb, eqb, Float, Result, Ok, Err}
use Rattle.std.proofs.Common.{inl, inr}
use Rattle.std.specs.Float.{nan, fin, binary32}
use Rattle.std.specs.Float.Ieee.{add, sub, mul, div, of_int, le}
use Rattle.refusal.specs.declared.Refusal.{Refusal}
use Rattle.refusal.specs.declared.Refusal.TheVariants.{EmptySummary, WrongTerms, BufferTooShort}
use Rattle.refusal.specs.Refusals.{number_of}
use Rattle.refusal.specs.First.{Test, ◌gives◌, first_of}
use Rattle.sequences.specs.Lists.{those, every, first_or}
use Rattle.float32.specs.Order.{at_most}
use Rattle.float32.specs.Bound.{in_bound}
use Rattle.float32.specs.Rounding.{byte_of}
use Rattle.quantizing.specs.declared.Extent.{Extent}
use Rattle.quantizing.specs.declared.Scale.{Scale}

-- ---- least and greatest by total order
-- the first of those that are at most each value
unfoldable pub least : List Float → Float
least values = first_or nan (those (λ v. every (λ x. at_most v x) values) values)

-- the first of those that each value is at most
unfoldable pub greatest : List Float → Float
greatest values = first_or nan (those (λ v. every (λ x. at_most x v) values) values)

abbrev pub extent : Float → Float → Extent
extent low high = record { least = low; greatest = high }

abbrev pub extent_of : List Float → Extent
extent_of values = extent (least values) (greatest values)

-- ---- step, code, and the value that a code stands for
abbrev pub step_of : Float → Float → Float
step_of low high = div binary32 (sub binary32 high low) (of_int binary32 (pos 255))

abbrev pub code_of : Float → Float → Float → ℕ
code_of low step value = byte_of (div binary32 (sub binary32 value low) step)

abbrev pub read_back : Float → Float → ℕ → Float
read_back low step code = add binary32 (mul binary32 (of_int binary32 (pos code)) step) low

-- ---- a list of values
abbrev pub step_for : List Float → Float
step_for values = step_of (least values) (greatest values)

abbrev pub codes_for : List Float → List ℕ
codes_for values = map (code_of (least values) (step_for values)) values

-- the refusals of quantizing alone: 7, 14, 4
abbrev pub tests : List Float → List ℕ → List Test
tests values codes =
    (eqb (length values) 0 gives EmptySummary)
    ∷ (not (every in_bound values) gives WrongTerms)
    ∷ (ltb (length codes) (length values) gives BufferTooShort)
    ∷ []

abbrev pub scale : Float → Float → Scale
scale low step = record { least = low; step = step }

-- what quantizing answers, and what it leaves in the lent codes
pub record Left : Type 0 where
  pub answer : Result Scale Refusal
  pub codes : List ℕ

abbrev pub left : Result Scale Refusal → List ℕ → Left
left a c = record { answer = a; codes = c }

-- an answer in document 01's terms: the number of the refusal, or the least value and the step
abbrev pub in_numbers : Result Scale Refusal → ℕ ⊎ (Float × Float)
in_numbers (Err reason) = inl (number_of reason)
in_numbers (Ok s) = inr (s.least, s.step)

-- a refusal changes nothing; else the codes stand first, and past them nothing changes
abbrev pub by : Result (Unit {0}) Refusal → List Float → List ℕ → Left
by (Err reason) values codes = left (Err reason) codes
by (Ok _) values codes = left (Ok (scale (least values) (step_for values))) (codes_for values ++ drop (length values) codes)

unfoldable pub quantized : List Float → List ℕ → Left
quantized values codes = by (first_of (tests values codes)) values codes

-- ---- what a list to be searched may store: minimums in bound, steps finite and from 0 to 2^32. A step of -0 is numerically 0
abbrev pub minimum_allowed : Float → Bool
minimum_allowed m = in_bound m

unfoldable pub step_allowed : Float → Bool
step_allowed step = in_bound step && le (fin false 0 (pos 0)) step
