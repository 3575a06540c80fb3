-- Document 01's worked pages, those marked P, as one table: what is asked, and what the document says.
use Rattle.std.specs.Prelude.{ℕ, ◌-◌, ◌^◌, ◌≡◌, refl, cond, ◌⊎◌, List, [], ◌∷◌, map, eqb, pos, Float, take}
use Rattle.std.proofs.Common.{inl, inr}
use Rattle.std.specs.Float.{nan, binary32}
use Rattle.std.specs.Float.Ieee.{of_bits, of_int, add, sub, mul, div}
use Rattle.refusal.specs.Refusals.{verdict_number}
use Rattle.float32.specs.Bound.{in_bound}
use Rattle.float32.specs.Key.{key_of}
use Rattle.float32.specs.Order.{at_most}
use Rattle.float32.specs.Rounding.{byte_of}
use Rattle.packing.specs.Packing as Packing
use Rattle.packing.specs.Packing.{start_limit, length_limit, pack_of, packed, start_of}
use Rattle.blocking.specs.Limits.{list_limit, block_limit}
use Rattle.blocking.specs.Blocking as Blocking
use Rattle.blocking.specs.Blocking.{fixed_offsets, blocked, offsets_left}
use Rattle.quantizing.specs.Quantizing as Quantizing
use Rattle.quantizing.specs.Quantizing.{least, greatest, read_back, quantized}
use Rattle.kept_list.specs.declared.Scored.{Scored}
use Rattle.kept_list.specs.Entry.{scored, better}
use Rattle.kept_list.specs.Lent.{Lent, lent, entries, settled}
use Rattle.kept_list.specs.Push.{well_kept, verdict_of, pushed}

-- a score and the start of its range
abbrev pub Pair : Type 0
Pair = Float × ℕ

pub data Asked : Type 0 where
  -- pack the range from a start to an end
  range : ℕ → ℕ → Asked
  -- block so many ids by a block size
  ids : ℕ → ℕ → Asked
  -- quantize: the step and the codes; the codes alone; what they are read back as
  step_and_codes : List Float → Asked
  codes : List Float → Asked
  readings : List Float → Asked
  -- push each score at its start onto an empty list of at most k
  pushes : ℕ → List Pair → Asked

pub data Said : Type 0 where
  refused : ℕ → Said
  number : ℕ → Said
  numbers : List ℕ → Said
  step : Float → List ℕ → Said
  values : List Float → Said
  kept : List Pair → Said

-- ---- what the proved functions answer, by the definitions that their contracts cite; each answer in numbers by the definition of its
-- crate
-- the number of a refusal, or what is said of the values
abbrev pub saying : {A : Type 0} → (A → Said) → ℕ ⊎ A → Said
saying say (inl n) = refused n
saying say (inr x) = say x

abbrev pub packing : ℕ → ℕ → Said
packing start end = saying number (Packing.in_numbers (packed start end))

-- as many offsets as were written, of what is left in the lent buffer
abbrev pub blocking : ℕ → ℕ → List ℕ → Said
blocking n b buffer = saying (λ m. numbers (take m (offsets_left n b buffer))) (Blocking.in_numbers (blocked n b buffer))

abbrev pub say_step_and_codes : Float → Float → List ℕ → Said
say_step_and_codes low st left = step st left

abbrev pub say_codes : Float → Float → List ℕ → Said
say_codes low st left = numbers left

abbrev pub say_readings : Float → Float → List ℕ → Said
say_readings low st left = values (map (read_back low st) left)

abbrev pub quantizing : (Float → Float → List ℕ → Said) → List Float → Said
quantizing say vs = go (quantized vs (map (λ v. 9) vs))
  where
    go : Quantizing.Left → Said
    go l = saying (λ z. say z.0 z.1 l.codes) (Quantizing.in_numbers l.answer)

-- a push that answers 0 goes on with its list
abbrev pub go_on : ℕ → Lent → (Lent → Said) → Said
go_on n l next = cond (eqb n 0) (next l) (refused n)

-- one push of a score at a packed start, and then the rest
abbrev pub then_push : ℕ → Float → Lent → (Lent → Said) → ℕ → Said
then_push k x l next p = go_on (verdict_number (pushed k (scored p x) l).verdict) (pushed k (scored p x) l).list next

abbrev pub pair_of : Scored → Pair
pair_of e = (e.score, start_of e.packed)

abbrev pub pushing : ℕ → List Pair → Lent → Said
pushing k [] l = kept (map pair_of (entries l))
pushing k (p ∷ ps) l = saying (then_push k p.0 l (pushing k ps)) (Packing.in_numbers (packed p.1 p.1))

-- a place for each push, and nothing kept
abbrev pub none_kept : List Pair → Lent
none_kept ps = lent 0 (map (λ p. 0) ps) (map (λ p. nan) ps)

abbrev pub room : List ℕ
room = 9 ∷ 9 ∷ 9 ∷ 9 ∷ 9 ∷ []

abbrev pub answer : Asked → Said
answer (range start end) = packing start end
answer (ids n b) = blocking n b room
answer (step_and_codes vs) = quantizing say_step_and_codes vs
answer (codes vs) = quantizing say_codes vs
answer (readings vs) = quantizing say_readings vs
answer (pushes k ps) = pushing k ps (none_kept ps)

-- ---- the pages, in the document's order
pub record Page : Type 0 where
  pub asked : Asked
  pub said : Said

abbrev pub page : Asked → Said → Page
page a s = record { asked = a; said = s }

abbrev pub whole : ℕ → Float
whole n = of_int binary32 (pos n)

abbrev pub half : Float
half = of_bits binary32 0x3f000000

-- 2 ^ -149, the least f32 above 0
abbrev pub tiny : Float
tiny = of_bits binary32 1

unfoldable pub pages : List Page
pages =
    page (range 3 7) (number 196612)
    ∷ page (range (2 ^ 48 - 1) (2 ^ 48 - 1)) (number 18446744073709486080)
    ∷ page (range (2 ^ 48) (2 ^ 48)) (refused 1)
    ∷ page (range 0 65535) (number 65535)
    ∷ page (range 0 65536) (refused 2)
    ∷ page (ids 10 3) (numbers (0 ∷ 3 ∷ 6 ∷ 10 ∷ []))
    ∷ page (ids 2 3) (numbers (2 ∷ []))
    ∷ page (ids 0 3) (numbers (0 ∷ []))
    ∷ page (ids 10 0) (refused 3)
    ∷ page (step_and_codes (whole 0 ∷ whole 100 ∷ whole 255 ∷ [])) (step (whole 1) (0 ∷ 100 ∷ 255 ∷ []))
    ∷ page (codes (whole 0 ∷ half ∷ whole 255 ∷ [])) (numbers (0 ∷ 1 ∷ 255 ∷ []))
    ∷ page (step_and_codes (whole 5 ∷ whole 5 ∷ [])) (step (whole 0) (0 ∷ 0 ∷ []))
    ∷ page (step_and_codes (whole 0 ∷ tiny ∷ [])) (step (whole 0) (0 ∷ 255 ∷ []))
    ∷ page (readings (whole 0 ∷ tiny ∷ [])) (values (whole 0 ∷ whole 0 ∷ []))
    ∷ page (pushes 2 ((whole 5, 10) ∷ (whole 3, 0) ∷ (whole 3, 20) ∷ (whole 4, 30) ∷ [])) (kept ((whole 5, 10) ∷ (whole 4, 30) ∷ []))
    ∷ []

-- every page's answer is what the document says
pub worked-pages : map (λ p. answer p.asked) pages ≡ map (λ p. p.said) pages
unfolding pages packed pack_of start_limit length_limit start_of blocked fixed_offsets offsets_left list_limit block_limit quantized least greatest at_most in_bound byte_of key_of better settled well_kept
    verdict_of pushed of_bits of_int add sub mul div
worked-pages = refl
