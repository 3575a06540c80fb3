-- Copying and fixed blocking, over plain lists.
use Rattle.std.specs.Prelude.{Result, Ok, Err, IsOk}
use Prim.Native.Nat.{ℕ, suc, ◌+◌, ◌/◌, ◌≤◌, ◌<◌}
use native.Mathlib.Omega.{arith}
use native.Mathlib.Numerals.{add-one}
use mathlib.Core.Path.{◌≡◌, sym, ap, ◌∙◌}
use mathlib.Core.Bool.{Bool, true, false}
use mathlib.Core.List.{List, [], ◌∷◌, ◌++◌, append_assoc}
use lib.ListN.{length, get_or, set, take, drop}
use lib.Seq.{length-take-le, take-length, take-suc, drop-cons, set_at}
use Rattle.refusal.specs.declared.Refusal.{Refusal}
use Rattle.refusal.specs.First.{first_of}
use Rattle.blocking.specs.Blocking.{blocking_tests, answered, blocked, left as left_in, offsets_left, fixed_offsets}
use Rattle.blocking.specs.Laws.Blocking.{offsets-number}
use Rattle.build_meaning.specs.Building.{laid}

-- ---- ids copied place by place, for whoever counts places: so many ids copied, and the rest as it was
pub copy_step : (ids before now : List ℕ) (i : ℕ) → i < length ids → length ids ≤ length before → now ≡ take i ids ++ drop i before → set now i (get_or ids i 0) ≡ take (i + 1) ids ++ drop (i + 1) before
copy_step ids before now i h k e =
    rw (add-one i)
    (ap (λ l. set l i (get_or ids i 0)) e
    ∙ ap (λ l. set (take i ids ++ l) i (get_or ids i 0)) (drop-cons before i 0 (omega arith))
    ∙ set_at (take i ids) (get_or before i 0) (drop (suc i) before) (get_or ids i 0) i (length-take-le i ids (omega arith))
    ∙ sym (ap (λ l. l ++ drop (suc i) before) (take-suc ids i 0 h) ∙ append_assoc (take i ids) (get_or ids i 0 ∷ []) (drop (suc i) before)))

pub copy-end : (ids before now : List ℕ) (i : ℕ) → length ids ≤ i → i ≤ length ids → now ≡ take i ids ++ drop i before → now ≡ laid ids before
copy-end ids before now i h k e = let z : i ≡ length ids = omega arith in e ∙ ap (λ n. take n ids ++ drop n before) z ∙ ap (λ l. l ++ drop (length ids) before) (take-length ids)

-- ---- fixed blocking that is accepted
abbrev number_in : Result ℕ Refusal → ℕ
number_in (Ok n) = n
number_in (Err r) = 0

abbrev is_written : Result ℕ Refusal → Bool
is_written (Ok n) = true
is_written (Err r) = false

module _ (n b : ℕ) (buffer : List ℕ) (h : first_of (blocking_tests n b (length buffer)) ≡ Ok tt) where
  answer-is : (a : Result ℕ Refusal) → a ≡ blocked n b buffer → a ≡ Ok (n / b + 1)
  unfolding blocked
  answer-is a e = e ∙ ap (λ v. answered v (n / b + 1)) h

  pub written_count : (a : Result ℕ Refusal) (count : ℕ) → a ≡ blocked n b buffer → a ≡ Ok count → count ≡ length (fixed_offsets n b)
  written_count a count e w = ap number_in (sym w ∙ answer-is a e) ∙ add-one (n / b) ∙ sym (offsets-number n b)

  pub never-refused : (a : Result ℕ Refusal) → a ≡ blocked n b buffer → IsOk a
  never-refused a e = rw (answer-is a e)

  pub written-offsets : (now : List ℕ) → now ≡ offsets_left n b buffer → now ≡ laid (fixed_offsets n b) buffer
  unfolding offsets_left
  written-offsets now e = e ∙ ap (λ v. left_in v (fixed_offsets n b) buffer) h
