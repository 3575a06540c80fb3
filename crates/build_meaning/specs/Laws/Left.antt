-- What a build answers, in document 01's numbers, and what it leaves: the two cases, and a result in front of a buffer.
use Rattle.std.specs.Prelude.{◌≤◌, ◌≡◌, refl, List, length, take, drop, Result, Ok, Err}
use Rattle.std.proofs.Common.{arith, ap, ◌∙◌, length-append, length-drop, take_at, drop_at}
use Rattle.refusal.specs.declared.Refusal.{Refusal}
use Rattle.refusal.specs.Refusals.{number_of, verdict_number}
use Rattle.build_meaning.specs.Built.{Input, built}
use Rattle.build_meaning.specs.Building.{Lent, verdict_of, laid, cleared_output, cleared_scratch, filled, left, answer_by, numbers, in_numbers, builds}

-- the number that a build answers is its verdict's
pub answers_number : (g : Input) (lent : Lent) → (in_numbers (builds g lent).answer).number ≡ verdict_number (verdict_of g lent)
unfolding builds
answers_number g lent = go (verdict_of g lent)
  where
    go : (v : Result (Unit {0}) Refusal) → (in_numbers (answer_by v (built g))).number ≡ verdict_number v
    go (Ok _) = refl
    go (Err r) = refl

-- a refused build answers its number alone
pub refused-numbers : (g : Input) (lent : Lent) (r : Refusal) → verdict_of g lent ≡ Err r → in_numbers (builds g lent).answer ≡ numbers (number_of r) 0 0 0 0 0
unfolding builds
refused-numbers g lent r h = ap (λ v. in_numbers (answer_by v (built g))) h

-- an accepted one answers 0 and how long each part of the list is
pub accepted-numbers : (g : Input) (lent : Lent) → verdict_of g lent ≡ Ok tt
    → in_numbers (builds g lent).answer
    ≡ numbers 0 (length (built g).postings) (length (built g).block_offsets) (length (built g).summaries.summary_components) (length (built g).summaries.summary_ids)
    (length (built g).summaries.minimums)
unfolding builds
accepted-numbers g lent h = ap (λ v. in_numbers (answer_by v (built g))) h

-- a refused build sets all output and scratch to zero
pub refused-leaves : (g : Input) (lent : Lent) (r : Refusal) → verdict_of g lent ≡ Err r → left g lent ≡ record { output = cleared_output lent.output; scratch = cleared_scratch lent.scratch }
unfolding left
refused-leaves g lent r h = rw h

-- an accepted one zeroes scratch, and leaves its result in front of the output
pub accepted-leaves : (g : Input) (lent : Lent) → verdict_of g lent ≡ Ok tt → left g lent ≡ record { output = filled (built g) lent.output; scratch = cleared_scratch lent.scratch }
unfolding left
accepted-leaves g lent h = rw h

-- where the result is found, and past it what was there
module _ {A : Type 0} (result buffer : List A) where
  pub in-front : take (length result) (laid result buffer) ≡ result
  in-front = take_at result (drop (length result) buffer) (length result) refl

  pub past-it : drop (length result) (laid result buffer) ≡ drop (length result) buffer
  past-it = drop_at result (drop (length result) buffer) (length result) refl

  pub as_long : length result ≤ length buffer → length (laid result buffer) ≡ length buffer
  as_long h = length-append result (drop (length result) buffer) ∙ (let d = length-drop (length result) buffer in omega arith)
