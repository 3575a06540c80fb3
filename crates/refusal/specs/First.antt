-- The order of refusals: a call's tests stand in a list, and the first that finds a fault gives the refusal.
use Rattle.std.specs.Prelude.{◌≡◌, Bool, true, false, cond, List, [], ◌∷◌, ◌++◌, Result, Ok, Err}
use Rattle.refusal.specs.declared.Refusal.{Refusal}

-- whether a fault was found, and the refusal for it
pub record Test : Type 0 where
  pub fault : Bool
  pub reason : Refusal

abbrev pub ◌gives◌ : Bool → Refusal → Test
◌gives◌ b r = record { fault = b; reason = r }

infix 20 ◌gives◌
-- the refusal of the first test that finds a fault
abbrev pub first_of : List Test → Result (Unit {0}) Refusal
first_of [] = Ok tt
first_of (t ∷ ts) = cond t.fault (Err t.reason) (first_of ts)

-- ---- what the tests find
-- no test finds a fault
abbrev pub Faultless : List Test → Type 0
Faultless [] = Unit {0}
Faultless (t ∷ ts) = (t.fault ≡ false) × Faultless ts

-- a refused call has a first test that finds its fault
pub record FirstFault (ts : List Test) (r : Refusal) : Type 0 where
  pub before : List Test
  pub after : List Test
  pub is : ts ≡ before ++ ((true gives r) ∷ after)
  pub none_before : Faultless before
