-- No refusal has the number 0, which an accepted call gives, and no two have the same.
use Rattle.std.specs.Prelude.{ℕ, ◌-◌, ◌≡◌, refl, List, [], ◌∷◌, get_or}
use Rattle.std.proofs.Common.{arith, sym, ap, ◌∙◌}
use Rattle.refusal.specs.declared.Refusal.{Refusal}
use Rattle.refusal.specs.declared.Refusal.TheVariants.{StartTooLarge, RangeTooLong, NoBlockSize, BufferTooShort, WrongCentroids, WrongDocuments, EmptySummary, OutsideLimits, MalformedList}
use Rattle.refusal.specs.declared.Refusal.TheVariants.{WrongQuery, NothingToKeep, WrongKeptList, PastTheTerms, WrongTerms, NoSuchStart}
use Rattle.refusal.specs.Refusals.{number_of}

-- the refusals in the order of their numbers, and the one with a number
abbrev refusals : List Refusal
refusals =
    StartTooLarge ∷ RangeTooLong ∷ NoBlockSize ∷ BufferTooShort ∷ WrongCentroids ∷ WrongDocuments ∷ EmptySummary ∷ OutsideLimits ∷ MalformedList ∷ WrongQuery ∷ NothingToKeep ∷ WrongKeptList
    ∷ PastTheTerms ∷ WrongTerms ∷ NoSuchStart ∷ []

abbrev with_number : ℕ → Refusal
with_number n = get_or refusals (n - 1) StartTooLarge

-- a number leads back to its refusal, and is above 0
back : (r : Refusal) → (with_number (number_of r) ≡ r) × (number_of r - 1 ≡ number_of r → ⊥)
back StartTooLarge = (refl, λ h. omega arith)
back RangeTooLong = (refl, λ h. omega arith)
back NoBlockSize = (refl, λ h. omega arith)
back BufferTooShort = (refl, λ h. omega arith)
back WrongCentroids = (refl, λ h. omega arith)
back WrongDocuments = (refl, λ h. omega arith)
back EmptySummary = (refl, λ h. omega arith)
back OutsideLimits = (refl, λ h. omega arith)
back MalformedList = (refl, λ h. omega arith)
back WrongQuery = (refl, λ h. omega arith)
back NothingToKeep = (refl, λ h. omega arith)
back WrongKeptList = (refl, λ h. omega arith)
back PastTheTerms = (refl, λ h. omega arith)
back WrongTerms = (refl, λ h. omega arith)
back NoSuchStart = (refl, λ h. omega arith)

pub number-not-zero : (r : Refusal) → number_of r ≡ 0 → ⊥
number-not-zero r h = (back r).1 (omega (arith, h))

pub numbers-differ : (r s : Refusal) → number_of r ≡ number_of s → r ≡ s
numbers-differ r s h = sym (back r).0 ∙ ap with_number h ∙ (back s).0
