-- The numbers of the refusals: document 01, "Numbered refusals". Every answer gets its number from here, through one definition in the
-- crate of the answer.
use Rattle.std.specs.Prelude.{ℕ, Result, Ok, Err}
use Rattle.refusal.specs.declared.Refusal.{Refusal}
use Rattle.refusal.specs.declared.Refusal.TheVariants.{StartTooLarge, RangeTooLong, NoBlockSize, BufferTooShort, WrongCentroids, WrongDocuments, EmptySummary, OutsideLimits, MalformedList}
use Rattle.refusal.specs.declared.Refusal.TheVariants.{WrongQuery, NothingToKeep, WrongKeptList, PastTheTerms, WrongTerms, NoSuchStart}

abbrev pub number_of : Refusal → ℕ
number_of StartTooLarge = 1
number_of RangeTooLong = 2
number_of NoBlockSize = 3
number_of BufferTooShort = 4
number_of WrongCentroids = 5
number_of WrongDocuments = 6
number_of EmptySummary = 7
number_of OutsideLimits = 8
number_of MalformedList = 9
number_of WrongQuery = 10
number_of NothingToKeep = 11
number_of WrongKeptList = 12
number_of PastTheTerms = 13
number_of WrongTerms = 14
number_of NoSuchStart = 15

-- a verdict in document 01's terms: 0 where the call is accepted, else the number of its refusal
abbrev pub verdict_number : Result (Unit {0}) Refusal → ℕ
verdict_number (Ok _) = 0
verdict_number (Err r) = number_of r
