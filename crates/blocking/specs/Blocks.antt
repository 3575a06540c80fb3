-- What fixed blocking answers, with what it leaves in the lent buffer, in one statement.
use Rattle.std.specs.Prelude.{ℕ, ◌≡◌, List, Result}
use Rattle.refusal.specs.declared.Refusal.{Refusal}
use Rattle.blocking.specs.Blocking.{blocked, offsets_left}

-- ---- which answer is given, and what it leaves in the lent buffer
-- an answer with the buffer that it leaves is what blocking comes to
abbrev pub Blocks : ℕ → ℕ → List ℕ → Result ℕ Refusal → List ℕ → Type 0
Blocks n b buffer answer after = (answer ≡ blocked n b buffer) × (after ≡ offsets_left n b buffer)
