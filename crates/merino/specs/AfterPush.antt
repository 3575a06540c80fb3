-- What a caller of `merino_push` has where it answers another number than 0.
use Rattle.std.specs.Prelude.{ℕ, ◌≡◌}
use Rattle.refusal.specs.declared.Refusal.{Refusal}
use Rattle.refusal.specs.Refusals.{number_of}
use Rattle.refusal.specs.First.{FirstFault}
use Rattle.kept_list.specs.declared.Scored.{Scored}
use Rattle.kept_list.specs.Lent.{Lent}
use Rattle.kept_list.specs.Push.{tests}

-- a push that answers another number than 0: that of a refusal, for the first fault that its tests find, and the list is as it was
pub record NotKept (k : ℕ) (e : Scored) (l m : Lent) (n : ℕ) : Type 0 where
  pub reason : Refusal
  pub number : n ≡ number_of reason
  pub first : FirstFault (tests k e l) reason
  pub unchanged : m ≡ l
