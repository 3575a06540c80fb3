-- A new entry goes up past the worse ones right above a place, and each of these goes down by one.
use Rattle.std.specs.Prelude.{ℕ, suc, ◌≤◌, ◌<◌, ◌≡◌, true, false, List, ◌++◌, take, drop, Float}
use Rattle.std.proofs.Math.Seq.{slice}
use Rattle.kept_list.specs.declared.Scored.{Scored}
use Rattle.kept_list.specs.Entry.{better}
use Rattle.kept_list.specs.Lent.{entry_at}

-- what stands from the place r up to `at` is one lower; at r there is still what was there
unfoldable pub moved_down : {B : Type 0} → ℕ → ℕ → List B → List B
moved_down r at c = take (suc r) c ++ (slice r at c ++ drop (suc at) c)

-- e is better than each entry from the place r up to `at`
pub record Worse (e : Scored) (at : ℕ) (ps : List ℕ) (xs : List Float) (r : ℕ) : Type 0 where
  pub within : r ≤ at
  pub each : (j : ℕ) → r ≤ j → j < at → better e (entry_at j ps xs) ≡ true

-- and not better than the one right above r
pub record Found (e : Scored) (at : ℕ) (ps : List ℕ) (xs : List Float) (r : ℕ) : Type 0 where
  pub passed : Worse e at ps xs r
  pub stop : (j : ℕ) → r ≡ suc j → better e (entry_at j ps xs) ≡ false
