-- `kept_entries::is_well_kept` meets its contract: what was found so far, with the last entry looked at.
use Rattle.kept_entries.proofs.Checks.{Checked}
use Rattle.kept_entries.proofs.is_well_kept.Given as goal

abbrev pub invariant-loop-i : goal.invariant-loop-i
invariant-loop-i l = Checked l.k l.length l.entries l.ok l.above l.i
