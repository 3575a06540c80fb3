-- So many went down.
use Rattle.std.proofs.Common.{◌≡◌, ◌-◌}
use Rattle.kept_list.specs.Inserting.{moved_down}
use Rattle.kept_list.proofs.down.Given as goal

abbrev pub invariant-loop-n : goal.invariant-loop-n
invariant-loop-n g l = l.values ≡ moved_down (l.i - l.n) l.i l.initial.values
