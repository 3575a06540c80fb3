-- `kept_push::all_stand` meets its contract: what was found so far and what is left make the whole.
use Prim.Native.Nat.{◌-◌}
use mathlib.Core.Path.{◌≡◌}
use mathlib.Core.Bool.{◌&&◌}
use Rattle.kept_push.specs.Standing.{each_from, stands}
use Rattle.kept_push.proofs.all_stand.Given as goal

abbrev pub invariant-loop-i : goal.invariant-loop-i
invariant-loop-i l = (l.ok && each_from (stands l.packed l.scores) l.i (l.to - l.i)) ≡ each_from (stands l.packed l.scores) l.from (l.to - l.from)
