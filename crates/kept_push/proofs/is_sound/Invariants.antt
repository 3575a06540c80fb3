-- `kept_push::is_sound` meets its contract: what is left to look at adds to what was found so far.
use Prim.Native.Nat.{◌-◌}
use Rattle.kept_push.proofs.Soundness.{Checking}
use Rattle.kept_push.proofs.is_sound.Given as goal

abbrev pub invariant-loop-i : goal.invariant-loop-i
invariant-loop-i l = Checking l.length l.packed l.scores l.ok l.i

abbrev pub decreases-loop-i : goal.decreases-loop-i
decreases-loop-i l = l.length - l.i
