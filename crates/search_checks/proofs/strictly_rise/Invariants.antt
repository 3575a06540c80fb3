-- `search_checks::strictly_rise` meets its contract. The test of what is left, with what was found so far, is the test of all.
use Prim.Native.Nat.{◌-◌}
use mathlib.Core.Path.{◌≡◌}
use mathlib.Core.Bool.{◌&&◌}
use lib.ListN.{drop}
use Rattle.sequences.specs.Lists.{strictly_rise}
use Rattle.search_checks.proofs.strictly_rise.Given as goal

abbrev pub invariant-loop-i : goal.invariant-loop-i
invariant-loop-i l = (l.ok && strictly_rise (drop (l.i - 1) l.summary_components)) ≡ strictly_rise l.summary_components
