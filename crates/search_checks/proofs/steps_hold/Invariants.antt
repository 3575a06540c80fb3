-- `search_checks::steps_hold` meets its contract. The test of what is left, with what was found so far, is the test of all.
use mathlib.Core.Path.{◌≡◌}
use mathlib.Core.Bool.{◌&&◌}
use lib.ListN.{drop}
use Rattle.quantizing.specs.Quantizing.{step_allowed}
use Rattle.sequences.specs.Lists.{every}
use Rattle.search_checks.proofs.steps_hold.Given as goal

abbrev pub invariant-loop-s : goal.invariant-loop-s
invariant-loop-s l = (l.ok && every step_allowed (drop l.s-index l.steps)) ≡ every step_allowed l.steps
