-- `search_checks::minimums_hold` meets its contract. The test of what is left, with what was found so far, is the test of all.
use mathlib.Core.Path.{◌≡◌}
use mathlib.Core.Bool.{◌&&◌}
use lib.ListN.{drop}
use Rattle.quantizing.specs.Quantizing.{minimum_allowed}
use Rattle.sequences.specs.Lists.{every}
use Rattle.search_checks.proofs.minimums_hold.Given as goal

abbrev pub invariant-loop-m : goal.invariant-loop-m
invariant-loop-m l = (l.ok && every minimum_allowed (drop l.m-index l.minimums)) ≡ every minimum_allowed l.minimums
