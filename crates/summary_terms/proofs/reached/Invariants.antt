-- The loop's invariant: the values passed, and those that it takes from here, are as many as it takes in all.
use mathlib.Core.Path.{◌≡◌}
use Prim.Native.Nat.{◌+◌}
use mathlib.Core.List.{map}
use lib.ListN.{drop}
use Rattle.documents.specs.TermKeys.{value_of_term}
use Rattle.summary_terms.specs.Answers.{zero}
use Rattle.summary_terms.specs.Steps.{reached_by}
use Rattle.summary_terms.proofs.reached.Given as goal

abbrev pub invariant-loop-i : goal.invariant-loop-i
invariant-loop-i l = l.i + reached_by l.goal l.sum (map value_of_term (drop l.i l.keys)) ≡ reached_by l.goal zero (map value_of_term l.keys)
