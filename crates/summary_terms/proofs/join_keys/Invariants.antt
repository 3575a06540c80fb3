-- The loop's invariant: so many keys from the front are joined.
use mathlib.Core.Path.{◌≡◌}
use mathlib.Core.List.{◌++◌, zip_with}
use lib.ListN.{take, drop}
use Rattle.summary_terms.specs.Steps.{key_of_pair}
use Rattle.summary_terms.proofs.join_keys.Given as goal

abbrev pub invariant-loop-i : goal.invariant-loop-i
invariant-loop-i l = l.keys ≡ take l.i (zip_with key_of_pair l.initial.keys l.maxima) ++ drop l.i l.initial.keys
