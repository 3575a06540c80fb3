-- `search_checks::all_under` meets its contract. The test of what is left, with what was found so far, is the test of all.
use mathlib.Core.Path.{◌≡◌}
use mathlib.Core.Bool.{◌&&◌}
use lib.ListN.{drop}
use lib.Dec.{ltb}
use Rattle.sequences.specs.Lists.{every}
use Rattle.search_checks.proofs.all_under.Given as goal

abbrev pub invariant-loop-id : goal.invariant-loop-id
invariant-loop-id l = (l.ok && every (λ n. ltb n l.bound) (drop l.id-index l.summary_ids)) ≡ every (λ n. ltb n l.bound) l.summary_ids
