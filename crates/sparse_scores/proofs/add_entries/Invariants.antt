-- `sparse_scores::add_entries` meets its contract. The walk of the entries left, from the scores so far, is the walk of all.
use mathlib.Core.Path.{◌≡◌}
use lib.ListN.{length}
use lib.Seq.{slice}
use Rattle.sparse_scores.specs.Layout.{entries}
use Rattle.sparse_scores.specs.Walk.{grown_by}
use Rattle.sparse_scores.proofs.add_entries.Given as goal

abbrev pub invariant-loop-i : goal.invariant-loop-i
invariant-loop-i l = (length l.block_scores ≡ length l.initial.block_scores) × (grown_by l.n l.minimums l.steps l.value (slice l.i l.to (entries l.summary_ids l.codes)) l.block_scores ≡ grown_by l.n l.minimums l.steps l.value (slice l.from l.to (entries l.summary_ids l.codes)) l.initial.block_scores)
