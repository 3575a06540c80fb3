-- `cluster_approximate_pass::second_pass` meets its contract.
use Rattle.cluster_index.specs.Lent.{entries_lent}
use Rattle.documents.specs.Lent.{lent}
use Rattle.cluster_passes.specs.Laws.Passes.{Over}
use Rattle.cluster_slots.specs.Met.{none}
use Rattle.cluster_approximate_pass.specs.Taking.{again_rank}
use mathlib.Core.Path.{◌≡◌}
use lib.ListN.{length, replicate}
use Rattle.cluster_approximate_pass.proofs.second_pass.Given as goal

abbrev pub invariant-loop-i : goal.invariant-loop-i
invariant-loop-i l =
    Over
    (again_rank l.known l.counts l.minimum l.cut l.first.0 l.competing (entries_lent l.index) (length l.initial.sums) (length l.initial.keys) (lent l.documents)) l.ids l.initial.taken
    l.i l.taken × (l.sums ≡ replicate (length l.initial.sums) none)
