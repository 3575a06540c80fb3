-- `cluster_exact::taking::second_pass` meets its contract.
use Rattle.cluster_index.specs.Lent.{entries_lent}
use Rattle.documents.specs.Lent.{lent}
use Rattle.cluster_passes.specs.Laws.Passes.{Over}
use Rattle.cluster_exact.specs.Exact.{second_rank}
use lib.ListN.{length}
use Rattle.cluster_exact.proofs.taking.second_pass.Given as goal

abbrev pub invariant-loop-i : goal.invariant-loop-i
invariant-loop-i l = Over (second_rank l.known l.counts l.minimum l.centroids (entries_lent l.index) (length l.initial.sums) (lent l.documents)) l.ids l.initial.taken l.i l.taken
