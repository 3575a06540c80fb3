-- `cluster_exact::taking::first_pass` meets its contract.
use Rattle.sort.specs.Ranked.{rank_in}
use Rattle.cluster_index.specs.Lent.{entries_lent}
use Rattle.documents.specs.Lent.{lent}
use Rattle.cluster_passes.specs.Laws.Passes.{Over}
use Rattle.cluster_exact.specs.Exact.{first_choice}
use lib.ListN.{length}
use Rattle.cluster_exact.proofs.taking.first_pass.Given as goal

abbrev pub invariant-loop-i : goal.invariant-loop-i
invariant-loop-i l = Over (λ j r. rank_in l.known (first_choice l.known l.centroids (entries_lent l.index) (length l.initial.sums) (lent l.documents) j)) l.ids l.initial.taken l.i l.taken
