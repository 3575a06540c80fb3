-- `cluster_approximate_pass::first_pass` meets its contract.
use Rattle.cluster_index.specs.Lent.{entries_lent}
use Rattle.documents.specs.Lent.{lent}
use Rattle.sort.specs.Ranked.{rank_in}
use Rattle.cluster_passes.specs.Laws.Passes.{Over}
use Rattle.cluster_slots.specs.Met.{none}
use Rattle.cluster_approximate_pass.specs.Taking.{nearly_choice}
use mathlib.Core.Path.{◌≡◌}
use lib.ListN.{length, replicate}
use Rattle.cluster_approximate_pass.proofs.first_pass.Given as goal

abbrev pub invariant-loop-i : goal.invariant-loop-i
invariant-loop-i l =
    Over
    (λ i r. rank_in l.known (nearly_choice l.cut l.first.0 l.competing (entries_lent l.index) (length l.initial.sums) (length l.initial.keys) (lent l.documents) i)) l.ids
    l.initial.taken l.i l.taken × (l.sums ≡ replicate (length l.initial.sums) none)
