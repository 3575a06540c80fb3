-- `build_scratch::scratch_needs` meets its contract: the formula over the list's sizes.
use Rattle.documents.specs.Lent.{lent}
use Rattle.build_admission.specs.Laws.Used.{taken-long}
use Rattle.build_scratch.proofs.Laws.{needs-are}
use Rattle.build_scratch.proofs.scratch_needs.Goals as goal

pub slice_bounds-term_total-end : goal.slice_bounds-term_total-end
slice_bounds-term_total-end c =
    let a = c.args in taken-long a.blocking a.centroids.now c.centroids_taken-taken.result c.centroids_taken-taken.ensures

pub returns : goal.returns
returns c =
    let a = c.args in
    let n = c.centroids_taken-taken in
    needs-are a.dimension a.blocking (lent a.documents) a.ids.now a.centroids.now n.result
    c.term_total-terms.result c.needs_of_sizes.result n.ensures c.term_total-terms.ensures c.needs_of_sizes.ensures
