-- `explain::probe_to`: from what the postings before it left.
use Rattle.kept_list.specs.Lent.{lent}
use Rattle.search_probe.specs.Lent.{lent_terms}
use Rattle.search_probe.specs.Probed.{lends}
use Rattle.explain.proofs.Fates.{fated-in}
use mathlib.Core.Path.{sym}
use lib.Seq.{length-take-le}
use native.Mathlib.Omega.{arith}
use Rattle.explain.proofs.probe_to.Goals as goal

pub overflow_add-bytes : goal.overflow_add-bytes
overflow_add-bytes c = omega (arith, c.ranges.terms.0)

pub slice_bounds-reached_fate-end-2 : goal.slice_bounds-reached_fate-end-2
slice_bounds-reached_fate-end-2 c =
    sym (length-take-le c.min-n.result c.probe-answer.new.visits (omega (arith, c.min-n.ensures)))

pub returns : goal.returns
returns c =
    let a = c.args in fated-in a.k a.factor (lent_terms a.query a.terms) a.postings.now a.first
    a.score a.position (lends (lent a.length.now a.packed.now a.scores.now) a.visits.now) _ _ _ c.probe-answer.ensures c.at-posting.ensures _ c.min-n.ensures c.reached_fate.ensures
