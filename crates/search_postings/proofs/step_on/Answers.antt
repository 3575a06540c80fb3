-- `search_postings::step_on`: what is left after the step is what was left before it.
use native.Mathlib.Omega.{arith}
use Rattle.refusal.specs.Laws.First.{handed-up}
use Rattle.kept_list.specs.Lent.{lent}
use Rattle.search_postings.specs.Postings.{lends}
use Rattle.search_postings.proofs.Probes.{step_left, step-two, step-one, step-stop, leads-stop}
use Rattle.search_postings.proofs.step_on.Goals as goal

pub overflow_add-result : goal.overflow_add-result
overflow_add-result c =
    let a = c.args in
    let z = step_left a.k a.laid.table.now a.laid.sieve.now a.laid.query.components.now a.laid.query.values.now a.terms.components.now a.terms.values.now a.postings.now a.narrow a.i a.stop c.at.result
    c.at.ensures a.counts (lends (lent a.length.now a.packed.now a.scores.now) a.visits.now) _ c.evaluate_two-both.result c.evaluate_two-both.ensures
    _ c.in-Some.is in
    omega (arith, z, c.ranges)

pub returns-in-Some : goal.returns-in-Some
returns-in-Some c =
    let a = c.args in record {
      turned = step-two a.k a.laid.table.now a.laid.sieve.now a.laid.query.components.now a.laid.query.values.now a.terms.components.now a.terms.values.now a.postings.now a.narrow a.i a.stop c.at.result
          c.at.ensures a.counts (lends (lent a.length.now a.packed.now a.scores.now) a.visits.now) _ c.evaluate_two-both.result c.evaluate_two-both.ensures _ c.in-Some.is;
      further = omega arith;
    }

pub overflow_add-result-2 : goal.overflow_add-result-2
overflow_add-result-2 c =
    omega (arith, c.requires, c.ranges)

pub returns : goal.returns
returns c =
    let a = c.args in record {
      turned = step-one a.k a.laid.table.now a.laid.sieve.now a.laid.query.components.now a.laid.query.values.now a.terms.components.now a.terms.values.now a.postings.now a.narrow a.i a.stop c.at.result
          c.at.ensures a.counts (lends (lent a.length.now a.packed.now a.scores.now) a.visits.now) _ c.evaluate_two-both.result c.evaluate_two-both.ensures
          c.in_default.is c.evaluate.result _ c.requires.i_lt_stop c.evaluate.ensures _ c.in_ok-c.was;
      further = omega arith;
    }

pub returns-in_err-c : goal.returns-in_err-c
returns-in_err-c c =
    let a = c.args in
    let up = handed-up c.from_residual.result _ c.from_residual.ensures.1 in record {
      turned = step-stop a.k a.laid.table.now a.laid.sieve.now a.laid.query.components.now a.laid.query.values.now a.terms.components.now a.terms.values.now a.postings.now a.narrow a.i a.stop c.at.result
          c.at.ensures a.counts (lends (lent a.length.now a.packed.now a.scores.now) a.visits.now) _ c.evaluate_two-both.result c.evaluate_two-both.ensures
          c.in_default.is c.evaluate.result _ c.requires.i_lt_stop c.evaluate.ensures _ c.in_err-c.was _ up;
      further = leads-stop a.stop a.i _ _ up c.requires.i_lt_stop;
    }
