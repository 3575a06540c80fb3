-- `search_postings::probe_postings`: probing what is left is probing all.
use mathlib.Core.Path.{refl, ap, ◌∙◌}
use Rattle.search_postings.specs.Lent.{through_lent}
use Prim.Native.Nat.{◌-◌}
use Rattle.sequences.specs.Lists.{from}
use Rattle.refusal.specs.Laws.First.{handed-up}
use Rattle.kept_list.specs.Lent.{lent}
use Rattle.search_postings.specs.Postings.{lends, held_probe}
use Rattle.search_postings.proofs.Probes.{rest-on, rest-stop, leads-on, probe-end}
use borrow.Author.Rules.{rules}
use native.Mathlib.Omega.{arith}
use Rattle.search_postings.proofs.probe_postings.Goals as goal

pub loop-i-init : goal.loop-i-init
loop-i-init c = (refl, refl, refl, refl)

pub loop-i-smaller : goal.loop-i-smaller
loop-i-smaller c =
    let stop = c.min-stop.result in
    let z = leads-on stop c.loop-i.i c.step_on.result _ c.in_ok-s.was c.step_on.ensures.further in omega (arith, z, c.loop-i-test.true)

pub loop-i-preserved : goal.loop-i-preserved
loop-i-preserved c = (
  search rules,
  search rules,
  search rules,
  let a = c.args in
      rest-on a.k (through_lent a.laid.table.now a.laid.sieve.now a.laid.query a.terms) a.postings.now
      c.min-stop.result c.step_on.result _ _ c.step_on.ensures.turned _ c.in_ok-s.was ∙ c.loop-i.invariant.3,
)

pub returns-in_err-s : goal.returns-in_err-s
returns-in_err-s c =
    let a = c.args in
    rest-stop a.k (through_lent a.laid.table.now a.laid.sieve.now a.laid.query a.terms) a.postings.now
    c.min-stop.result c.step_on.result _ _ c.step_on.ensures.turned _ c.in_err-s.was
    _ (handed-up c.from_residual.result _ c.from_residual.ensures.1) ∙ c.loop-i.invariant.3
    ∙ ap (λ e. held_probe a.k (through_lent a.laid.table.now a.laid.sieve.now a.laid.query a.terms)
    a.postings.now (from a.first (e - a.first)) a.counts (lends (lent a.length.now a.packed.now a.scores.now) a.visits.now))
    c.min-stop.ensures

pub returns : goal.returns
returns c =
    let l = c.loop-i in
    let a = c.args in
    probe-end a.k (through_lent a.laid.table.now a.laid.sieve.now a.laid.query a.terms) a.postings.now
    l.i c.min-stop.result l.c
    (lends (lent l.length l.packed l.scores) l.visits) c.loop-i-test.false ∙ l.invariant.3 ∙ ap
    (λ e. held_probe a.k (through_lent a.laid.table.now a.laid.sieve.now a.laid.query a.terms)
    a.postings.now (from a.first (e - a.first)) a.counts (lends (lent a.length.now a.packed.now a.scores.now)
    a.visits.now)) c.min-stop.ensures
