-- `search_probe::admit`: at each return the first test that fails gives the refusal.
use mathlib.Core.Path.{sym, ◌∙◌}
use Rattle.search_probe.specs.Lent.{lent_terms}
use borrow.Author.Tests.{not-true, not-false}
use Rattle.kept_list.specs.Lent.{lent}
use Rattle.search_probe.specs.Probed.{lends}
use Rattle.search_probe.proofs.Admitted.{refused-10, refused-6, refused-12, refused-4, accepted}
use Rattle.search_probe.proofs.admit.Goals as goal

pub returns-then-not-slices_hold : goal.returns-then-not-slices_hold
returns-then-not-slices_hold c =
    let a = c.args in
    refused-10 a.k (lent_terms a.query a.terms) (lends (lent a.length a.packed.now a.scores.now) a.visits.now)
    (sym c.slices_hold.ensures ∙ not-true _ c.if-not-slices_hold.true-raw)

pub returns-then-terms : goal.returns-then-terms
returns-then-terms c =
    let a = c.args in
    refused-6 a.k (lent_terms a.query a.terms) (lends (lent a.length a.packed.now a.scores.now) a.visits.now)
    (sym c.slices_hold.ensures ∙ not-false _ c.if-not-slices_hold.false-raw) c.if-terms.true

pub returns-then-k-length : goal.returns-then-k-length
returns-then-k-length c =
    let a = c.args in
    refused-12 a.k (lent_terms a.query a.terms) (lends (lent a.length a.packed.now a.scores.now) a.visits.now)
    (sym c.slices_hold.ensures ∙ not-false _ c.if-not-slices_hold.false-raw) c.if-terms.false c.if-k-length.true

pub returns-then-packed-most : goal.returns-then-packed-most
returns-then-packed-most c =
    let a = c.args in
    refused-4 a.k (lent_terms a.query a.terms) (lends (lent a.length a.packed.now a.scores.now) a.visits.now)
    (sym c.slices_hold.ensures ∙ not-false _ c.if-not-slices_hold.false-raw) c.if-terms.false c.if-k-length.false c.if-packed-most.true

pub returns : goal.returns
returns c =
    let a = c.args in
    accepted a.k (lent_terms a.query a.terms) (lends (lent a.length a.packed.now a.scores.now) a.visits.now)
    (sym c.slices_hold.ensures ∙ not-false _ c.if-not-slices_hold.false-raw) c.if-terms.false c.if-k-length.false c.if-packed-most.false
