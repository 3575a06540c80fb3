-- `sparse_scores::add_entries` meets its contract. The walk of the entries left, from the scores so far, is the walk of all.
use Rattle.sparse_scores.proofs.Walks.{turn, last_turn}
use mathlib.Core.Path.{refl, ◌∙◌, sym, ap}
use lib.ListN.{get_or}
use borrow.Author.Rules.{rules}
use Rattle.sparse_scores.specs.Layout.{entry}
use Rattle.sparse_scores.specs.Walk.{grown}
use Rattle.sparse_scores.proofs.add_entries.Goals as goal

pub loop-i-init : goal.loop-i-init
loop-i-init c = (refl, refl)

pub loop-i-preserved : goal.loop-i-preserved
loop-i-preserved c =
    let l = c.loop-i in
    let a = c.args in
    let id = c.block_of.ensures in
    (search rules, turn a.n a.minimums.now a.steps.now a.value a.summary_ids.now a.codes.now l.i a.to l.block_scores _ c.loop-i-test.true (search rules) (search rules) (c.add_entry.ensures ∙ ap (λ b. grown a.n a.minimums.now a.steps.now a.value (entry b (get_or a.codes.now l.i 0)) l.block_scores) id) ∙ l.invariant.1)

pub returns : goal.returns
returns c =
    let l = c.loop-i in let a = c.args in sym (last_turn a.n a.minimums.now a.steps.now a.value a.summary_ids.now a.codes.now l.i a.to l.block_scores c.loop-i-test.false) ∙ l.invariant.1
