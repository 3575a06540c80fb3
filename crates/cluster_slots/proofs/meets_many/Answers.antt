-- `cluster_slots::meets_many` meets its contract.
use mathlib.Core.Path.{sym, ◌∙◌}
use Rattle.cluster_index.specs.Lent.{entries_lent}
use Rattle.cluster_slots.specs.Laws.Loops.{many-found, many-step, many-end}
use Rattle.cluster_slots.proofs.meets_many.Goals as goal

pub returns-then-left-size : goal.returns-then-left-size
returns-then-left-size c =
    let l = c.loop-key in
    let a = c.args in
    sym (many-found (entries_lent a.index) a.keys.now l.key-index c.slots_met-size.result.now l.left c.loop-key-test.true
    c.slots_met-size.ensures c.if-left-size.true) ∙ l.invariant

pub loop-key-preserved : goal.loop-key-preserved
loop-key-preserved c =
    let l = c.loop-key in
    let a = c.args in
    many-step (entries_lent a.index) a.keys.now l.key-index c.slots_met-size.result.now l.left c.loop-key-test.true
    c.slots_met-size.ensures c.if-left-size.false ∙ l.invariant

pub returns : goal.returns
returns c =
    let l = c.loop-key in let a = c.args in many-end (entries_lent a.index) a.keys.now l.key-index l.left c.loop-key-test.false ∙ l.invariant
