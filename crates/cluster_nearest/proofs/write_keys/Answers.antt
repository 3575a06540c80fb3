-- `cluster_nearest::write_keys` meets its contract.
use mathlib.Core.Path.{sym, ◌∙◌}
use native.Mathlib.Omega.{arith}
use Rattle.cluster_nearest.specs.Laws.Keys.{write_step, write-end}
use Rattle.cluster_nearest.proofs.write_keys.Goals as goal

pub loop-i-preserved : goal.loop-i-preserved
loop-i-preserved c =
    let l = c.loop-i in
    let a = c.args in
    write_step a.components.now a.values.now l.keys _ l.i _ (omega arith) (omega arith) c.term_key-key.ensures c.put.ensures ∙ l.invariant

pub returns : goal.returns
returns c = let l = c.loop-i in let a = c.args in sym (write-end a.components.now a.values.now l.keys l.i (omega arith)) ∙ l.invariant
