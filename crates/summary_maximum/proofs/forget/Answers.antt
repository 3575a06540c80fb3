-- The loop's invariant: what is left to clear leads to the same places.
use mathlib.Core.Path.{ap, ◌∙◌}
use native.Mathlib.Omega.{arith}
use Prim.Native.Nat.{ℕ}
use mathlib.Core.List.{List}
use lib.ListN.{set}
use Rattle.documents.specs.TermKeys.{component_of}
use Rattle.summary_maximum.proofs.Loops.{fold_step, fold_end}
use Rattle.summary_maximum.proofs.forget.Goals as goal

pub loop-key-preserved : goal.loop-key-preserved
loop-key-preserved c =
    let l = c.loop-key in
    let a = c.args in
    fold_step (λ (l : List ℕ) k. set l (component_of k) 0) l.places _ _ 0 a.keys.now l.key-index c.loop-key-test.true
    l.invariant (c.put.ensures ∙ ap (λ k. set l.places k 0) c.component_of_term_key-component.ensures)

pub returns : goal.returns
returns c =
    let l = c.loop-key in
    fold_end (λ (l : List ℕ) k. set l (component_of k) 0) l.places _ c.args.keys.now l.key-index (omega (arith, l.auto.key-index-end, c.loop-key-test.false)) l.invariant
