-- `cluster_approximate::again::none_dissolve` meets its contract: the fold of what is left is the fold of all.
use Prim.Native.Nat.{◌+◌}
use mathlib.Core.Path.{sym, ap, ◌∙◌}
use mathlib.Core.Bool.{true, not, ◌&&◌}
use mathlib.Core.List.{foldl}
use lib.ListN.{drop}
use Rattle.counting_sort.specs.Laws.Loops.{fold_step, fold_end}
use Rattle.cluster_nearest.specs.Laws.Passed.{every-fold}
use Rattle.cluster_meaning.specs.Clusters.{small}
use Rattle.cluster_approximate.proofs.again.none_dissolve.Goals as goal

pub loop-i-preserved : goal.loop-i-preserved
loop-i-preserved c =
    let l = c.loop-i in
    let a = c.args in
    ap (λ t. foldl (λ b n. b && not (small a.minimum n)) (l.none && not t) (drop (l.i + 1) a.counts.now)) c.is_small-dissolves.ensures
    ∙ fold_step (λ b n. b && not (small a.minimum n)) l.none a.counts.now l.i 0 c.loop-i-test.true ∙ l.invariant

pub returns : goal.returns
returns c =
    let l = c.loop-i in
    let a = c.args in
    sym (fold_end (λ b n. b && not (small a.minimum n)) l.none a.counts.now l.i c.loop-i-test.false) ∙ l.invariant ∙ every-fold (λ n. not (small a.minimum n)) true a.counts.now
