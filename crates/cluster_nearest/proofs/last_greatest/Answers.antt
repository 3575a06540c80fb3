-- `cluster_nearest::last_greatest` meets its contract: the fold of what is left is the fold of all but the first.
use Prim.Native.Nat.{◌+◌}
use native.Mathlib.Omega.{arith}
use mathlib.Core.Path.{refl, sym, ◌∙◌}
use borrow.Author.Rules.{rules}
use borrow.Author.Tests.{not-false}
use Rattle.cluster_nearest.specs.Nearest.{candidate}
use Rattle.cluster_nearest.specs.Laws.Ends.{last-none-left, last-none-right, last_end}
use Rattle.cluster_nearest.specs.Laws.Passed.{fold-taken, taken-fits, fold-passed, none-past}
use Rattle.cluster_nearest.proofs.last_greatest.Goals as goal

pub returns-then-centroids-eq0 : goal.returns-then-centroids-eq0
returns-then-centroids-eq0 c = last-none-left _ _ _ c.if-centroids-eq0.true

pub returns-then-sums-eq0 : goal.returns-then-sums-eq0
returns-then-sums-eq0 c = last-none-right _ _ _ c.if-sums-eq0.true

pub loop-i-init : goal.loop-i-init
loop-i-init c =
    (search rules, c.shared_slice_known-2-1.given 0, refl)

pub loop-i-preserved-then-not-all_below : goal.loop-i-preserved-then-not-all_below
loop-i-preserved-then-not-all_below c =
    let a = c.args in let l = c.loop-i in (
      search rules,
      taken-fits l.best l.invariant.1 a.centroids.now a.sums.now c.shared_slice_known-2-1.given l.i (l.i + 16) c.last_of-best.result c.last_of-best.ensures,
      fold-taken l.best c.last_of-best.result a.centroids.now a.sums.now l.i (l.i + 16) (omega arith) c.last_of-best.ensures ∙ l.invariant.2,
    )

pub loop-i-preserved : goal.loop-i-preserved
loop-i-preserved c =
    let a = c.args in let l = c.loop-i in (
      search rules,
      l.invariant.1,
      fold-passed l.best l.invariant.1 a.centroids.now a.sums.now c.shared_slice_known-2-1.given l.i (l.i + 16) (omega arith)
          (sym c.all_below.ensures.answer ∙ not-false _ c.if-not-all_below.false-raw) ∙ l.invariant.2,
    )

pub returns : goal.returns
returns c =
    let a = c.args in let l = c.loop-i in let n = c.min-n.result in let t = c.last_of-best-2 in
    last_end _ a.centroids.now a.sums.now n t.result c.if-centroids-eq0.false c.if-sums-eq0.false
    (none-past candidate a.centroids.now a.sums.now n (omega (arith, c.min-n.ensures)))
    (fold-taken l.best t.result a.centroids.now a.sums.now l.i n l.invariant.0 t.ensures ∙ l.invariant.2)
