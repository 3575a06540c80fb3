-- `cluster_exact::taking::second_pass` meets its contract.
use Rattle.cluster_index.specs.Lent.{entries_lent}
use Rattle.documents.specs.Lent.{lent}
use Rattle.cluster_passes.specs.Laws.Passes.{over-start, over-read, over-step, over-end}
use Rattle.cluster_exact.specs.Exact.{second_rank}
use mathlib.Core.Path.{ap, ◌∙◌}
use Prim.Native.Nat.{ℕ}
use native.Mathlib.Omega.{arith}
use lib.ListN.{length, get_or, set}
use Rattle.cluster_exact.proofs.taking.second_pass.Goals as goal

pub loop-i-init : goal.loop-i-init
loop-i-init c =
    let a = c.args in
    over-start (second_rank a.known.now a.counts.now a.minimum a.centroids.now
    (entries_lent a.index) (length a.sums.now) (lent a.documents)) a.ids.now
    a.taken.now

pub loop-i-preserved : goal.loop-i-preserved
loop-i-preserved c =
    let l = c.loop-i in
    let a = c.args in
    let f : ℕ → ℕ → ℕ = (second_rank a.known.now a.counts.now a.minimum a.centroids.now (entries_lent a.index)
    (length a.sums.now) (lent a.documents)) in
    ap (set l.taken l.i)
    (c.second_rank-r.ensures
    ∙ ap (λ n. second_rank a.known.now a.counts.now a.minimum a.centroids.now (entries_lent a.index) n
    (lent a.documents) (get_or a.ids.now l.i 0) (get_or l.taken l.i 0)) l.auto.sums
    ∙ ap (f (get_or a.ids.now l.i 0)) (over-read f a.ids.now a.taken.now l.taken l.i l.invariant c.loop-i-test.true))
    ∙ over-step f a.ids.now a.taken.now l.taken l.i l.invariant c.loop-i-test.true (omega (arith, c.requires, c.loop-i-test.true))

pub returns : goal.returns
returns c =
    let l = c.loop-i in
    let a = c.args in
    over-end (second_rank a.known.now a.counts.now a.minimum a.centroids.now (entries_lent a.index) (length a.sums.now)
    (lent a.documents)) a.ids.now a.taken.now l.taken l.i l.invariant
    (omega (arith, l.auto.i-end, c.loop-i-test.false))
