-- `cluster_exact::taking::first_pass` meets its contract.
use Rattle.sort.specs.Ranked.{rank_in}
use Rattle.cluster_index.specs.Lent.{entries_lent}
use Rattle.documents.specs.Lent.{lent}
use Rattle.cluster_passes.specs.Laws.Passes.{over-start, over-step, over-end}
use Rattle.cluster_exact.specs.Exact.{first_choice}
use mathlib.Core.Path.{ap, ◌∙◌}
use Prim.Native.Nat.{ℕ}
use native.Mathlib.Omega.{arith}
use lib.ListN.{length, get_or, set}
use Rattle.cluster_exact.proofs.taking.first_pass.Goals as goal

pub loop-i-init : goal.loop-i-init
loop-i-init c =
    let a = c.args in
    over-start (λ (j r : ℕ). rank_in a.known.now
    (first_choice a.known.now a.centroids.now (entries_lent a.index) (length a.sums.now)
    (lent a.documents) j)) a.ids.now a.taken.now

pub loop-i-preserved : goal.loop-i-preserved
loop-i-preserved c =
    let l = c.loop-i in
    let a = c.args in
    let f : ℕ → ℕ → ℕ = (λ (j r : ℕ). rank_in a.known.now (first_choice a.known.now a.centroids.now (entries_lent a.index)
    (length a.sums.now) (lent a.documents) j)) in
    ap (set l.taken l.i) (c.first_rank-r.ensures ∙ ap
    (λ n. rank_in a.known.now (first_choice a.known.now a.centroids.now (entries_lent a.index) n
    (lent a.documents) (get_or a.ids.now l.i 0))) l.auto.sums)
    ∙ over-step f a.ids.now a.taken.now l.taken l.i l.invariant c.loop-i-test.true (omega (arith, c.requires, c.loop-i-test.true))

pub returns : goal.returns
returns c =
    let l = c.loop-i in
    let a = c.args in
    over-end (λ (j r : ℕ). rank_in a.known.now (first_choice a.known.now a.centroids.now (entries_lent a.index)
    (length a.sums.now) (lent a.documents) j)) a.ids.now a.taken.now l.taken l.i l.invariant
    (omega (arith, l.auto.i-end, c.loop-i-test.false))
