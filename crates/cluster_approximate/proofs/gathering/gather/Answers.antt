-- `cluster_approximate::gathering::gather` meets its contract.
use Rattle.sort.specs.Ranked.{rank_in}
use Rattle.cluster_passes.specs.Ranked.{is_small}
use Rattle.cluster_approximate.specs.Laws.Gathering.{gather-step, gather-end}
use mathlib.Core.Path.{ap, ◌∙◌}
use native.Mathlib.Omega.{arith}
use Rattle.cluster_approximate.proofs.gathering.gather.Goals as goal

pub loop-id-preserved : goal.loop-id-preserved
loop-id-preserved c =
    let a = c.args in
    let l = c.loop-id in
    let s = c.is_small-dissolves in
    let p = c.push-n in (
      omega (arith, l.invariant.0, p.ensures.room),
      gather-step (λ c. is_small a.counts.now a.minimum (rank_in a.known.now c)) a.centroids.now l.competing p.new.competing l.id-index l.n p.result s.result c.loop-id-test.true (s.ensures ∙ ap (is_small a.counts.now a.minimum) c.rank-r.ensures) p.ensures.gathered ∙ l.invariant.1,
    )

pub returns : goal.returns
returns c =
    let l = c.loop-id in let a = c.args in record {
      gathered = gather-end (λ c. is_small a.counts.now a.minimum (rank_in a.known.now c)) a.centroids.now l.competing l.id-index l.n c.loop-id-test.false l.invariant.1;
      room = omega (arith, l.invariant.0, l.auto.id-index-end, c.requires);
    }
