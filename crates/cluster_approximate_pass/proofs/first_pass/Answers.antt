-- `cluster_approximate_pass::first_pass` meets its contract.
use Rattle.cluster_index.specs.Lent.{entries_lent}
use Rattle.documents.specs.Lent.{lent}
use Rattle.sort.specs.Ranked.{rank_in}
use Rattle.cluster_passes.specs.Passes.{over}
use Rattle.cluster_passes.specs.Laws.Passes.{over-start}
use Rattle.cluster_slots.specs.Met.{none}
use Rattle.cluster_approximate_pass.specs.Taking.{nearly_choice}
use Rattle.cluster_approximate_pass.proofs.Laws.{taken-first, over-cut}
use mathlib.Core.Path.{sym, ap, ◌∙◌}
use native.Mathlib.Omega.{arith}
use lib.ListN.{length, replicate}
use Rattle.cluster_approximate_pass.proofs.first_pass.Goals as goal

pub loop-i-init : goal.loop-i-init
loop-i-init c =
    let a = c.args in
    let z = c.clear in (
      over-start (λ i r. rank_in a.known.now
          (nearly_choice a.cut a.first.0 a.competing.now (entries_lent a.index) (length z.new.numbers) (length a.keys.now)
          (lent a.documents) i)) a.ids.now a.taken.now,
      z.ensures ∙ ap (λ n. replicate n none) (sym z.auto.numbers),
    )

pub loop-i-preserved : goal.loop-i-preserved
loop-i-preserved c =
    let l = c.loop-i in let a = c.args in let z = c.clear in let r = c.near_rank-r in (
      taken-first a.known.now a.cut a.first.0 a.competing.now (entries_lent a.index) (length z.new.numbers)
          (length a.keys.now) (lent a.documents) a.ids.now a.taken.now l.taken l.i
          (length l.sums) (length l.keys) r.result.0 l.invariant.0 (omega (arith, c.loop-i-test.true, c.min-n.ensures))
          (omega (arith, c.loop-i-test.true, c.min-n.ensures)) l.auto.sums l.auto.keys r.ensures.answer,
      r.ensures.sums ∙ ap (λ n. replicate n none) l.auto.sums,
    )

pub returns : goal.returns
returns c =
    let l = c.loop-i in let a = c.args in let z = c.clear in record {
      taken = over-cut (λ i r. rank_in a.known.now (nearly_choice a.cut a.first.0 a.competing.now (entries_lent a.index)
          (length z.new.numbers) (length a.keys.now) (lent a.documents) i)) a.ids.now a.taken.now l.taken l.i
          c.min-n.result l.invariant.0 c.min-n.ensures (omega (arith, l.auto.i-end, c.loop-i-test.false))
          ∙ ap (λ n. over (λ i r. rank_in a.known.now (nearly_choice a.cut a.first.0 a.competing.now (entries_lent a.index) (n)
          (length a.keys.now) (lent a.documents) i)) a.ids.now a.taken.now) z.auto.numbers;
      sums = l.invariant.1 ∙ ap (λ n. replicate n none) z.auto.numbers;
      keys = c.clear-2.ensures ∙ ap (λ n. replicate n 0) l.auto.keys;
    }
