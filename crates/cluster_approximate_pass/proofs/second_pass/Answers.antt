-- `cluster_approximate_pass::second_pass` meets its contract.
use Rattle.cluster_index.specs.Lent.{entries_lent}
use Rattle.documents.specs.Lent.{lent}
use Rattle.cluster_passes.specs.Passes.{over}
use Rattle.cluster_passes.specs.Laws.Passes.{over-start}
use Rattle.cluster_slots.specs.Met.{none}
use Rattle.cluster_approximate_pass.specs.Taking.{again_rank}
use Rattle.cluster_approximate_pass.proofs.Laws.{taken-again, stayed, over-cut}
use mathlib.Core.Path.{sym, ap, ◌∙◌}
use native.Mathlib.Omega.{arith}
use lib.ListN.{length, replicate}
use Rattle.cluster_approximate_pass.proofs.second_pass.Goals as goal
use Rattle.cluster_approximate_pass.proofs.second_pass.Goals.{then-is_small, else-is_small}

pub loop-i-init : goal.loop-i-init
loop-i-init c =
    let a = c.args in
    let z = c.clear in (
      over-start (again_rank a.known.now a.counts.now a.minimum a.cut a.first.0 a.competing.now
          (entries_lent a.index) (length z.new.numbers) (length a.keys.now)
          (lent a.documents)) a.ids.now a.taken.now,
      z.ensures ∙ ap (λ n. replicate n none) (sym z.auto.numbers),
    )

pub loop-i-preserved : goal.loop-i-preserved
loop-i-preserved c =
    let l = c.loop-i in let a = c.args in let z = c.clear in let s = c.is_small in elim c.if-is_small.branch [
      | then-is_small w ↦ let r = w.near_rank-r in (
        w.taken-is ∙ taken-again a.known.now a.counts.now a.minimum a.cut a.first.0 a.competing.now (entries_lent a.index)
            (length z.new.numbers) (length a.keys.now) (lent a.documents) a.ids.now a.taken.now l.taken l.i
            (length l.sums) (length l.keys) r.result.0 s.result l.invariant.0 (omega (arith, c.loop-i-test.true, c.min-end.ensures))
            (omega (arith, c.loop-i-test.true, c.min-end.ensures)) l.auto.sums l.auto.keys s.ensures w.if-is_small.true r.ensures.answer,
        w.sums-is ∙ r.ensures.sums ∙ ap (λ n. replicate n none) l.auto.sums,
      )
      | else-is_small w ↦ (
        w.taken-is ∙ stayed a.known.now a.counts.now a.minimum a.cut a.first.0 a.competing.now (entries_lent a.index)
            (length z.new.numbers) (length a.keys.now) (lent a.documents) a.ids.now a.taken.now l.taken l.i
            s.result l.invariant.0 (omega (arith, c.loop-i-test.true, c.min-end.ensures)) (omega (arith, c.loop-i-test.true, c.min-end.ensures)) s.ensures w.if-is_small.false,
        w.sums-is ∙ l.invariant.1,
      )
    ]

pub returns : goal.returns
returns c =
    let l = c.loop-i in let a = c.args in let z = c.clear in record {
      taken = over-cut (again_rank a.known.now a.counts.now a.minimum a.cut a.first.0 a.competing.now (entries_lent a.index)
          (length z.new.numbers) (length a.keys.now) (lent a.documents)) a.ids.now a.taken.now l.taken l.i
          c.min-end.result l.invariant.0 c.min-end.ensures (omega (arith, l.auto.i-end, c.loop-i-test.false))
          ∙ ap (λ n. over (again_rank a.known.now a.counts.now a.minimum a.cut a.first.0 a.competing.now
          (entries_lent a.index) n (length a.keys.now) (lent a.documents))
          a.ids.now a.taken.now) z.auto.numbers;
      sums = l.invariant.1 ∙ ap (λ n. replicate n none) z.auto.numbers;
      keys = c.clear-2.ensures ∙ ap (λ n. replicate n 0) l.auto.keys;
    }
