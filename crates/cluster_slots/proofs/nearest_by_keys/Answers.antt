-- `cluster_slots::nearest_by_keys` meets its contract.
use native.Mathlib.Omega.{arith}
use mathlib.Core.Path.{sym}
use mathlib.Core.List.{map}
use lib.ListN.{length-take}
use lib.Seq.{length-take-le}
use Rattle.cluster_index.specs.Lent.{entries_lent}
use Rattle.documents.specs.TermKeys.{term_of}
use Rattle.cluster_slots.specs.Laws.Choice.{by_part}
use Rattle.cluster_slots.proofs.nearest_by_keys.Goals as goal

pub slice_bounds-nearest_within-end-2 : goal.slice_bounds-nearest_within-end-2
slice_bounds-nearest_within-end-2 c =
    sym (length-take-le c.min-n.result c.args.sums.now (omega (arith, c.min-n.ensures)))

pub nearest_within-requires : goal.nearest_within-requires
nearest_within-requires c =
    omega (arith, length-take c.min-n.result c.args.sums.now, c.min-n.ensures)

pub returns : goal.returns
returns c =
    let all = (let a = c.args in
    let s = c.min-n in
    let w = c.nearest_within in
    by_part a.otherwise.0 a.competing.now (entries_lent a.index) a.sums.now w.new.sums
    (map term_of a.keys.now) s.result w.result.0 s.ensures (w.ensures.answer, w.ensures.sums)
    ) in
    record {
      answer = all.0;
      sums = all.1;
    }
