-- `cluster_nearest::sort_keys` meets its contract.
use lib.Seq.{length-take-le}
use Rattle.documents.specs.Documents.{paired}
use Rattle.documents.specs.Laws.Places.{paired-count}
use Rattle.documents.specs.Laws.TermKeys.{held-paired}
use Rattle.cluster_nearest.specs.Laws.Keys.{keys-sorted}
use mathlib.Core.Path.{◌≡◌, sym}
use Prim.Native.Nat.{min}
use native.Mathlib.Omega.{arith}
use lib.ListN.{length}
use Rattle.cluster_nearest.proofs.sort_keys.Goals as goal

pub slice_bounds-sort_front-end-2 : goal.slice_bounds-sort_front-end-2
slice_bounds-sort_front-end-2 c = sym (length-take-le c.min-n.result c.write_keys.new.keys (omega (arith, c.min-n.ensures)))

pub returns : goal.returns
returns c =
    let a = c.args in let w = c.write_keys in
    let count = paired-count a.components.now a.values.now in
    let e : c.min-n.result ≡ min (length (paired a.components.now a.values.now)) (length a.keys.now) = omega (arith, c.min-n.ensures, c.term_count-terms.ensures, w.auto.keys) in record {
      answer = e;
      keys = keys-sorted (paired a.components.now a.values.now)
          (held-paired a.components.now a.values.now (λ k. (c.shared_slice_known-1.given k).fits)
          (λ k. c.shared_slice_known-2-1.given k)) a.cut a.keys.now w.new.keys c.sort_front.new.keys c.min-n.result e
          w.ensures c.sort_front.ensures.front c.sort_front.ensures.keys;
    }
