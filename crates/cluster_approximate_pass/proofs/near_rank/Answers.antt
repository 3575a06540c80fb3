-- `cluster_approximate_pass::near_rank` meets its contract.
use Rattle.documents.specs.Documents.{terms, largest}
use Rattle.cluster_index.specs.Lent.{entries_lent}
use Rattle.documents.specs.Lent.{lent}
use Rattle.documents.specs.TermKeys.{term_of}
use Rattle.sort.specs.Ranked.{rank_in}
use Rattle.cluster_slots.specs.Laws.Zeros.{from-zeros}
use mathlib.Core.Path.{sym, ap, ◌∙◌}
use mathlib.Core.List.{map}
use native.Mathlib.Omega.{arith}
use lib.ListN.{length, take}
use lib.Seq.{length-take-le}
use Rattle.cluster_approximate_pass.proofs.near_rank.Goals as goal

pub slice_bounds-nearest_by_keys-end : goal.slice_bounds-nearest_by_keys-end
slice_bounds-nearest_by_keys-end c = omega (arith, c.largest_keys-m.ensures.answer, c.largest_keys-m.auto.keys)

pub slice_bounds-nearest_by_keys-end-2 : goal.slice_bounds-nearest_by_keys-end-2
slice_bounds-nearest_by_keys-end-2 c = let k = c.largest_keys-m in sym (length-take-le k.result k.new.keys (omega (arith, c.largest_keys-m.ensures.answer, c.largest_keys-m.auto.keys)))

pub shape_of-sums : goal.shape_of-sums
shape_of-sums c = c.nearest_by_keys-c.auto.sums

pub shape_of-keys : goal.shape_of-keys
shape_of-keys c =
    c.largest_keys-m.auto.keys

pub returns : goal.returns
returns c =
    let a = c.args in let k = c.largest_keys-m in let n = c.nearest_by_keys-c in
    let x = from-zeros (entries_lent a.index) a.sums.now n.new.sums (map term_of (take k.result k.new.keys))
    (largest a.cut (take (length a.keys.now) (terms (lent a.documents) a.document.0))) a.first.0 a.competing.now n.result.0 c.requires k.ensures.terms (n.ensures.answer, n.ensures.sums) in
    record {
      answer = c.rank.ensures ∙ ap (rank_in a.known.now) x.0;
      sums = x.1;
    }
