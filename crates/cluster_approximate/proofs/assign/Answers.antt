-- `cluster_approximate::assign` meets its contract.
use lib.Seq.{length-take-le}
use Rattle.documents.specs.Lent.{lent}
use Rattle.cluster_passes.specs.Laws.Passes.{cut_fits}
use Rattle.cluster_approximate.specs.Laws.Approximate.{assigned-first, assigned-both}
use mathlib.Core.Path.{sym, ap, ◌∙◌}
use mathlib.Core.Bool.{false}
use native.Mathlib.Omega.{arith}
use lib.IntN.{pos}
use lib.Ieee.{fin}
use lib.ListN.{length, take, replicate}
use Rattle.cluster_approximate.proofs.assign.Goals as goal

pub slice_bounds-all-end : goal.slice_bounds-all-end
slice_bounds-all-end c =
    sym (length-take-le c.min-m.result c.args.centroids.now (omega (arith, c.min-m.ensures)))

pub slice_bounds-count-end : goal.slice_bounds-count-end
slice_bounds-count-end c = omega (arith, c.min-n.ensures)

pub slice_bounds-count-end-2 : goal.slice_bounds-count-end-2
slice_bounds-count-end-2 c =
    sym (length-take-le c.min-n.result c.first_pass.new.taken (omega (arith, c.min-n.ensures)))

pub assign_again-requires : goal.assign_again-requires
assign_again-requires c =
    let a = c.args in cut_fits a.centroids.now a.competing.now c.min-m.result c.min-m.ensures

pub shape_of-competing : goal.shape_of-competing
shape_of-competing c =
    c.assign_again.auto.competing

pub shape_of-counts : goal.shape_of-counts
shape_of-counts c =
    c.assign_again.auto.counts ∙ c.count.auto.counts ∙ c.clear.auto.numbers

pub shape_of-starts : goal.shape_of-starts
shape_of-starts c =
    c.assign_again.auto.starts ∙ c.fill.auto.starts

pub shape_of-slots : goal.shape_of-slots
shape_of-slots c =
    c.assign_again.auto.slots ∙ c.fill.auto.slots

pub shape_of-weights : goal.shape_of-weights
shape_of-weights c =
    c.assign_again.auto.weights ∙ c.fill.auto.weights

pub shape_of-sums : goal.shape_of-sums
shape_of-sums c =
    c.assign_again.auto.sums ∙ c.first_pass.auto.sums

pub shape_of-keys : goal.shape_of-keys
shape_of-keys c =
    c.assign_again.auto.keys ∙ c.first_pass.auto.keys

pub shape_of-taken : goal.shape_of-taken
shape_of-taken c =
    c.assign_again.auto.taken ∙ c.first_pass.auto.taken

pub returns : goal.returns
returns c =
    let a = c.args in
    let m = c.min-m in
    let f = c.fill in
    let o = c.first_of-first in
    let p = c.first_pass in
    let z = c.clear in
    let n = c.min-n in
    let k = c.count in
    let g = c.assign_again in
    let x = assigned-first (lent a.documents) a.cut (take m.result a.centroids.now) a.known.now
    (length a.starts.now) (length a.slots.now) (length a.weights.now) (length a.sums.now) (length a.counts.now) (length a.keys.now) a.ids.now
    a.taken.now
    f.new.starts f.new.slots f.new.weights o.result.0 p.new.taken z.new.numbers
    k.new.counts n.result f.ensures p.ensures.taken o.ensures z.ensures n.ensures p.auto.taken k.ensures in
    let taken = assigned-both (lent a.documents) a.cut a.minimum a.centroids.now a.known.now a.competing.now
    (length a.starts.now) (length a.slots.now) (length a.weights.now) (length a.sums.now) (length a.counts.now) (length a.keys.now) a.ids.now
    a.taken.now
    p.new.taken k.new.counts g.new.taken (length f.new.starts)
    (length f.new.slots) (length f.new.weights) (length p.new.sums)
    (length p.new.keys) m.result m.ensures x.0 x.1 p.auto.taken
    f.auto.starts f.auto.slots f.auto.weights p.auto.sums p.auto.keys g.ensures.taken in
    let counts = g.ensures.counts ∙ ap (λ n. replicate n 0) (k.auto.counts ∙ z.auto.numbers) in
    let starts = g.ensures.starts ∙ ap (λ n. replicate n 0) f.auto.starts in
    let slots = g.ensures.slots ∙ ap (λ n. replicate n 0) f.auto.slots in
    let weights = g.ensures.weights ∙ ap (λ n. replicate n (fin false 0 (pos 0))) f.auto.weights in
    let sums = g.ensures.sums ∙ ap (λ n. replicate n (fin false 0 (pos 0))) p.auto.sums in
    let keys = g.ensures.keys ∙ ap (λ n. replicate n 0) p.auto.keys in
    record {
      taken = taken;
      competing = g.ensures.competing;
      counts = counts;
      starts = starts;
      slots = slots;
      weights = weights;
      sums = sums;
      keys = keys;
    }
