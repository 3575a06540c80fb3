-- `cluster_exact::assign` meets its contract.
use lib.Seq.{length-take-le}
use Rattle.documents.specs.Lent.{lent}
use Rattle.cluster_passes.specs.Laws.Passes.{cut_fits}
use Rattle.cluster_exact.specs.Exact.{exact_ranks}
use Rattle.cluster_exact.specs.Laws.Exact.{assigned-cut}
use Prim.Native.Nat.{ℕ, ◌≤◌, min}
use mathlib.Core.Path.{◌≡◌, sym, ap, ◌∙◌}
use mathlib.Core.Bool.{false}
use mathlib.Core.List.{List, ◌++◌}
use native.Mathlib.Omega.{arith}
use lib.IntN.{pos}
use lib.Ieee.{fin}
use lib.ListN.{length, take, drop, replicate, length-append, length-drop}
use Rattle.cluster_exact.proofs.assign.Goals as goal

-- a slice whose front was lent keeps its length
front_length : {A : Type 0} (S F : List A) (m : ℕ) → m ≤ length S → length F ≡ length (take m S) → length (F ++ drop m S) ≡ length S
front_length S F m h e =
    let a = length-append F (drop m S) in
    let b = length-take-le m S h in
    let c = length-drop m S in
    omega (arith, a, b, c, e)

pub slice_bounds-assign_both-end : goal.slice_bounds-assign_both-end
slice_bounds-assign_both-end c =
    sym (length-take-le c.min-n.result c.args.ids.now (omega (arith, c.min-n.ensures)))

pub slice_bounds-assign_both-end-2 : goal.slice_bounds-assign_both-end-2
slice_bounds-assign_both-end-2 c = omega (arith, c.min-m.ensures)

pub slice_bounds-assign_both-end-3 : goal.slice_bounds-assign_both-end-3
slice_bounds-assign_both-end-3 c =
    sym (length-take-le c.min-m.result c.args.sums.now (omega (arith, c.min-m.ensures)))

pub assign_both-requires : goal.assign_both-requires
assign_both-requires c =
    cut_fits c.args.ids.now c.args.taken.now c.min-n.result c.min-n.ensures

pub shape_of-counts : goal.shape_of-counts
shape_of-counts c =
    c.clear.auto.counts ∙ c.assign_both.auto.counts

pub shape_of-starts : goal.shape_of-starts
shape_of-starts c =
    c.clear.auto.starts ∙ c.assign_both.auto.starts

pub shape_of-slots : goal.shape_of-slots
shape_of-slots c =
    c.clear.auto.slots ∙ c.assign_both.auto.slots

pub shape_of-weights : goal.shape_of-weights
shape_of-weights c =
    c.clear.auto.weights ∙ c.assign_both.auto.weights

pub shape_of-sums : goal.shape_of-sums
shape_of-sums c =
    c.clear.auto.sums ∙ front_length c.args.sums.now c.assign_both.new.sums
    c.min-m.result (omega (arith, c.min-m.ensures)) c.assign_both.auto.sums

pub shape_of-taken : goal.shape_of-taken
shape_of-taken c =
    c.assign_both.auto.taken

pub returns : goal.returns
returns c =
    let a = c.args in
    let f = c.assign_both in
    let g = c.clear in
    let m = c.min-m in
    let n = c.min-n in
    let d = lent a.documents in
    let l : length (take m.result a.sums.now) ≡ min (length a.centroids.now) (length a.sums.now) = length-take-le m.result a.sums.now (omega (arith, m.ensures)) ∙ m.ensures in
    let taken = assigned-cut d a.minimum a.centroids.now a.known.now (length a.starts.now) (length a.slots.now) (length a.weights.now)
    (min (length a.centroids.now) (length a.sums.now)) (length a.counts.now) a.ids.now a.taken.now n.result
    f.new.taken n.ensures
    (f.ensures ∙ ap (λ w. exact_ranks d a.minimum a.centroids.now a.known.now (length a.starts.now) (length a.slots.now) (length a.weights.now) w
    (length a.counts.now) (take n.result a.ids.now) ++ drop (length (take n.result a.ids.now)) a.taken.now) l) in
    let counts = g.ensures.counts ∙ ap (λ n. replicate n 0) f.auto.counts in
    let starts = g.ensures.starts ∙ ap (λ n. replicate n 0) f.auto.starts in
    let slots = g.ensures.slots ∙ ap (λ n. replicate n 0) f.auto.slots in
    let weights = g.ensures.weights ∙ ap (λ n. replicate n (fin false 0 (pos 0))) f.auto.weights in
    let sums = g.ensures.sums ∙ ap (λ n. replicate n (fin false 0 (pos 0))) (front_length a.sums.now f.new.sums m.result (omega (arith, m.ensures)) f.auto.sums) in
    record {
      taken = taken;
      counts = counts;
      starts = starts;
      slots = slots;
      weights = weights;
      sums = sums;
    }
