-- `clustering::group_some` meets its contract.
use Prim.Native.Nat.{ℕ, ◌+◌, ◌*◌, ◌≤◌, ◌<◌}
use lib.Seq.{length-take-le}
use lib.ListN.{length, take}
use Rattle.counting_sort.specs.Counting.{grouped}
use Rattle.clustering.specs.Laws.Clustered.{grouped-none, grouped-some, groups-few}
use mathlib.Core.Path.{◌≡◌, sym}
use native.Mathlib.Omega.{arith}
use Rattle.clustering.proofs.group_some.Goals as goal

-- a count of no more than a slice's entries has room for one more
under : (n m k : ℕ) → n ≤ m → m ≡ k → k * 8 < 9223372036854775808 → n + 1 < 18446744073709551616
under n m k h e r = omega arith

pub returns-then-n-eq0 : goal.returns-then-n-eq0
returns-then-n-eq0 c =
    let a = c.args in
    grouped-none a.n a.taken.now a.sorted.now a.counts.now a.order.now a.blocks.now c.if-n-eq0.true

pub slice_bounds-group-end : goal.slice_bounds-group-end
slice_bounds-group-end c = sym (length-take-le c.args.n c.args.taken.now c.requires.1)

pub slice_bounds-group-end-2 : goal.slice_bounds-group-end-2
slice_bounds-group-end-2 c = sym (length-take-le c.args.n c.args.sorted.now c.requires.0)

pub overflow_add-result : goal.overflow_add-result
overflow_add-result c =
    let a = c.args in let g = c.group-count in
    record {
      fits = under g.result (length g.new.key_ends) (length a.counts.now)
          (groups-few (take a.n a.taken.now) (take a.n a.sorted.now) (length a.counts.now) (length a.order.now) a.blocks.now (grouped g.result g.new.key_ends g.new.order g.new.blocks) g.ensures)
          g.auto.key_ends c.well_formed.1.1.1.0.1;
    }

pub shape_of-counts : goal.shape_of-counts
shape_of-counts c = c.group-count.auto.key_ends

pub shape_of-order : goal.shape_of-order
shape_of-order c = c.group-count.auto.order

pub shape_of-blocks : goal.shape_of-blocks
shape_of-blocks c = c.group-count.auto.blocks

pub returns : goal.returns
returns c =
    let a = c.args in let g = c.group-count in
    grouped-some a.n a.taken.now a.sorted.now a.counts.now a.order.now a.blocks.now (grouped g.result g.new.key_ends g.new.order g.new.blocks) c.if-n-eq0.false c.requires.0 g.ensures
