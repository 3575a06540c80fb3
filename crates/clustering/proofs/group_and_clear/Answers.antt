-- `clustering::group_and_clear` meets its contract.
use Rattle.counting_sort.specs.Counting.{Grouped}
use mathlib.Core.Path.{ap, ◌∙◌}
use lib.ListN.{replicate}
use Rattle.clustering.proofs.group_and_clear.Goals as goal

pub group_some-count-requires : goal.group_some-count-requires
group_some-count-requires c =
    c.requires

pub shape_of-sorted : goal.shape_of-sorted
shape_of-sorted c =
    c.clear.auto.numbers

pub shape_of-taken : goal.shape_of-taken
shape_of-taken c =
    c.clear-2.auto.numbers

pub shape_of-counts : goal.shape_of-counts
shape_of-counts c =
    c.clear-3.auto.numbers ∙ c.group_some-count.auto.counts

pub shape_of-order : goal.shape_of-order
shape_of-order c =
    c.group_some-count.auto.order

pub shape_of-blocks : goal.shape_of-blocks
shape_of-blocks c =
    c.group_some-count.auto.blocks

pub returns : goal.returns
returns c =
    let g = c.group_some-count in
    let answer = ap (λ (x : Grouped). x.count) g.ensures in
    let order = ap (λ (x : Grouped). x.order) g.ensures in
    let blocks = ap (λ (x : Grouped). x.blocks) g.ensures in
    let counts = c.clear-3.ensures ∙ ap (λ n. replicate n 0) g.auto.counts in
    record {
      answer = answer;
      order = order;
      blocks = blocks;
      sorted = c.clear.ensures;
      taken = c.clear-2.ensures;
      counts = counts;
    }
