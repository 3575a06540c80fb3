-- `search_page::read_two`: both sums where both pages are read by the table, else neither.
use Rattle.search_page.proofs.Laws.{first-even, second-even, reads_two, reads-apart}
use Rattle.search_page.proofs.read_two.Goals as goal

pub laid_two-requires : goal.laid_two-requires
laid_two-requires c =
    let a = c.args in
    let one = c.slices_hold_below-one in
    let two = c.slices_hold_below-two in record {
      components_len = first-even a.table.now a.components.now a.values.now a.others.now a.other_values.now one.result two.result one.ensures two.ensures c.if-one-two.true;
      others_len = second-even a.table.now a.components.now a.values.now a.others.now a.other_values.now one.result two.result one.ensures two.ensures c.if-one-two.true;
    }

pub returns-then-one-two : goal.returns-then-one-two
returns-then-one-two c =
    let a = c.args in
    let one = c.slices_hold_below-one in
    let two = c.slices_hold_below-two in
    reads_two a.table.now a.components.now a.values.now a.others.now a.other_values.now one.result two.result one.ensures two.ensures c.if-one-two.true
    c.laid_two.result c.laid_two.ensures.one c.laid_two.ensures.two

pub returns : goal.returns
returns c =
    let a = c.args in
    let one = c.slices_hold_below-one in
    let two = c.slices_hold_below-two in
    reads-apart a.table.now a.components.now a.values.now a.others.now a.other_values.now one.result two.result one.ensures two.ensures c.if-one-two.false
