-- `cluster_slots::nearest_within` meets its contract.
use mathlib.Core.List.{map}
use Rattle.cluster_index.specs.Lent.{entries_lent}
use Rattle.documents.specs.TermKeys.{term_of}
use Rattle.cluster_slots.specs.Laws.Choice.{by_all, by-met}
use Rattle.cluster_slots.proofs.nearest_within.Goals as goal

pub returns-then-meets_many : goal.returns-then-meets_many
returns-then-meets_many c =
    let all = (let a = c.args in
    let k = c.add_keys in
    let m = c.meets_many in
    let l = c.last_greatest-c in
    let f = c.clear in
    by_all a.otherwise.0 a.competing.now (entries_lent a.index) a.sums.now k.new.sums f.new.numbers
    (map term_of a.keys.now) k.ensures m.result m.ensures l.result.0 c.if-meets_many.true l.ensures f.ensures
    ) in
    record {
      answer = all.0;
      sums = all.1;
    }

pub returns : goal.returns
returns c =
    let all = (let a = c.args in
    let k = c.add_keys in
    let m = c.meets_many in
    let l = c.choose-c in
    let f = c.clear_met in
    by-met a.otherwise.0 a.competing.now (entries_lent a.index) a.sums.now k.new.sums f.new.sums
    (map term_of a.keys.now) k.ensures m.result m.ensures l.result.0 c.if-meets_many.false l.ensures f.ensures
    ) in
    record {
      answer = all.0;
      sums = all.1;
    }
