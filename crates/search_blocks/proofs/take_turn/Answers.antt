-- `search_blocks::take_turn`: the skip test picks the case.
use mathlib.Core.Bool.{true, false}
use Rattle.search_postings.specs.Lent.{through_lent}
use Rattle.kept_list.specs.Lent.{lent}
use Rattle.search_postings.specs.Postings.{lends}
use Rattle.search_blocks.proofs.Steps.{skips-by, turn-skips, turn-probes}
use Rattle.search_blocks.proofs.take_turn.Goals as goal

pub returns-then-skips : goal.returns-then-skips
returns-then-skips c =
    let a = c.args in
    turn-skips a.k a.factor (through_lent a.laid.table.now a.laid.sieve.now a.laid.query a.terms) a.postings.now
    a.block a.counts (lends (lent a.length.now a.packed.now a.scores.now) a.visits.now)
    (skips-by a.k a.factor a.block.score a.length.now a.scores.now a.worst c.skips.result true c.requires c.skips.ensures
    c.if-skips.true) c.one_more.result c.one_more.ensures

pub returns : goal.returns
returns c =
    let a = c.args in
    turn-probes a.k a.factor (through_lent a.laid.table.now a.laid.sieve.now a.laid.query a.terms) a.postings.now
    a.block a.counts (lends (lent a.length.now a.packed.now a.scores.now) a.visits.now) _
    (skips-by a.k a.factor a.block.score a.length.now a.scores.now a.worst c.skips.result false c.requires c.skips.ensures
    c.if-skips.false) c.probe_postings.ensures
