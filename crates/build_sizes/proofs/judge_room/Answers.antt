-- `judge_room` gives the sizes, or 4.
use Rattle.build_sizes.proofs.Laws.{room-refused, room-found}
use Rattle.build_sizes.proofs.judge_room.Goals as goal

pub returns-then-not-list-terms : goal.returns-then-not-list-terms
returns-then-not-list-terms c =
    let a = c.args in room-refused a.postings a.offsets _ _ _ a.entry_counts.now a.lent c.sizes_of-sizes.ensures.summary_components c.sizes_of-sizes.ensures.entries c.saturating_sub-summaries.ensures c.if-not-list-terms.true-raw

pub returns : goal.returns
returns c =
    let a = c.args in room-found a.postings a.offsets _ _ _ a.entry_counts.now a.lent c.sizes_of-sizes.ensures.summary_components c.sizes_of-sizes.ensures.entries c.saturating_sub-summaries.ensures c.if-not-list-terms.false-raw
