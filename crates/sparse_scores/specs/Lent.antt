-- The summaries of a list, as slices lend them.
use Rattle.sparse_scores.specs.declared.summaries.Summaries.{Summaries}
use Rattle.sparse_scores.specs.Layout.{Layout, arrays}

abbrev pub layout_lent : Summaries → Layout
layout_lent s = arrays s.summary_components.now s.component_offsets.now s.summary_ids.now s.codes.now s.minimums.now s.steps.now
