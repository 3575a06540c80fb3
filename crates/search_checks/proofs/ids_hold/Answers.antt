-- `search_checks::ids_hold` meets its contract. Its parts are counted.
use Rattle.search_checks.proofs.Parts.{counts}
use Rattle.search_checks.proofs.ids_hold.Goals as goal

pub returns : goal.returns
returns c = let a = c.args in counts a.summaries a.component_offsets.now a.summary_ids.now _ _ _ c.all_below.ensures c.count_falls.ensures c.count_seams.ensures
