-- `search::admit`: the tests' results in the order of the refusals.
use lib.Ieee.{nan}
use Rattle.sparse_scores.specs.Lent.{layout_lent}
use Rattle.search_probe.specs.Lent.{lent_terms}
use Rattle.kept_list.specs.Lent.{lent}
use Rattle.search_probe.specs.Probed.{lends}
use Rattle.search.specs.Searched.{question}
use Rattle.search.proofs.Tops.{admitted-by}
use Rattle.search.proofs.admit.Goals as goal

pub returns : goal.returns
returns c =
    let a = c.args in
    admitted-by (question a.k nan (lent_terms a.query a.terms) a.postings.now a.block_offsets.now
    (layout_lent a.summaries))
    (lends (lent a.length a.packed.now a.scores.now) a.visits.now) a.room _ _ _ _ _ c.slices_hold-query_holds.ensures
    c.is_well_formed-list.ensures c.is_well_kept-kept.ensures c.has_room-roomy.ensures c.judge.ensures
