-- `search_postings::pairs::evaluate_known`: the visit byte picks the case.
use mathlib.Core.Path.{refl, ◌∙◌}
use Rattle.kept_list.specs.Lent.{lent}
use Rattle.search_postings.specs.declared.RangeReading.TheVariants.{Score}
use Rattle.search_postings.specs.Postings.{lends}
use Rattle.search_postings.proofs.Steps.{eval-passed, eval-found, visited-by, found-by}
use Rattle.search_postings.proofs.pairs.evaluate_known.Goals as goal

pub returns-then-is_visited : goal.returns-then-is_visited
returns-then-is_visited c =
    let a = c.args in
    eval-passed a.k (λ _. Score a.score) a.posting.0 0 a.counts (lends (lent a.length.now a.packed.now a.scores.now) a.visits.now)
    (visited-by a.posting.0 c.unpack.result c.unpack.ensures a.visits.now c.is_visited.result c.is_visited.ensures ∙
    c.if-is_visited.true)

pub returns : goal.returns
returns c =
    let a = c.args in
    let l = lends (lent a.length.now a.packed.now a.scores.now) a.visits.now in
    eval-found a.k (λ _. Score a.score) a.posting.0 0 a.counts l
    (visited-by a.posting.0 c.unpack.result c.unpack.ensures a.visits.now c.is_visited.result c.is_visited.ensures ∙
    c.if-is_visited.false) a.score refl c.one_more.result c.one_more.ensures _
    (found-by a.posting.0 c.unpack.result c.unpack.ensures a.k a.score l _ _ c.keep_found.ensures.kept c.keep_found.ensures.visits)
