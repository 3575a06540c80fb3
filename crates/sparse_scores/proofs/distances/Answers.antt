-- `sparse_scores::distances` meets its contract. The walk of the terms left, from the scores so far, is the walk of all; and the walk gives
-- the definition's scores.
use mathlib.Core.Path.{refl, ◌∙◌, sym}
use Rattle.sparse_scores.specs.Lent.{layout_lent}
use borrow.Author.Rules.{rules}
use Rattle.std.proofs.lemmas.Slice.Zip.{Zip-more, either_empty_from_Zip}
use Rattle.sparse_scores.proofs.Walks.{first-place, query-turn, query-end, all-scored}
use Rattle.sparse_scores.proofs.distances.Goals as goal

pub loop-c-init : goal.loop-c-init
loop-c-init c = (refl, first-place c.args.summaries.summary_components.now, search rules)

pub loop-c-preserved : goal.loop-c-preserved
loop-c-preserved c =
    let a = c.args in
    let l = c.loop-c in
    let pair = Zip-more l.c-iterator c.next.new.self _ (c.in-Some.c, c.in-Some.value) c.in-Some.is c.next.ensures.steps in (
      search rules,
      c.next_place-place.ensures,
      query-turn c.min-n.result (layout_lent a.summaries)
          a.summaries.summary_components.now c.in-Some.c.now c.in-Some.value.now _ _ _ _ c.next_place-place.result l.block_scores _ pair.0 pair.1 refl
          c.next_place-place.ensures c.add_term.ensures ∙ l.invariant.2,
    )

pub next_place-place-requires : goal.next_place-place-requires
next_place-place-requires c = c.loop-c.invariant.1

pub returns : goal.returns
returns c =
    let a = c.args in
    let l = c.loop-c in
    let all = layout_lent a.summaries in
    all-scored a.query.components.now a.query.values.now all c.min-n.result c.min.result a.block_scores.now c.clear.new.block_scores
    l.block_scores c.min.ensures c.min-n.ensures c.clear.ensures
    (sym (query-end c.min-n.result all _ _ l.block_scores (either_empty_from_Zip _ c.next.new.self _ c.in-None.is c.next.ensures.steps)) ∙ l.invariant.2)
