-- `sparse_scores::distances` meets its contract. The walk of the terms left, from the scores so far, is the walk of all; and the walk gives
-- the definition's scores.
use mathlib.Core.Path.{◌≡◌}
use lib.ListN.{length}
use Rattle.std.specs.Iterator.Adapters.{zip_first, zip_second}
use Rattle.std.specs.Slice.Iter.{iter_rest}
use Rattle.documents.specs.Documents.{paired}
use Rattle.sparse_scores.specs.Lent.{layout_lent}
use Rattle.documents.specs.Lent.{terms_lent}
use Rattle.sparse_scores.specs.Layout.{place_of}
use Rattle.sparse_scores.specs.Laws.Walk.{walked}
use Rattle.sparse_scores.proofs.distances.Given as goal

abbrev pub invariant-loop-c : goal.invariant-loop-c
invariant-loop-c l =
    (length l.block_scores ≡ length l.initial.block_scores) × (l.place ≡ place_of l.last l.summaries.summary_components.now)
    × (walked l.n (layout_lent l.summaries) (paired (iter_rest (zip_first l.c-iterator)) (iter_rest (zip_second l.c-iterator))) l.block_scores ≡ walked l.n (layout_lent l.summaries) (terms_lent l.query) l.initial.block_scores)
