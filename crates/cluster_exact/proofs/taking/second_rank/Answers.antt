-- `cluster_exact::taking::second_rank` meets its contract.
use mathlib.Core.Bool.{true, false, cond}
use Rattle.cluster_nearest.specs.Scored.{scores_of}
use Rattle.cluster_nearest.specs.Nearest.{first_above}
use Rattle.sort.specs.Ranked.{rank_in}
use Rattle.cluster_passes.specs.Ranked.{took_itself}
use Rattle.documents.specs.Documents.{terms}
use Rattle.cluster_index.specs.Lent.{entries_lent}
use Rattle.documents.specs.Lent.{lent}
use mathlib.Core.Path.{◌≡◌, sym, ap, ◌∙◌}
use lib.ListN.{length}
use Rattle.cluster_exact.proofs.taking.second_rank.Goals as goal

pub returns-then-took_itself : goal.returns-then-took_itself
returns-then-took_itself c =
    let a = c.args in
    let e : took_itself a.known.now a.counts.now a.minimum a.document.0 a.own.0 ≡ true = sym c.took_itself.ensures ∙ c.if-took_itself.true in
    c.rank.ensures
    ∙ ap (rank_in a.known.now) (c.nearest_to-c.ensures.answer ∙ ap (first_above a.centroids.now) c.nearest_to-c.ensures.sums)
    ∙ sym (ap (λ b. cond b (rank_in a.known.now (first_above a.centroids.now
    (scores_of (entries_lent a.index) (length a.sums.now)
    (terms (lent a.documents) a.document.0)))) a.own.0) e)

pub returns : goal.returns
returns c =
    let a = c.args in
    let e : took_itself a.known.now a.counts.now a.minimum a.document.0 a.own.0 ≡ false = sym c.took_itself.ensures ∙ c.if-took_itself.false in
    sym (ap (λ b. cond b (rank_in a.known.now (first_above a.centroids.now
    (scores_of (entries_lent a.index) (length a.sums.now)
    (terms (lent a.documents) a.document.0)))) a.own.0) e)
