-- `cluster_exact::taking::first_rank` meets its contract.
use mathlib.Core.Bool.{true, false, cond}
use Rattle.cluster_nearest.specs.Scored.{scores_of}
use Rattle.cluster_nearest.specs.Nearest.{first_above}
use Rattle.sort.specs.Ranked.{rank_in}
use Rattle.cluster_passes.specs.Ranked.{listed_at}
use Rattle.documents.specs.Documents.{terms}
use Rattle.cluster_index.specs.Lent.{entries_lent}
use Rattle.documents.specs.Lent.{lent}
use mathlib.Core.Path.{◌≡◌, sym, ap, ◌∙◌}
use lib.ListN.{length}
use Rattle.cluster_exact.proofs.taking.first_rank.Goals as goal

pub returns-then-is_listed : goal.returns-then-is_listed
returns-then-is_listed c =
    let a = c.args in
    let e : listed_at a.known.now a.document.0 (rank_in a.known.now a.document.0) ≡ true = ap (listed_at a.known.now a.document.0)
    (sym c.rank-own.ensures) ∙ sym c.is_listed.ensures ∙ c.if-is_listed.true in
    c.rank-own.ensures ∙ ap (rank_in a.known.now)
    (sym (ap (λ b. cond b a.document.0 (first_above a.centroids.now
    (scores_of (entries_lent a.index) (length a.sums.now)
    (terms (lent a.documents) a.document.0)))) e))

pub returns : goal.returns
returns c =
    let a = c.args in
    let e : listed_at a.known.now a.document.0 (rank_in a.known.now a.document.0) ≡ false = ap (listed_at a.known.now a.document.0)
    (sym c.rank-own.ensures) ∙ sym c.is_listed.ensures ∙ c.if-is_listed.false in
    c.rank.ensures
    ∙ ap (rank_in a.known.now)
    (c.nearest_to-c.ensures.answer ∙ ap (first_above a.centroids.now) c.nearest_to-c.ensures.sums
    ∙ sym (ap (λ b. cond b a.document.0 (first_above a.centroids.now
    (scores_of (entries_lent a.index) (length a.sums.now)
    (terms (lent a.documents) a.document.0)))) e))
