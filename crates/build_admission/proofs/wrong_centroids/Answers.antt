-- Each answer is that of the tests that led to it.
use mathlib.Core.Path.{sym, ◌∙◌}
use Rattle.build_admission.proofs.Laws.{none-asked, too_many, count-asked, list-asked}
use Rattle.build_admission.proofs.wrong_centroids.Goals as goal

pub returns-then-ids-eq0 : goal.returns-then-ids-eq0
returns-then-ids-eq0 c = none-asked _ _ _ c.if-ids-eq0.true

pub returns-then-too_many_centroids : goal.returns-then-too_many_centroids
returns-then-too_many_centroids c = too_many _ _ _ _ c.if-ids-eq0.false c.centroid_count-count.ensures (sym c.too_many_centroids.ensures ∙ c.if-too_many_centroids.true)

pub returns-then-count-ids : goal.returns-then-count-ids
returns-then-count-ids c =
    count-asked _ _ _ _ c.if-ids-eq0.false c.centroid_count-count.ensures (sym c.too_many_centroids.ensures ∙ c.if-too_many_centroids.false) c.if-count-ids.true

pub returns-else-count-ids : goal.returns-else-count-ids
returns-else-count-ids c =
    list-asked _ _ _ _ c.if-ids-eq0.false c.centroid_count-count.ensures (sym c.too_many_centroids.ensures ∙ c.if-too_many_centroids.false) c.if-count-ids.false
