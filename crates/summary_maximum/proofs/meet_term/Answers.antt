-- A component from the limit on changes nothing; another is raised, added, or finds no place.
use Rattle.summary_maximum.proofs.Loops.{meets-raised, meets-added, meets-full, met-below, passed_over}
use Rattle.summary_maximum.specs.Meeting.{met}
use Rattle.summary_maximum.proofs.meet_term.Goals as goal

pub returns-then-limit-c : goal.returns-then-limit-c
returns-then-limit-c c =
    let a = c.args in passed_over a.limit (met a.count a.keys.now a.places.now a.maxima.now) a.component a.value c.if-limit-c.true

pub returns-then-stands_at : goal.returns-then-stands_at
returns-then-stands_at c =
    let a = c.args in met-below a.limit (met a.count a.keys.now a.places.now a.maxima.now) _ a.component a.value c.if-limit-c.false (meets-raised a.count a.keys.now a.places.now a.maxima.now a.component a.value c.at-place.result
    c.stands_at.result c.at-place.ensures c.stands_at.ensures _ c.if-stands_at.true c.raise.ensures)

pub returns-then-count-keys : goal.returns-then-count-keys
returns-then-count-keys c =
    let a = c.args in met-below a.limit (met a.count a.keys.now a.places.now a.maxima.now) _ a.component a.value c.if-limit-c.false (meets-added a.count a.keys.now a.places.now a.maxima.now a.component a.value
    c.at-place.result c.stands_at.result c.at-place.ensures c.stands_at.ensures _ _ c.if-stands_at.false c.if-count-keys.true c.put.ensures c.put-then-count-keys.ensures)

pub returns : goal.returns
returns c =
    let a = c.args in met-below a.limit (met a.count a.keys.now a.places.now a.maxima.now) _ a.component a.value c.if-limit-c.false (meets-full a.count a.keys.now a.places.now a.maxima.now a.component a.value c.at-place.result c.stands_at.result c.at-place.ensures
    c.stands_at.ensures c.if-stands_at.false c.if-count-keys.false)
