-- The two parts of the slices are a document's terms.
use mathlib.Core.Path.{sym, ap, ◌∙◌}
use mathlib.Core.List.{foldl}
use Rattle.documents.specs.Lent.{lent}
use Rattle.summary_maximum.specs.Meeting.{met, meets_below}
use Rattle.summary_maximum.proofs.Loops.{part-terms}
use Rattle.summary_maximum.proofs.meet_document.Goals as goal

pub returns : goal.returns
returns c =
    let a = c.args in
    c.meet.ensures
    ∙ ap (foldl (meets_below a.limit) (met a.count a.keys.now a.places.now a.maxima.now))
    (sym (part-terms (lent a.documents) c.term_count-n.result a.id.0 c.places-range.result c.places-range.ensures c.term_count-n.ensures))
