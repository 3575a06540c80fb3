-- The two parts of the slices are a document's terms.
use mathlib.Core.Path.{◌∙◌}
use Rattle.documents.specs.Lent.{lent}
use Rattle.documents.specs.Laws.Places.{places-ordered, places-in}
use Rattle.document_checks.proofs.Listed.{holds_at}
use borrow.Author.Rules.{rules}
use Rattle.document_checks.proofs.document_holds.Goals as goal

pub offset_bounds-documents-at : goal.offset_bounds-documents-at
offset_bounds-documents-at c =
    let a = c.args in
    let p = c.places-at in
    let o = places-ordered (lent a.documents) c.term_count-count.result a.id.0 p.result p.ensures in
    let w = places-in (lent a.documents) c.term_count-count.result a.id.0 p.result p.ensures in
    search rules

pub slice_bounds-slices_hold_below-count : goal.slice_bounds-slices_hold_below-count
slice_bounds-slices_hold_below-count c =
    let a = c.args in
    let p = c.places-at in
    let o = places-ordered (lent a.documents) c.term_count-count.result a.id.0 p.result p.ensures in
    let w = places-in (lent a.documents) c.term_count-count.result a.id.0 p.result p.ensures in
    search rules

pub slice_bounds-slices_hold_below-start : goal.slice_bounds-slices_hold_below-start
slice_bounds-slices_hold_below-start c =
    let a = c.args in
    let p = c.places-at in
    let o = places-ordered (lent a.documents) c.term_count-count.result a.id.0 p.result p.ensures in
    let w = places-in (lent a.documents) c.term_count-count.result a.id.0 p.result p.ensures in
    search rules

pub slice_bounds-slices_hold_below-end : goal.slice_bounds-slices_hold_below-end
slice_bounds-slices_hold_below-end c =
    let a = c.args in
    let p = c.places-at in
    let o = places-ordered (lent a.documents) c.term_count-count.result a.id.0 p.result p.ensures in
    let w = places-in (lent a.documents) c.term_count-count.result a.id.0 p.result p.ensures in
    search rules

pub offset_bounds-documents-at-2 : goal.offset_bounds-documents-at-2
offset_bounds-documents-at-2 c =
    let a = c.args in
    let p = c.places-at in let o = places-ordered (lent a.documents) c.term_count-count.result a.id.0 p.result p.ensures in let w = places-in (lent a.documents) c.term_count-count.result a.id.0 p.result p.ensures in search rules

pub slice_bounds-slices_hold_below-count-2 : goal.slice_bounds-slices_hold_below-count-2
slice_bounds-slices_hold_below-count-2 c =
    let a = c.args in
    let p = c.places-at in let o = places-ordered (lent a.documents) c.term_count-count.result a.id.0 p.result p.ensures in let w = places-in (lent a.documents) c.term_count-count.result a.id.0 p.result p.ensures in search rules

pub slice_bounds-slices_hold_below-start-2 : goal.slice_bounds-slices_hold_below-start-2
slice_bounds-slices_hold_below-start-2 c =
    let a = c.args in
    let p = c.places-at in let o = places-ordered (lent a.documents) c.term_count-count.result a.id.0 p.result p.ensures in let w = places-in (lent a.documents) c.term_count-count.result a.id.0 p.result p.ensures in search rules

pub slice_bounds-slices_hold_below-end-2 : goal.slice_bounds-slices_hold_below-end-2
slice_bounds-slices_hold_below-end-2 c =
    let a = c.args in
    let p = c.places-at in let o = places-ordered (lent a.documents) c.term_count-count.result a.id.0 p.result p.ensures in let w = places-in (lent a.documents) c.term_count-count.result a.id.0 p.result p.ensures in search rules

pub returns : goal.returns
returns c =
    let a = c.args in c.slices_hold_below.ensures ∙ holds_at (lent a.documents) a.dimension c.term_count-count.result c.term_count-count.ensures a.id.0 c.places-at.result c.places-at.ensures
