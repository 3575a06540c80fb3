-- `search_postings::pairs::read_both`: apart by one of the tests, else what reading both pages says.
use native.Mathlib.Omega.{arith}
use Prim.Native.Nat.{ℕ, ◌≤◌, min}
use mathlib.Core.Path.{◌≡◌}
use mathlib.Core.Bool.{false, ◌||◌}
use mathlib.Core.List.{List}
use lib.ListN.{length}
use lib.Dec.{ltb}
use lib.Ieee.{Float}
use Rattle.packing.specs.declared.UnpackedRange.{UnpackedRange}
use Rattle.packing.specs.Packing.{unpacked}
use Rattle.search_postings.proofs.Steps.{end_by}
use Rattle.search_postings.proofs.Together.{both-unwanted, both-visited, both-past, both_read, both-within}
use Rattle.search_postings.proofs.pairs.read_both.Goals as goal

-- both ranges lie within the terms
fits : (cs : List ℕ) (vs : List Float) (n p q : ℕ) (u v : UnpackedRange) → u ≡ unpacked p → v ≡ unpacked q → n ≡ min (length cs) (length vs)
    → (ltb n u.end || ltb n v.end) ≡ false
    → (u.start.0 ≤ u.end) × (u.end ≤ length cs) × (u.end ≤ length vs) × (v.start.0 ≤ v.end) × (v.end ≤ length cs) × (v.end ≤ length vs)
fits cs vs n p q u v e f m i =
    let w = both-within cs vs n u.end v.end m i in
    (end_by p u e, w.0, w.1, end_by q v f, w.2, w.3)

pub returns-then-not-wanted : goal.returns-then-not-wanted
returns-then-not-wanted c =
    let a = c.args in
    both-unwanted a.table.now a.terms.components.now a.terms.values.now a.visits.now a.one.0 a.two.0 a.wanted c.if-not-wanted.true-raw

pub returns-then-is_visited : goal.returns-then-is_visited
returns-then-is_visited c =
    let a = c.args in
    let u = c.unpack-a in let v = c.unpack-b in
    both-visited a.table.now a.terms.components.now a.terms.values.now a.visits.now a.one.0 a.two.0 u.result v.result u.ensures v.ensures a.wanted c.if-not-wanted.false-raw
    c.is_visited.result c.is_visited-2.result c.is_visited.ensures c.is_visited-2.ensures c.if-is_visited.true

pub returns-then-n-a_to : goal.returns-then-n-a_to
returns-then-n-a_to c =
    let a = c.args in
    let u = c.unpack-a in let v = c.unpack-b in
    both-past a.table.now a.terms.components.now a.terms.values.now a.visits.now a.one.0 a.two.0 u.result v.result u.ensures v.ensures a.wanted c.if-not-wanted.false-raw
    c.is_visited.result c.is_visited-2.result c.is_visited.ensures c.is_visited-2.ensures c.term_count-n.result c.term_count-n.ensures
    c.if-is_visited.false c.if-n-a_to.true

pub offset_bounds-terms-a_from : goal.offset_bounds-terms-a_from
offset_bounds-terms-a_from c = omega (arith, fits c.args.terms.components.now c.args.terms.values.now c.term_count-n.result c.args.one.0 c.args.two.0 c.unpack-a.result c.unpack-b.result c.unpack-a.ensures c.unpack-b.ensures c.term_count-n.ensures c.if-n-a_to.false)

pub slice_bounds-read_two-count : goal.slice_bounds-read_two-count
slice_bounds-read_two-count c = omega (arith, fits c.args.terms.components.now c.args.terms.values.now c.term_count-n.result c.args.one.0 c.args.two.0 c.unpack-a.result c.unpack-b.result c.unpack-a.ensures c.unpack-b.ensures c.term_count-n.ensures c.if-n-a_to.false)

pub slice_bounds-read_two-start : goal.slice_bounds-read_two-start
slice_bounds-read_two-start c = (fits c.args.terms.components.now c.args.terms.values.now c.term_count-n.result c.args.one.0 c.args.two.0 c.unpack-a.result c.unpack-b.result c.unpack-a.ensures c.unpack-b.ensures c.term_count-n.ensures c.if-n-a_to.false).0

pub slice_bounds-read_two-end : goal.slice_bounds-read_two-end
slice_bounds-read_two-end c = (fits c.args.terms.components.now c.args.terms.values.now c.term_count-n.result c.args.one.0 c.args.two.0 c.unpack-a.result c.unpack-b.result c.unpack-a.ensures c.unpack-b.ensures c.term_count-n.ensures c.if-n-a_to.false).1

pub offset_bounds-terms-a_from-2 : goal.offset_bounds-terms-a_from-2
offset_bounds-terms-a_from-2 c = omega (arith, fits c.args.terms.components.now c.args.terms.values.now c.term_count-n.result c.args.one.0 c.args.two.0 c.unpack-a.result c.unpack-b.result c.unpack-a.ensures c.unpack-b.ensures c.term_count-n.ensures c.if-n-a_to.false)

pub slice_bounds-read_two-count-2 : goal.slice_bounds-read_two-count-2
slice_bounds-read_two-count-2 c = omega (arith, fits c.args.terms.components.now c.args.terms.values.now c.term_count-n.result c.args.one.0 c.args.two.0 c.unpack-a.result c.unpack-b.result c.unpack-a.ensures c.unpack-b.ensures c.term_count-n.ensures c.if-n-a_to.false)

pub slice_bounds-read_two-start-2 : goal.slice_bounds-read_two-start-2
slice_bounds-read_two-start-2 c = (fits c.args.terms.components.now c.args.terms.values.now c.term_count-n.result c.args.one.0 c.args.two.0 c.unpack-a.result c.unpack-b.result c.unpack-a.ensures c.unpack-b.ensures c.term_count-n.ensures c.if-n-a_to.false).0

pub slice_bounds-read_two-end-2 : goal.slice_bounds-read_two-end-2
slice_bounds-read_two-end-2 c = (fits c.args.terms.components.now c.args.terms.values.now c.term_count-n.result c.args.one.0 c.args.two.0 c.unpack-a.result c.unpack-b.result c.unpack-a.ensures c.unpack-b.ensures c.term_count-n.ensures c.if-n-a_to.false).2

pub offset_bounds-terms-b_from : goal.offset_bounds-terms-b_from
offset_bounds-terms-b_from c = omega (arith, fits c.args.terms.components.now c.args.terms.values.now c.term_count-n.result c.args.one.0 c.args.two.0 c.unpack-a.result c.unpack-b.result c.unpack-a.ensures c.unpack-b.ensures c.term_count-n.ensures c.if-n-a_to.false)

pub slice_bounds-read_two-count-3 : goal.slice_bounds-read_two-count-3
slice_bounds-read_two-count-3 c = omega (arith, fits c.args.terms.components.now c.args.terms.values.now c.term_count-n.result c.args.one.0 c.args.two.0 c.unpack-a.result c.unpack-b.result c.unpack-a.ensures c.unpack-b.ensures c.term_count-n.ensures c.if-n-a_to.false)

pub slice_bounds-read_two-start-3 : goal.slice_bounds-read_two-start-3
slice_bounds-read_two-start-3 c = (fits c.args.terms.components.now c.args.terms.values.now c.term_count-n.result c.args.one.0 c.args.two.0 c.unpack-a.result c.unpack-b.result c.unpack-a.ensures c.unpack-b.ensures c.term_count-n.ensures c.if-n-a_to.false).3

pub slice_bounds-read_two-end-3 : goal.slice_bounds-read_two-end-3
slice_bounds-read_two-end-3 c = (fits c.args.terms.components.now c.args.terms.values.now c.term_count-n.result c.args.one.0 c.args.two.0 c.unpack-a.result c.unpack-b.result c.unpack-a.ensures c.unpack-b.ensures c.term_count-n.ensures c.if-n-a_to.false).4

pub offset_bounds-terms-b_from-2 : goal.offset_bounds-terms-b_from-2
offset_bounds-terms-b_from-2 c = omega (arith, fits c.args.terms.components.now c.args.terms.values.now c.term_count-n.result c.args.one.0 c.args.two.0 c.unpack-a.result c.unpack-b.result c.unpack-a.ensures c.unpack-b.ensures c.term_count-n.ensures c.if-n-a_to.false)

pub slice_bounds-read_two-count-4 : goal.slice_bounds-read_two-count-4
slice_bounds-read_two-count-4 c = omega (arith, fits c.args.terms.components.now c.args.terms.values.now c.term_count-n.result c.args.one.0 c.args.two.0 c.unpack-a.result c.unpack-b.result c.unpack-a.ensures c.unpack-b.ensures c.term_count-n.ensures c.if-n-a_to.false)

pub slice_bounds-read_two-start-4 : goal.slice_bounds-read_two-start-4
slice_bounds-read_two-start-4 c = (fits c.args.terms.components.now c.args.terms.values.now c.term_count-n.result c.args.one.0 c.args.two.0 c.unpack-a.result c.unpack-b.result c.unpack-a.ensures c.unpack-b.ensures c.term_count-n.ensures c.if-n-a_to.false).3

pub slice_bounds-read_two-end-4 : goal.slice_bounds-read_two-end-4
slice_bounds-read_two-end-4 c = (fits c.args.terms.components.now c.args.terms.values.now c.term_count-n.result c.args.one.0 c.args.two.0 c.unpack-a.result c.unpack-b.result c.unpack-a.ensures c.unpack-b.ensures c.term_count-n.ensures c.if-n-a_to.false).5

pub returns : goal.returns
returns c =
    let a = c.args in
    let u = c.unpack-a in let v = c.unpack-b in
    both_read a.table.now a.terms.components.now a.terms.values.now a.visits.now a.one.0 a.two.0 u.result v.result u.ensures v.ensures a.wanted c.if-not-wanted.false-raw
    c.is_visited.result c.is_visited-2.result c.is_visited.ensures c.is_visited-2.ensures c.term_count-n.result c.term_count-n.ensures
    c.if-is_visited.false c.if-n-a_to.false c.read_two.result c.read_two.ensures
