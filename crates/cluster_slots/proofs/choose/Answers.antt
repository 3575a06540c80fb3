-- `cluster_slots::choose` meets its contract.
use mathlib.Core.List.{map}
use lib.ListN.{length}
use lib.Ieee.{of_bits}
use borrow.Author.Tests.{not-true, not-false}
use borrow.Author.Rules.{scaled_Fits}
use Rattle.cluster_index.specs.Lent.{entries_lent}
use Rattle.documents.specs.TermKeys.{term_of}
use Rattle.cluster_slots.specs.Laws.Choice.{slot-within, chosen-above, last_within, chosen-all, chosen_last}
use Rattle.cluster_slots.proofs.choose.Goals as goal

pub offset_bounds-competing-at : goal.offset_bounds-competing-at
unfolding of_bits
offset_bounds-competing-at c =
    let a = c.args in
    let b = c.best_met-best in
    let t = c.at_most in
    scaled_Fits b.result.slot.0 (length a.competing.now) 8 (slot-within a.otherwise.0 a.competing.now (entries_lent a.index) a.sums.now (map term_of a.keys.now) c.requires b.result b.ensures t.result t.ensures (not-true _ c.if-not-at_most.true-raw)) c.well_formed.1.0.1

pub bounds-competing-at : goal.bounds-competing-at
unfolding of_bits
bounds-competing-at c =
    let a = c.args in
    let b = c.best_met-best in
    let t = c.at_most in
    slot-within a.otherwise.0 a.competing.now (entries_lent a.index) a.sums.now (map term_of a.keys.now) c.requires b.result b.ensures t.result t.ensures (not-true _ c.if-not-at_most.true-raw)

pub returns-then-not-at_most : goal.returns-then-not-at_most
unfolding of_bits
returns-then-not-at_most c =
    let a = c.args in
    let b = c.best_met-best in
    let t = c.at_most in
    chosen-above a.otherwise.0 a.competing.now (entries_lent a.index) a.sums.now (map term_of a.keys.now) c.requires b.result b.ensures t.result t.ensures (not-true _ c.if-not-at_most.true-raw)

pub offset_bounds-competing-at-in-Some : goal.offset_bounds-competing-at-in-Some
unfolding of_bits
offset_bounds-competing-at-in-Some c =
    let a = c.args in
    let b = c.best_met-best in
    let t = c.at_most in
    scaled_Fits _ (length a.competing.now) 8 (last_within a.otherwise.0 a.competing.now (entries_lent a.index) a.sums.now (map term_of a.keys.now) c.requires b.result b.ensures t.result t.ensures c.last_from_zero.result c.last_from_zero.ensures _ c.in-Some.is) c.well_formed.1.0.1

pub bounds-competing-at-in-Some : goal.bounds-competing-at-in-Some
unfolding of_bits
bounds-competing-at-in-Some c =
    let a = c.args in
    let b = c.best_met-best in
    let t = c.at_most in
    last_within a.otherwise.0 a.competing.now (entries_lent a.index) a.sums.now (map term_of a.keys.now) c.requires b.result b.ensures t.result t.ensures c.last_from_zero.result c.last_from_zero.ensures _ c.in-Some.is

pub returns-in-Some : goal.returns-in-Some
unfolding of_bits
returns-in-Some c =
    let a = c.args in
    let b = c.best_met-best in
    let t = c.at_most in
    chosen_last a.otherwise.0 a.competing.now (entries_lent a.index) a.sums.now (map term_of a.keys.now) c.requires b.result b.ensures t.result t.ensures c.last_from_zero.result c.last_from_zero.ensures (not-false _ c.if-not-at_most.false-raw) _ c.in-Some.is

pub returns-in-None : goal.returns-in-None
unfolding of_bits
returns-in-None c =
    let a = c.args in
    let b = c.best_met-best in
    let t = c.at_most in
    chosen-all a.otherwise.0 a.competing.now (entries_lent a.index) a.sums.now (map term_of a.keys.now) c.requires
    b.result b.ensures t.result t.ensures c.last_from_zero.result c.last_from_zero.ensures (not-false _ c.if-not-at_most.false-raw)
    c.in-None.is c.last_greatest.result.0 c.last_greatest.ensures
