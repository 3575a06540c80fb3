-- `kept_list::find_place` meets its contract, by the cases of `Settling`.
use Prim.Native.Nat.{◌-◌}
use native.Mathlib.Omega.{arith}
use mathlib.Core.Path.{sym, ◌∙◌}
use borrow.Author.Rules.{rules}
use Rattle.kept_list.proofs.Settling.{full, keeps-none, no_room, adds, not_full, at-k-stays, at-k-replaces}
use Rattle.kept_list.proofs.find_place.Goals as goal

pub returns-then-most-eq0 : goal.returns-then-most-eq0
returns-then-most-eq0 c =
    let a = c.args in
    keeps-none a.k a.e a.length a.packed.now a.scores.now c.if-most-eq0.true

pub returns-then-packed-n : goal.returns-then-packed-n
returns-then-packed-n c =
    let a = c.args in
    no_room a.k a.e a.length a.packed.now a.scores.now c.if-n-most.true c.if-packed-n.true

pub returns-then-n-most : goal.returns-then-n-most
returns-then-n-most c =
    let a = c.args in
    adds a.k a.e a.length a.packed.now a.scores.now c.if-n-most.true c.if-packed-n.false

pub returns-then-most-n : goal.returns-then-most-n
returns-then-most-n c =
    let a = c.args in
    not_full a.k a.e a.length a.packed.now a.scores.now c.if-n-most.false c.if-most-n.true

pub offset_bounds-packed-last : goal.offset_bounds-packed-last
offset_bounds-packed-last c =
    let a = c.args in
    let r = full a.k a.length a.packed.now a.scores.now c.if-n-most.false c.if-most-n.false in
    search rules

pub bounds-packed-last : goal.bounds-packed-last
bounds-packed-last c =
    let a = c.args in
    let r = full a.k a.length a.packed.now a.scores.now c.if-n-most.false c.if-most-n.false in
    search rules

pub offset_bounds-scores-last : goal.offset_bounds-scores-last
offset_bounds-scores-last c =
    let a = c.args in
    let r = full a.k a.length a.packed.now a.scores.now c.if-n-most.false c.if-most-n.false in
    search rules

pub bounds-scores-last : goal.bounds-scores-last
bounds-scores-last c =
    let a = c.args in
    let r = full a.k a.length a.packed.now a.scores.now c.if-n-most.false c.if-most-n.false in
    search rules

pub returns-then-better : goal.returns-then-better
returns-then-better c =
    let a = c.args in
    let r = full a.k a.length a.packed.now a.scores.now c.if-n-most.false c.if-most-n.false in
    at-k-replaces a.k a.e a.length a.packed.now a.scores.now (a.k - 1) (omega (arith, c.if-most-eq0.false)) r _ c.new-worst.ensures (sym c.better.ensures ∙ c.if-better.true)

pub returns : goal.returns
returns c =
    let a = c.args in
    let r = full a.k a.length a.packed.now a.scores.now c.if-n-most.false c.if-most-n.false in
    at-k-stays a.k a.e a.length a.packed.now a.scores.now (a.k - 1) (omega (arith, c.if-most-eq0.false)) r _ c.new-worst.ensures (sym c.better.ensures ∙ c.if-better.false)
