-- `kept_list::settle` meets its contract: from the place that was found the entry goes up to what a push gives.
use native.Mathlib.Omega.{arith}
use mathlib.Core.Path.{◌∙◌}
use Rattle.kept_list.specs.Lent.{lent}
use Rattle.kept_list.proofs.Settling.{found, found_none}
use Rattle.kept_list.proofs.settle.Goals as goal

pub overflow_add-length : goal.overflow_add-length
overflow_add-length c =
    let a = c.args in
    let r = found a.k a.e (lent a.length.now a.packed.now a.scores.now) _ c.find_place.ensures _ c.in-Some.is in
    omega arith

pub insert-requires : goal.insert-requires
insert-requires c =
    let a = c.args in
    let r = found a.k a.e (lent a.length.now a.packed.now a.scores.now) _ c.find_place.ensures _ c.in-Some.is in
    (r.in-packed, r.in-scores)

pub returns-in-Some : goal.returns-in-Some
returns-in-Some c =
    let a = c.args in
    c.insert.ensures ∙ (found a.k a.e (lent a.length.now a.packed.now a.scores.now) _ c.find_place.ensures _ c.in-Some.is).gives

pub returns-in_default : goal.returns-in_default
returns-in_default c =
    let a = c.args in
    found_none a.k a.e (lent a.length.now a.packed.now a.scores.now) _ c.find_place.ensures c.in_default.is
