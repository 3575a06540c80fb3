-- `explain::reached_fate`: by what probing answered, and the visit byte.
use mathlib.Core.Bool.{true, false}
use Rattle.explain.proofs.Fates.{fate-reached}
use Rattle.explain.proofs.reached_fate.Goals as goal

pub returns-then-visited : goal.returns-then-visited
returns-then-visited c =
    let a = c.args in fate-reached a.answer a.posting.0 a.visits.now _ _ true c.in-Found.is c.unpack.ensures c.is_visited-visited.ensures c.if-visited.true

pub returns-else-visited : goal.returns-else-visited
returns-else-visited c =
    let a = c.args in fate-reached a.answer a.posting.0 a.visits.now _ _ false c.in-Found.is c.unpack.ensures c.is_visited-visited.ensures c.if-visited.false
