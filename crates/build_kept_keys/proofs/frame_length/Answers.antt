-- The number at the place, if there are so many behind it.
use native.Mathlib.Omega.{arith}
use mathlib.Core.Path.{◌∙◌}
use Rattle.build_kept_keys.specs.Laws.Frames.{front-there, front-none}
use Rattle.build_kept_keys.proofs.frame_length.Goals as goal

pub returns-then-n-places : goal.returns-then-n-places
returns-then-n-places c =
    let a = c.args in
    let p = c.saturating_sub-places.ensures in let n = c.at-n.ensures in
    n ∙ front-there a.at a.store.now (omega (arith, c.if-n-places.true))

pub returns-else-n-places : goal.returns-else-n-places
returns-else-n-places c =
    let a = c.args in
    let p = c.saturating_sub-places.ensures in let n = c.at-n.ensures in
    front-none a.at a.store.now (omega (arith, c.if-n-places.false))
