use mathlib.Core.Path.{ap}
use mathlib.Core.Bool.{◌&&◌, ◌||◌}
use lib.Dec.{leb, ltb, eqb}
use Rattle.kept_entries.proofs.goes_in.Goals as goal

pub returns : goal.returns
returns c =
    let a = c.args in
    ap (λ b. (ltb a.length a.k && ltb a.length a.room) || (((eqb a.length a.k && leb a.k a.room) && ltb 0 a.k) && b)) c.better.ensures
