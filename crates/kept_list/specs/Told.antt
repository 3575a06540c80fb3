-- Scored entries whose score an f32 holds.
use Rattle.std.specs.Prelude.{T}
use Rattle.std.specs.Float.{binary32}
use Rattle.std.specs.Float.Ieee.{fits}
use Rattle.kept_list.specs.declared.Scored.{Scored}

-- the score is one that an f32 holds
abbrev pub Fit : Scored → Type 0
Fit e = T (fits binary32 e.score)
