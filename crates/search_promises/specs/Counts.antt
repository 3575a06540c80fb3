-- How many visit bytes are not 0.
use Rattle.std.specs.Prelude.{ℕ, ◌+◌, cond, List, [], ◌∷◌, eqb}

-- ---- visit bytes that are not 0
abbrev pub visited_in : List ℕ → ℕ
visited_in [] = 0
visited_in (v ∷ vs) = cond (eqb v 0) 0 1 + visited_in vs
