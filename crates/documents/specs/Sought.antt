-- A component looked for from a place on.
use Rattle.std.specs.Prelude.{List, [], ◌∷◌, cond, ℕ, suc, ◌+◌, drop, ltb}

-- how many components at the front are below c
unfoldable pub belows : ℕ → List ℕ → ℕ
belows c [] = 0
belows c (q ∷ qs) = cond (ltb q c) (suc (belows c qs)) 0

-- the first place from j on whose component is not below c
unfoldable pub sought : List ℕ → ℕ → ℕ → ℕ
sought qs j c = j + belows c (drop j qs)
