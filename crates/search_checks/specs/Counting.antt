-- Ids that strictly rise within each component, by counting those that do not lie above the one before.
use Rattle.std.specs.Prelude.{ℕ, ◌+◌, ◌-◌, Bool, ◌&&◌, cond, List, [], ◌∷◌, length, get_or, ltb, eqb}
use Rattle.sequences.specs.Lists.{every}

-- 1 where y does not lie above x
abbrev pub fall : ℕ → ℕ → ℕ
fall x y = cond (ltb x y) 0 1

unfoldable pub falls : List ℕ → ℕ
falls [] = 0
falls (x ∷ []) = 0
falls (x ∷ y ∷ xs) = fall x y + falls (y ∷ xs)

-- the same of the entry at an offset b after the offset a, where both have an entry
abbrev pub seam_at : List ℕ → ℕ → ℕ → ℕ
seam_at ids a b = cond (ltb a b && ltb b (length ids)) (fall (get_or ids (b - 1) 0) (get_or ids b 0)) 0

unfoldable pub seams : List ℕ → List ℕ → ℕ
seams ids [] = 0
seams ids (a ∷ []) = 0
seams ids (a ∷ b ∷ os) = seam_at ids a b + seams ids (b ∷ os)

-- what is counted in place of `ids_hold`
unfoldable pub ids_counted : ℕ → List ℕ → List ℕ → Bool
ids_counted summaries os ids = every (λ i. ltb i summaries) ids && eqb (falls ids) (seams ids os)
