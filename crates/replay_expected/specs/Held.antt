-- What a buffer must hold: the expected numbers in front, and one number everywhere past them.
use Rattle.std.specs.Prelude.{ℕ, Bool, true, false, ◌&&◌, List, [], ◌∷◌, eqb}

unfoldable pub held : List ℕ → List ℕ → ℕ → Bool
held [] [] rest = true
held [] (e ∷ es) rest = false
held (x ∷ xs) [] rest = eqb x rest && held xs [] rest
held (x ∷ xs) (e ∷ es) rest = eqb x e && held xs es rest
