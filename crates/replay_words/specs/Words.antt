-- The words of a recorded case as numbers and as slices.
use Rattle.std.specs.Prelude.{ℕ, zero, suc, ◌+◌, ◌-◌, ◌*◌, ◌%◌, ◌&&◌, cond, List, [], ◌∷◌, length, take, drop, get_or, leb}

-- a number of two words, the upper one first
abbrev pub long : List ℕ → ℕ → ℕ
long ws at = get_or ws at 0 * 4294967296 + get_or ws (at + 1) 0

abbrev pub itself : ℕ → ℕ
itself n = n

abbrev pub low : ℕ → ℕ → ℕ
low limit n = n % limit

-- where a slice from a to b starts and ends; at the front where there is no such part of a length
unfoldable pub start_of : ℕ → ℕ → ℕ → ℕ
start_of a b n = cond (leb a b && leb b n) a 0

unfoldable pub end_of : ℕ → ℕ → ℕ → ℕ
end_of a b n = cond (leb a b && leb b n) b 0

module _ {A : Type 0} where
  -- the entries from one place up to another
  unfoldable pub up_to : ℕ → ℕ → List A → List A
  up_to a b xs = take (b - a) (drop a xs)

  -- the slice whose start stands at a place of the words, and whose end stands behind it; empty where there is no such part
  unfoldable pub slice_at : List ℕ → ℕ → List A → List A
  slice_at ws at xs = up_to (start_of (get_or ws at 0) (get_or ws (at + 1) 0) (length xs)) (end_of (get_or ws at 0) (get_or ws (at + 1) 0) (length xs)) xs

  -- so many words as entries of another kind, 0 for each word that is not there
  unfoldable pub spread : (ℕ → A) → ℕ → List ℕ → List A
  spread f zero ws = []
  spread f (suc n) [] = f 0 ∷ spread f n []
  spread f (suc n) (w ∷ ws) = f w ∷ spread f n ws
