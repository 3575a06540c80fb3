-- A number's rank in a list by binary search, for any list.
use Rattle.std.specs.Prelude.{ℕ, zero, suc, ◌+◌, ◌-◌, ◌/◌, ◌≤◌, ◌<◌, cond, List, length, get_or, ltb}

abbrev pub middle : ℕ → ℕ → ℕ
middle low high = low + (high - low) / 2

-- the search between two places, with at most so many steps
unfoldable pub searched : ℕ → List ℕ → ℕ → ℕ → ℕ → ℕ
searched zero l x low high = low
searched (suc n) l x low high =
    cond (ltb low high)
    (cond (ltb (get_or l (middle low high) 0) x) (searched n l x (middle low high + 1) high) (searched n l x low (middle low high)))
    low

unfoldable pub rank_in : List ℕ → ℕ → ℕ
rank_in l x = searched (length l) l x 0 (length l)

-- r parts a list into the numbers below x and those not below it
pub record Parted (l : List ℕ) (x r : ℕ) : Type 0 where
  pub within : r ≤ length l
  pub below : (k : ℕ) → k < r → get_or l k 0 < x
  pub above : (k : ℕ) → r ≤ k → k < length l → x ≤ get_or l k 0
