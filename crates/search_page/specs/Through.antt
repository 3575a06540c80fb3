-- A page's terms taken one by one, with the query laid out in a table or through a sieve, for any table, sieve and query: what the program
-- does. Laws/Reads has what it comes to.
use Rattle.std.specs.Prelude.{List, [], ◌∷◌, Bool, ◌&&◌, ◌||◌, cond, ℕ, ◌-◌, ◌%◌, length, get_or, set, replicate, eqb, ltb, Float, Option, Some, None}
use Rattle.std.specs.Float.{nan, binary32}
use Rattle.std.specs.Float.Ieee.{of_bits, add, mul}
use Rattle.documents.specs.Checks.{slices_hold, slices_hold_below}
use Rattle.documents.specs.Sought.{sought}
use Rattle.search_page.specs.declared.Scores.{Scores}
use Rattle.search_page.specs.declared.Sum.{Sum}

-- ---- the table: the weight of each component below 32,768 at its own place
unfoldable pub laying : List Float → List ℕ → List Float → List Float
laying table [] ws = table
laying table (q ∷ qs) [] = table
laying table (q ∷ qs) (w ∷ ws) = laying (cond (ltb q 32768) (set table q w) table) qs ws

-- each term's value times what the table has for its component, added one after another
unfoldable pub laid_sum : List Float → List ℕ → List Float → Float → Float
laid_sum table [] vs x = x
laid_sum table (c ∷ cs) [] x = x
laid_sum table (c ∷ cs) (v ∷ vs) x = laid_sum table cs vs (add binary32 x (mul binary32 v (get_or table (c % 32768) nan)))

-- ---- the sieve: 1 at the remainder of each component
unfoldable pub marking : List ℕ → List ℕ → List ℕ
marking sieve [] = sieve
marking sieve (q ∷ qs) = marking (set sieve (q % 4096) 1) qs

unfoldable pub sieve_of : List ℕ → List ℕ
sieve_of qs = marking (replicate 4096 0) qs

-- a sum on its way, and the place in the query from which the next component is looked up
abbrev pub sum_of : Float → ℕ → Sum
sum_of x j = record { total = x; at = j }

abbrev pub hits : List ℕ → List Float → ℕ → ℕ → Bool
hits qs ws c at = ltb at (length qs) && (ltb at (length ws) && eqb (get_or qs at 0) c)

-- a term (c, v) looked up in the query: its product is added where the query has its component
unfoldable pub looked : List ℕ → List Float → ℕ → Float → Sum → Sum
looked qs ws c v s =
    sum_of (cond (hits qs ws c (sought qs s.at c)) (add binary32 s.total (mul binary32 v (get_or ws (sought qs s.at c) nan))) s.total)
    (sought qs s.at c)

-- unless the sieve stops it
unfoldable pub stepped : List ℕ → List ℕ → List Float → ℕ → Float → Sum → Sum
stepped sieve qs ws c v s = cond (eqb (get_or sieve (c % 4096) 0) 0) s (looked qs ws c v s)

unfoldable pub through : List ℕ → List ℕ → List Float → List ℕ → List Float → Sum → Sum
through sieve qs ws [] vs s = s
through sieve qs ws (c ∷ cs) [] s = s
through sieve qs ws (c ∷ cs) (v ∷ vs) s = through sieve qs ws cs vs (stepped sieve qs ws c v s)

-- ---- by the table where each component has a place in it, else through the sieve
-- of rising components the last one says whether all have a place
abbrev pub last_fits : List ℕ → Bool
last_fits cs = eqb (length cs) 0 || ltb (get_or cs (length cs - 1) 0) 32768

unfoldable pub read_through : List Float → List ℕ → List ℕ → List Float → List ℕ → List Float → Option Float
read_through table sieve qs ws cs vs =
    cond (slices_hold_below 32768 cs vs) (Some (laid_sum table cs vs (of_bits binary32 0)))
    (cond (slices_hold cs vs) (Some (through sieve qs ws cs vs (sum_of (of_bits binary32 0) 0)).total) None)

-- ---- two pages at a time: both by the table, or neither
abbrev pub scores_of : Float → Float → Scores
scores_of x y = record { one = x; two = y }

unfoldable pub read_two : List Float → List ℕ → List Float → List ℕ → List Float → Option Scores
read_two table cs vs ds ws =
    cond (slices_hold_below 32768 cs vs && slices_hold_below 32768 ds ws) (Some (scores_of (laid_sum table cs vs (of_bits binary32 0)) (laid_sum table ds ws (of_bits binary32 0)))) None
