-- Documents: their ranges, their terms, and the dot product. Document 01, "Numbers", "Scores" and "Page number".
use Rattle.std.specs.Prelude.{ℕ, suc, ◌-◌, Bool, false, not, ◌&&◌, ◌||◌, length, get_or, take, pos, leb, eqb, Float}
use mathlib.Core.List.{List, map, foldl, zip_with}
use Rattle.std.specs.Float.{fin, binary32}
use Rattle.std.specs.Float.Ieee.{add, mul}
use Rattle.float32.specs.Order.{at_most}
use Rattle.sequences.specs.Lists.{those, part, joined, from, with_key, sorted_by}
use Rattle.packing.specs.Packing.{pack_of}

pub record Term : Type 0 where
  pub component : ℕ
  pub value : Float

abbrev pub term : ℕ → Float → Term
term c v = record { component = c; value = v }

-- components and values side by side
unfoldable pub paired : List ℕ → List Float → List Term
unfolding zip_with
paired cs vs = zip_with term cs vs

-- offsets, one more than there are documents, and the terms of all documents
pub record Documents : Type 0 where
  pub offsets : List ℕ
  pub components : List ℕ
  pub values : List Float

abbrev pub documents : List ℕ → List ℕ → List Float → Documents
documents os cs vs = record { offsets = os; components = cs; values = vs }

abbrev pub count : List ℕ → ℕ
count offsets = length offsets - 1

-- ---- the document with a number: its range, and its terms
abbrev pub start : Documents → ℕ → ℕ
start d i = get_or d.offsets i 0

abbrev pub size : Documents → ℕ → ℕ
size d i = get_or d.offsets (suc i) 0 - start d i

unfoldable pub terms : Documents → ℕ → List Term
terms d i = paired (part (start d i) (size d i) d.components) (part (start d i) (size d i) d.values)

abbrev pub packed : Documents → ℕ → ℕ
packed d i = pack_of (start d i) (size d i)

-- ---- the documents whose start is asked for, in rising order
unfoldable pub starting_at : ℕ → List ℕ → List ℕ
starting_at s offsets = those (λ i. eqb (get_or offsets i 0) s) (from 0 (count offsets))

-- ---- sums start at +0
abbrev pub sum : List Float → Float
sum xs = foldl (add binary32) (fin false 0 (pos 0)) xs

-- over the query's terms as they come, the products with the values of the same components
abbrev pub values_at : ℕ → List Term → List Float
values_at c ts = map (λ t. t.value) (with_key (λ t. t.component) c ts)

abbrev pub products : List Term → List Term → List Float
products query ts = joined (map (λ q. map (λ v. mul binary32 v q.value) (values_at q.component ts)) query)

unfoldable pub dot : List Term → List Term → Float
dot query ts = sum (products query ts)

-- ---- greatest first by total order; equal values: smaller component first
unfoldable pub greater_first : Term → Term → Bool
greater_first a b = not (at_most a.value b.value) || (at_most b.value a.value && leb a.component b.component)

unfoldable pub falling : List Term → List Term
falling ts = sorted_by greater_first ts

-- the n largest, largest first
unfoldable pub largest : ℕ → List Term → List Term
largest n ts = take n (falling ts)
