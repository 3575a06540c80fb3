-- The place of a component, place by place as the loop goes.
use mathlib.Core.Path.{◌≡◌}
use mathlib.Core.List.{List}
use Prim.Native.Nat.{ℕ, ◌+◌, ◌≤◌, ◌<◌}
use native.Mathlib.Omega.{arith}
use native.Mathlib.Numerals.{add-one}
use borrow.Author.Tests.{lt-ltb, le-ltb}
use lib.ListN.{length, get_or, drop, drop_of_length-le}
use lib.Seq.{drop-cons}
use Rattle.documents.specs.Sought.{belows}

abbrev pub sought_from : List ℕ → ℕ → ℕ → ℕ
sought_from qs a k = k + belows a (drop k qs)

pub seek_stop : (qs : List ℕ) (a k : ℕ) → k < length qs → a ≤ get_or qs k 0 → k ≡ sought_from qs a k
unfolding belows
seek_stop qs a k h l = rw (drop-cons qs k 0 h, le-ltb (get_or qs k 0) a l) (omega arith)

pub seek-step : (qs : List ℕ) (a k : ℕ) → k < length qs → get_or qs k 0 < a → sought_from qs a (k + 1) ≡ sought_from qs a k
unfolding belows
seek-step qs a k h l = rw (drop-cons qs k 0 h, lt-ltb (get_or qs k 0) a l, add-one k) (omega arith)

pub seek-end : (qs : List ℕ) (a k : ℕ) → length qs ≤ k → k ≡ sought_from qs a k
unfolding belows
seek-end qs a k h = rw (drop_of_length-le qs h) (omega arith)
