-- The numbers of a search's answer, and what a search shows.
use Prim.Native.Nat.{ℕ}
use mathlib.Core.Path.{◌≡◌, refl, ap}
use mathlib.Core.List.{List}
use borrow.Author.Tests.{eq-eqb, ne_eqb}
use lib.Ieee.{Float}
use Rattle.refusal.specs.declared.Refusal.{Refusal}
use Rattle.refusal.specs.Refusals.{number_of}
use Rattle.search_probe.specs.declared.Answer.{Answer}
use Rattle.search_probe.specs.declared.Answer.TheVariants.{Refused, Stopped}
use Rattle.search_probe.specs.Probed.{Lends, left, in_numbers}
use Rattle.search.specs.Searched.{Question, leaves, leaves_in_order, searched, searched_in_order}
use Rattle.c_search.specs.Found.{shown, plain, sorted, seen}

-- ---- the numbers of a search's answer
-- a number, a position and two counts are those of the answer
abbrev pub NumbersOf : Answer → ℕ → ℕ → ℕ → ℕ → Type 0
NumbersOf a n p e s = (n ≡ (in_numbers a).number) × ((p ≡ (in_numbers a).position) × ((e ≡ (in_numbers a).evaluated) × (s ≡ (in_numbers a).skipped)))

pub refused-shows : (a : Answer) (r : Refusal) (n : ℕ) → a ≡ Refused r → n ≡ number_of r → NumbersOf a n 0 0 0
refused-shows a r n e h = rw e (h, (refl, (refl, refl)))

pub stopped-shows : (a : Answer) (r : Refusal) (i n : ℕ) → a ≡ Stopped r i → n ≡ number_of r → NumbersOf a n i 0 0
stopped-shows a r i n e h = rw e (h, (refl, (refl, refl)))

-- ---- what a search shows
pub plain-shows : (by : ℕ) (q : Question) (l : Lends) (xs : List Float) (bs : List ℕ) (a : Answer) (m : Lends) (ys : List Float) {n p e s : ℕ}
    → by ≡ 0 → leaves (left a m) ys ≡ searched q l xs → NumbersOf a n p e s → shown n p e s m ys bs ≡ seen by q l xs bs
unfolding seen
plain-shows by q l xs bs a m ys z w h = simp (h.0, h.1.0, h.1.1.0, h.1.1.1, eq-eqb by 0 z) (ap (λ r. plain r bs) w)

pub sorted-shows : (by : ℕ) (q : Question) (l : Lends) (xs : List Float) (bs : List ℕ) (a : Answer) (m : Lends) (ys : List Float) (cs : List ℕ) {n p e s : ℕ}
    → (by ≡ 0 → ⊥) → leaves_in_order (left a m) ys cs ≡ searched_in_order q l xs bs → NumbersOf a n p e s → shown n p e s m ys cs ≡ seen by q l xs bs
unfolding seen
sorted-shows by q l xs bs a m ys cs z w h = simp (h.0, h.1.0, h.1.1.0, h.1.1.1, ne_eqb by 0 z) (ap sorted w)
