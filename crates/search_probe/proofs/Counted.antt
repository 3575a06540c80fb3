-- Each evaluation marks a start that was unvisited: so the count of evaluations fits in a u64.
use Prim.Native.Nat.{ℕ, zero, suc, ◌+◌, ◌≤◌, ◌<◌}
use native.Mathlib.Omega.{arith}
use mathlib.Core.Path.{◌≡◌, refl, ap}
use mathlib.Core.Bool.{Bool, true, false, not, cond}
use mathlib.Core.List.{List, [], ◌∷◌}
use lib.ListN.{length, get_or, set, length-set}
use lib.Dec.{eqb}
use lib.Ieee.{Float}
use borrow.Author.Tests.{eq-eqb, eqb-true}
use Rattle.packing.specs.Packing.{start_of}
use Rattle.kept_list.specs.Keep.{keep}
use Rattle.kept_list.specs.Laws.Pushing.{length-keep}
use Rattle.kept_list.specs.Entry.{scored, better}
use Rattle.search_postings.specs.declared.RangeReading.{RangeReading}
use Rattle.search_postings.specs.declared.RangeReading.TheVariants.{ReachesPast, Breaks, Score}
use Rattle.search_postings.specs.Postings.{one_more}
use Rattle.search_probe.specs.Probing.{Place, Given, State, state, passed, of_reading, packed_at, start_at, Reached, goes_on, stops_at, and_then, evaluate, probe}

-- how many bytes are 0
unfoldable pub unvisited : List ℕ → ℕ
unvisited [] = 0
unvisited (b ∷ bs) = cond (eqb b 0) (suc (unvisited bs)) (unvisited bs)

pub unvisited-few : (v : List ℕ) → unvisited v ≤ length v
unfolding unvisited
unvisited-few [] = omega arith
unvisited-few (b ∷ v) = at (eqb b 0) (unvisited-few v)
  where
    at : (t : Bool) → unvisited v ≤ length v → cond t (suc (unvisited v)) (unvisited v) ≤ suc (length v)
    at true h = omega arith
    at false h = omega arith

-- a visit of an unvisited start
pub unvisited-set : (v : List ℕ) (i : ℕ) → i < length v → get_or v i 0 ≡ 0 → suc (unvisited (set v i 1)) ≡ unvisited v
unfolding unvisited
unvisited-set [] i h e = absurd (omega arith)
unvisited-set (b ∷ v) zero h e = rw (eq-eqb b 0 e)
unvisited-set (b ∷ v) (suc i) h e = at (eqb b 0) (unvisited-set v i (omega arith) e)
  where
    at : (t : Bool) → suc (unvisited (set v i 1)) ≡ unvisited v → suc (cond t (suc (unvisited (set v i 1))) (unvisited (set v i 1))) ≡ cond t (suc (unvisited v)) (unvisited v)
    at true h = ap suc h
    at false h = h

-- ---- what a search that goes on keeps
-- what was read can be visited
abbrev pub HasBytes : (ℕ → RangeReading) → ℕ → Type 0
HasBytes read n = (p : ℕ) (x : Float) → read p ≡ Score x → start_of p < n

-- no more than k are kept, what was evaluated and what is unvisited fit in a u64 together, and what can be scored has its byte
pub record Fits (g : Given) (s : State) : Type 0 where
  pub few : length s.kept ≤ g.k
  pub counted : s.evaluated + unvisited s.visits ≤ 18446744073709551615
  pub bytes : HasBytes g.read (length s.visits)

-- a count below the greatest u64 has one more
pub counts-on : (n : ℕ) → n + 1 ≤ 18446744073709551615 → one_more n ≡ n + 1
counts-on n h = omega arith

module _ (g : Given) where
  abbrev pub found_at : Place → Float → State → State
  found_at i x s = state (keep better g.k (scored (packed_at g i) x) s.kept) (set s.visits (start_at g i) 1) (s.evaluated + 1) s.skipped

  module _ (i : Place) (x : Float) (s : State) (fits : Fits g s) (new : eqb (get_or s.visits (start_at g i) 0) 0 ≡ true) (scores : g.read (packed_at g i) ≡ Score x) where
    one_less : suc (unvisited (set s.visits (start_at g i) 1)) ≡ unvisited s.visits
    one_less = unvisited-set s.visits (start_at g i) (fits.bytes (packed_at g i) x scores) (eqb-true (get_or s.visits (start_at g i) 0) 0 new)

    pub found-counted : s.evaluated + 1 ≤ 18446744073709551615
    found-counted = omega (arith, one_less, fits.counted)

    pub found-fits : Fits g (found_at i x s)
    found-fits =
        record {
          few = omega (arith, fits.few, length-keep better g.k (scored (packed_at g i) x) s.kept);
          counted = omega (arith, one_less, fits.counted);
          bytes = λ p y e. omega (arith, fits.bytes p y e, length-set s.visits (start_at g i) 1);
        }

  -- where a search went on it fits still, and skipped no block meanwhile
  abbrev pub FitsOn : ℕ → Reached → Type 0
  FitsOn m (goes_on t) = Fits g t × (t.skipped ≡ m)
  FitsOn m (stops_at r i t) = Unit {0}

  pub probe-fits : (is : List Place) (s : State) → Fits g s → FitsOn s.skipped (probe g is s)
  probe-fits [] s n = (n, refl)
  probe-fits (i ∷ is) s n = go (eqb (get_or s.visits (start_at g i) 0) 0) refl (g.read (packed_at g i)) refl (probe-fits is)
    where
      go : (b : Bool) → eqb (get_or s.visits (start_at g i) 0) 0 ≡ b → (r : RangeReading) → g.read (packed_at g i) ≡ r
          → ((s : State) → Fits g s → FitsOn s.skipped (probe g is s)) → FitsOn s.skipped (and_then (evaluate g i s (cond (not b) passed (of_reading (packed_at g i) r))) (probe g is))
      go false e r f h = h s n
      go true e ReachesPast f h = tt
      go true e Breaks f h = tt
      go true e (Score x) f h = h _ (found-fits i x s n e f)
