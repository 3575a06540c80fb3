-- One posting, by the tests that were passed.
use Rattle.std.specs.Prelude.{Option, Ok, Err}
use Prim.Native.Nat.{ℕ, ◌-◌, ◌≤◌, ◌<◌, min}
use native.Mathlib.Omega.{arith}
use mathlib.Core.Path.{◌≡◌, sym, ap, ◌∙◌}
use mathlib.Core.Bool.{Bool, true, false, not}
use mathlib.Core.List.{List}
use lib.ListN.{length, get_or, set, take, drop}
use lib.Dec.{eqb}
use lib.Ieee.{Float}
use borrow.Author.Tests.{le-leb, lt-leb}
use Rattle.packing.specs.declared.UnpackedRange.{UnpackedRange}
use Rattle.packing.specs.Packing.{start_of, unpacked}
use Rattle.refusal.specs.declared.Refusal.TheVariants.{PastTheTerms, WrongTerms}
use Rattle.kept_list.specs.Entry.{scored}
use Rattle.kept_list.specs.Lent.{Lent, settled}
use Rattle.search_page.specs.Through.{read_through}
use Rattle.search_postings.specs.declared.Counts.{Counts}
use Rattle.search_postings.specs.declared.RangeReading.{RangeReading}
use Rattle.search_postings.specs.declared.RangeReading.TheVariants.{ReachesPast, Breaks, Score}
use Rattle.search_postings.specs.Outcomes.{visited}
use Rattle.search_postings.specs.Ranges.{of_page, range_through, through_table}
use Rattle.search_postings.specs.Postings.{Lends, lends, turned, one_more, counts, stop_of, held_evaluate}
use Rattle.search_postings.specs.Laws.Postings.{kept_found}

-- ---- a range
module _ (table : List Float) (sieve qs : List ℕ) (ws : List Float) (cs : List ℕ) (vs : List Float) (s e n : ℕ) (m : n ≡ min (length cs) (length vs)) where
  pub range-past : n < e → ReachesPast ≡ range_through table sieve qs ws cs vs s e
  range-past h = rw (← m, lt-leb e n h)

  pub range-read : (r : Option Float) → e ≤ n → r ≡ read_through table sieve qs ws (take (e - s) (drop s cs)) (take (e - s) (drop s vs)) → of_page r ≡ range_through table sieve qs ws cs vs s e
  range-read r h f = rw (← m, le-leb e n h) (ap of_page f)

  pub within-components : e ≤ n → e ≤ length cs
  within-components h = omega arith

  pub within-values : e ≤ n → e ≤ length vs
  within-values h = omega arith

-- ---- a posting
kept-marked : (k p s : ℕ) (x : Float) (l : Lends) (m : Lent) (v : List ℕ) → m ≡ settled k (scored p x) l.kept → v ≡ set l.visits s 1 → lends m v ≡ kept_found k p s x l
kept-marked k p s x l m v f g = rw (f, g)

module _ (table : List Float) (sieve qs : List ℕ) (ws : List Float) (cs : List ℕ) (vs : List Float) (p : ℕ) (u : UnpackedRange) (e : u ≡ unpacked p) where
  pub reading-of : (r : RangeReading) → r ≡ range_through table sieve qs ws cs vs u.start.0 u.end → through_table table sieve qs ws cs vs p ≡ r
  unfolding through_table
  reading-of r h = sym (h ∙ ap (λ (x : UnpackedRange). range_through table sieve qs ws cs vs x.start.0 x.end) e)

module _ (k : ℕ) (read : ℕ → RangeReading) (p i : ℕ) (c : Counts) (l : Lends) where
  pub eval-passed : visited l.visits p ≡ true → turned (Ok c) l ≡ held_evaluate k read p i c l
  unfolding held_evaluate
  eval-passed h = rw h

  pub eval-past : visited l.visits p ≡ false → read p ≡ ReachesPast → turned (Err (stop_of PastTheTerms i)) l ≡ held_evaluate k read p i c l
  unfolding held_evaluate
  eval-past h r = rw (h, r)

  pub eval-breaks : visited l.visits p ≡ false → read p ≡ Breaks → turned (Err (stop_of WrongTerms i)) l ≡ held_evaluate k read p i c l
  unfolding held_evaluate
  eval-breaks h r = rw (h, r)

  pub eval-found : visited l.visits p ≡ false → (x : Float) → read p ≡ Score x → (n : ℕ) → n ≡ one_more c.evaluated → (m : Lends) → m ≡ kept_found k p (start_of p) x l
      → turned (Ok (counts n c.skipped)) m ≡ held_evaluate k read p i c l
  unfolding held_evaluate
  eval-found h x r n o m f = rw (h, r, o, f)

-- ---- the same, by the range that was unpacked
module _ (p : ℕ) (u : UnpackedRange) (e : u ≡ unpacked p) where
  pub visited-by : (v : List ℕ) (t : Bool) → t ≡ not (eqb (get_or v u.start.0 0) 0) → visited v p ≡ t
  visited-by v t h = sym (h ∙ ap (λ (x : UnpackedRange). not (eqb (get_or v x.start.0 0) 0)) e)

  pub found-by : (k : ℕ) (x : Float) (l : Lends) (m : Lent) (v : List ℕ) → m ≡ settled k (scored p x) l.kept → v ≡ set l.visits u.start.0 1 → lends m v ≡ kept_found k p (start_of p) x l
  found-by k x l m v f g = kept-marked k p u.start.0 x l m v f g ∙ ap (λ (y : UnpackedRange). kept_found k p y.start.0 x l) e

  pub end_by : u.start.0 ≤ u.end
  end_by = rw e (omega arith)
