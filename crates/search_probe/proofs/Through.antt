-- With the table and the sieve of a query whose terms hold, a range is read as document 01 says.
use Prim.Native.Nat.{ℕ, ◌+◌, ◌-◌, ◌≤◌, ◌<◌, min}
use native.Mathlib.Omega.{arith}
use mathlib.Core.Path.{◌≡◌, refl, sym, ap, ◌∙◌}
use mathlib.Core.Bool.{Bool, true, false, cond}
use mathlib.Core.List.{List}
use lib.ListN.{length}
use lib.Dec.{leb}
use lib.Ieee.{Float}
use borrow.Author.Tests.{leb-true}
use Rattle.sequences.specs.Lists.{part}
use Rattle.packing.specs.Packing.{start_of, length_of}
use Rattle.documents.specs.Checks.{slices_hold}
use Rattle.search_page.specs.Reading.{reading}
use Rattle.search_page.specs.Laws.Through.{table_of}
use Rattle.search_page.specs.Through.{sieve_of, read_through}
use Rattle.search_page.specs.Laws.Reads.{read_is}
use Rattle.search_postings.specs.declared.RangeReading.TheVariants.{ReachesPast, Score}
use Rattle.search_postings.specs.Ranges.{of_page, range_at, range_reading, through_table}
use Rattle.search_probe.proofs.Counted.{HasBytes}

-- the query's own table and sieve, terms that hold, and a byte for each start
pub record Ready (table : List Float) (sieve qs : List ℕ) (ws : List Float) (cs : List ℕ) (vs : List Float) (bytes : ℕ) : Type 0 where
  pub table_is : table ≡ table_of qs ws
  pub sieve_is : sieve ≡ sieve_of qs
  pub query_holds : slices_hold qs ws ≡ true
  pub even : length cs ≡ length vs
  pub has-bytes : length cs < bytes

-- a range that has a score ends within the terms
score-within : (qs : List ℕ) (ws : List Float) (cs : List ℕ) (vs : List Float) (s e : ℕ) (x : Float) → Score x ≡ range_at qs ws cs vs s e → e ≤ length cs
score-within qs ws cs vs s e x h = at (leb e (length cs)) refl h
  where
    at : (b : Bool) → leb e (length cs) ≡ b → Score x ≡ cond b (of_page (reading qs ws (part s (e - s) cs) (part s (e - s) vs))) ReachesPast → e ≤ length cs
    at true f h = leb-true e (length cs) f
    at false f h = let z : ◌≡◌ {A = ℕ} 0 1 = cc in omega arith

module _ (table : List Float) (sieve qs : List ℕ) (ws : List Float) (cs : List ℕ) (vs : List Float) (bytes : ℕ) (ready : Ready table sieve qs ws cs vs bytes) where
  page-is : (ds : List ℕ) (ys : List Float) → read_through table sieve qs ws ds ys ≡ reading qs ws ds ys
  page-is ds ys = rw (ready.table_is, ready.sieve_is) (read_is qs ws ds ys ready.query_holds)

  pub through-is : (p : ℕ) → through_table table sieve qs ws cs vs p ≡ range_reading qs ws cs vs p
  unfolding through_table range_reading
  through-is p =
      let s = start_of p in
      let e = start_of p + length_of p in
      let n : min (length cs) (length vs) ≡ length cs = omega (arith, ready.even) in
      ap (λ m. cond (leb e m) (of_page (read_through table sieve qs ws (part s (e - s) cs) (part s (e - s) vs))) ReachesPast) n
      ∙ ap (λ r. cond (leb e (length cs)) (of_page r) ReachesPast) (page-is (part s (e - s) cs) (part s (e - s) vs))

  -- what can be scored has a byte
  pub ready-bytes : HasBytes (range_reading qs ws cs vs) bytes
  unfolding range_reading
  ready-bytes p x e = let z = score-within qs ws cs vs (start_of p) (start_of p + length_of p) x (sym e) in omega (arith, ready.has-bytes)
