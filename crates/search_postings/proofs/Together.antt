-- Two postings at a time are two postings one after the other.
use Rattle.std.specs.Prelude.{Option, Some, None, Result, Ok, Err}
use Prim.Native.Nat.{ℕ, ◌+◌, ◌≤◌, min}
use native.Mathlib.Omega.{arith}
use mathlib.Core.Path.{◌≡◌, refl, sym, ap, ◌∙◌}
use mathlib.Core.Bool.{Bool, true, false, not, ◌||◌, cond, true≢false}
use mathlib.Core.List.{List}
use lib.ListN.{length}
use lib.Dec.{ltb}
use lib.Ieee.{Float}
use borrow.Author.Tests.{le-leb, ltb-false}
use Rattle.sequences.specs.Laws.Lists.{neither}
use Rattle.packing.specs.declared.UnpackedRange.{UnpackedRange}
use Rattle.packing.specs.Packing.{start_of, length_of, unpacked}
use Rattle.search_page.specs.declared.Scores.{Scores}
use Rattle.search_page.specs.Through.{scores_of, read_two}
use Rattle.search_page.specs.Laws.Pairs.{scores, first_reads, second_reads}
use Rattle.search_postings.specs.declared.Counts.{Counts}
use Rattle.search_postings.specs.declared.Stop.{Stop}
use Rattle.search_postings.specs.declared.RangeReading.{RangeReading}
use Rattle.search_postings.specs.declared.RangeReading.TheVariants.{Score}
use Rattle.search_postings.specs.Outcomes.{passed, of_reading, visited}
use Rattle.search_postings.specs.Ranges.{of_page, through_table}
use Rattle.search_postings.specs.Postings.{Lends, Turned, next, then_on, held_outcome, held_evaluate}
use Rattle.search_postings.specs.Pairs.{was_visited, goes_past, terms_at, both_ranges, read_both, went_on, held_known, Pairing, together, apart, both_turned, held_two}

-- ---- the scores, by the tests that were passed
module _ (table : List Float) (cs : List ℕ) (vs : List Float) (visits : List ℕ) (p q : ℕ) where
  pub both-unwanted : (w : Bool) → not w ≡ true → None ≡ read_both w table cs vs visits p q
  unfolding read_both
  both-unwanted true h = absurd (true≢false (sym h))
  both-unwanted false h = refl

  module _ (u v : UnpackedRange) (e : u ≡ unpacked p) (f : v ≡ unpacked q) (w : Bool) (h : not w ≡ false) where
    both-ranges : (r : Option Scores) → r ≡ both_ranges table cs vs visits u v → r ≡ read_both w table cs vs visits p q
    unfolding read_both
    both-ranges r g = g ∙ ap (λ x. both_ranges table cs vs visits x v) e ∙ ap (both_ranges table cs vs visits (unpacked p)) f ∙ asked w h
      where
        asked : (b : Bool) → not b ≡ false → both_ranges table cs vs visits (unpacked p) (unpacked q) ≡ cond b (both_ranges table cs vs visits (unpacked p) (unpacked q)) None
        asked true i = refl
        asked false i = absurd (true≢false i)

    module _ (s t : Bool) (a : s ≡ was_visited visits u) (b : t ≡ was_visited visits v) where
      pub both-visited : (s || t) ≡ true → None ≡ read_both w table cs vs visits p q
      both-visited g = both-ranges None (rw (← a, ← b, g))

      module _ (n : ℕ) (m : n ≡ min (length cs) (length vs)) (g : (s || t) ≡ false) where
        pub both-past : (ltb n u.end || ltb n v.end) ≡ true → None ≡ read_both w table cs vs visits p q
        both-past i = both-ranges None (rw (← a, ← b, g, ← m, i))

        pub both_read : (ltb n u.end || ltb n v.end) ≡ false → (r : Option Scores) → r ≡ read_two table (terms_at cs u) (terms_at vs u) (terms_at cs v) (terms_at vs v) → r ≡ read_both w table cs vs visits p q
        both_read i r j = both-ranges r (rw (← a, ← b, g, ← m, i) j)

-- ranges that don't go past the terms
pub both-within : (cs : List ℕ) (vs : List Float) (n a b : ℕ) → n ≡ min (length cs) (length vs) → (ltb n a || ltb n b) ≡ false → (a ≤ length cs) × (a ≤ length vs) × (b ≤ length cs) × (b ≤ length vs)
both-within cs vs n a b m i =
    let t = neither (ltb n a) (ltb n b) i in
    let y = ltb-false n a t.0 in
    let z = ltb-false n b t.1 in (omega (arith, y, m), omega (arith, y, m), omega (arith, z, m), omega (arith, z, m))

-- ---- where there are scores, they are those of reading each posting
if-scores : (b : Bool) (r : Option Scores) (x y : Float) → cond b r None ≡ Some (scores_of x y) → (b ≡ true) × (r ≡ Some (scores_of x y))
if-scores true r x y e = (refl, e)
if-scores false r x y e = absurd (true≢false (sym (ap scores e)))

unless-scores : (b : Bool) (r : Option Scores) (x y : Float) → cond b None r ≡ Some (scores_of x y) → (b ≡ false) × (r ≡ Some (scores_of x y))
unless-scores true r x y e = absurd (true≢false (sym (ap scores e)))
unless-scores false r x y e = (refl, e)

module _ (table : List Float) (sieve qs : List ℕ) (ws : List Float) (cs : List ℕ) (vs : List Float) (visits : List ℕ) (p q : ℕ) (w : Bool) (x y : Float) (h : read_both w table cs vs visits p q ≡ Some (scores_of x y)) where
  pub was-wanted : w ≡ true
  unfolding read_both
  was-wanted = (if-scores w (both_ranges table cs vs visits (unpacked p) (unpacked q)) x y h).0

  abbrev both-terms : Option Scores
  both-terms = read_two table (terms_at cs (unpacked p)) (terms_at vs (unpacked p)) (terms_at cs (unpacked q)) (terms_at vs (unpacked q))

  abbrev past : Bool
  past = goes_past cs vs (unpacked p) || goes_past cs vs (unpacked q)

  within : (past ≡ false) × (both-terms ≡ Some (scores_of x y))
  unfolding read_both
  within =
      unless-scores past both-terms x y
      (unless-scores (was_visited visits (unpacked p) || was_visited visits (unpacked q)) (cond past None both-terms) x y (if-scores w (both_ranges table cs vs visits (unpacked p) (unpacked q)) x y h).1).1

  first-through : through_table table sieve qs ws cs vs p ≡ Score x
  unfolding through_table
  first-through =
      rw (le-leb (start_of p + length_of p) (min (length cs) (length vs)) (ltb-false (min (length cs) (length vs)) (start_of p + length_of p) (neither (goes_past cs vs (unpacked p)) (goes_past cs vs (unpacked q)) within.0).0))
      (ap of_page (first_reads table sieve qs ws (terms_at cs (unpacked p)) (terms_at vs (unpacked p)) (terms_at cs (unpacked q)) (terms_at vs (unpacked q)) x y within.1))

  second-through : through_table table sieve qs ws cs vs q ≡ Score y
  unfolding through_table
  second-through =
      rw (le-leb (start_of q + length_of q) (min (length cs) (length vs)) (ltb-false (min (length cs) (length vs)) (start_of q + length_of q) (neither (goes_past cs vs (unpacked p)) (goes_past cs vs (unpacked q)) within.0).1))
      (ap of_page (second_reads table sieve qs ws (terms_at cs (unpacked p)) (terms_at vs (unpacked p)) (terms_at cs (unpacked q)) (terms_at vs (unpacked q)) x y within.1))

-- ---- a posting whose score is known
known_is : (k : ℕ) (read : ℕ → RangeReading) (p i : ℕ) (x : Float) (c : Counts) (l : Lends) → read p ≡ Score x → held_known k p x c l ≡ held_evaluate k read p i c l
unfolding held_evaluate
known_is k read p i x c l h = rw h (at (visited l.visits p))
  where
    at : (b : Bool) → held_outcome k p 0 c l (cond b passed (of_reading p (Score x))) ≡ held_outcome k p i c l (cond b passed (of_reading p (Score x)))
    at true = refl
    at false = refl

known_next : (k : ℕ) (read : ℕ → RangeReading) (p q i j : ℕ) (x y : Float) (c : Counts) (l : Lends) → read p ≡ Score x → read q ≡ Score y
    → next (held_known k p x c l) (held_known k q y) ≡ next (held_evaluate k read p i c l) (held_evaluate k read q j)
known_next k read p q i j x y c l g h = ap (λ t. next t (held_known k q y)) (known_is k read p i x c l g) ∙ next-same (held_evaluate k read p i c l)
  where
    next-same : (t : Turned) → next t (held_known k q y) ≡ next t (held_evaluate k read q j)
    next-same t = turns t.turn
      where
        turns : (u : Result Counts Stop) → then_on u t.lent (held_known k q y) ≡ then_on u t.lent (held_evaluate k read q j)
        turns (Ok d) = known_is k read q j y d t.lent h
        turns (Err o) = refl

-- ---- both, or neither
abbrev turned_or : Turned → Pairing → Turned
turned_or t (together u) = u
turned_or t (apart l) = t

abbrev lends_or : Lends → Pairing → Lends
lends_or l (together u) = l
lends_or l (apart m) = m

abbrev paired : Pairing → Bool
paired (together u) = true
paired (apart l) = false

-- the first one's turn and the second one's after it, for whoever takes them one by one
pub two-done : (k p q : ℕ) (c : Counts) (l : Lends) (r : Option Scores) (x y : Float) → r ≡ Some (scores_of x y) → (d : Counts) (m : Lends) → went_on d m ≡ held_known k p x c l → (e : Counts) (n : Lends) → went_on e n ≡ held_known k q y d m
    → both_turned (Some e) n ≡ held_two k r p q c l
two-done k p q c l r x y g d m f e n h = ap together (h ∙ ap (λ t. next t (held_known k q y)) f) ∙ ap (λ z. held_two k z p q c l) (sym g)

module _ (k : ℕ) (p q : ℕ) (c : Counts) (l m : Lends) (b : Option Counts) (r : Option Scores) (f : both_turned b m ≡ held_two k r p q c l) where
  two-scored : (d : Counts) → b ≡ Some d → (x y : Float) → r ≡ Some (scores_of x y) → went_on d m ≡ next (held_known k p x c l) (held_known k q y)
  two-scored d e x y g = ap (turned_or (went_on d m)) (ap (λ z. both_turned z m) (sym e) ∙ f ∙ ap (λ z. held_two k z p q c l) g)

  pub two-apart : b ≡ None → m ≡ l
  two-apart e = at r f
    where
      at : (z : Option Scores) → both_turned b m ≡ held_two k z p q c l → m ≡ l
      at (Some s) g = absurd (true≢false (ap paired (sym g ∙ ap (λ z. both_turned z m) e)))
      at None g = ap (lends_or m) (ap (λ z. both_turned z m) (sym e) ∙ g)

module _ (k : ℕ) (table : List Float) (sieve qs : List ℕ) (ws : List Float) (cs : List ℕ) (vs : List Float) (w : Bool) (p q i j : ℕ) (c : Counts) (l m : Lends) (b : Option Counts)
    (f : both_turned b m ≡ held_two k (read_both w table cs vs l.visits p q) p q c l) (d : Counts) (e : b ≡ Some d) where
  abbrev pub TwoTurns : Type 0
  TwoTurns = (w ≡ true) × (went_on d m ≡ next (held_evaluate k (through_table table sieve qs ws cs vs) p i c l) (held_evaluate k (through_table table sieve qs ws cs vs) q j))

  pub two-turns : TwoTurns
  two-turns = at (read_both w table cs vs l.visits p q) refl
    where
      at : (z : Option Scores) → read_both w table cs vs l.visits p q ≡ z → TwoTurns
      at (Some s) g = (
        was-wanted table sieve qs ws cs vs l.visits p q w s.one s.two g,
        two-scored k p q c l m b (read_both w table cs vs l.visits p q) f d e s.one s.two g ∙ known_next k (through_table table sieve qs ws cs vs) p q i j s.one s.two c l (first-through table sieve qs ws cs vs l.visits p q w s.one s.two g)
            (second-through table sieve qs ws cs vs l.visits p q w s.one s.two g),
      )
      at None g = absurd (true≢false (ap paired (ap (λ z. both_turned z m) (sym e) ∙ f ∙ ap (λ z. held_two k z p q c l) g)))
