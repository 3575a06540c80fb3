-- Where two pages are read at a time and there are scores, each is what reading its page alone says, for any sieve and query.
use Rattle.std.specs.Prelude.{◌≡◌, List, Bool, ◌&&◌, ℕ, Float, Option, Some, None}
use Rattle.std.proofs.Math.Path.{refl, ap}
use Rattle.std.proofs.Common.{sym, ◌∙◌, true≢false}
use Rattle.std.proofs.Math.Bool.{true, false, cond}
use Rattle.std.specs.Float.{binary32}
use Rattle.std.specs.Float.Ieee.{of_bits}
use Rattle.sequences.specs.Laws.Lists.{both}
use Rattle.documents.specs.Checks.{slices_hold_below}
use Rattle.search_page.specs.declared.Scores.{Scores}
use Rattle.search_page.specs.Through.{laid_sum, read_through, scores_of, read_two}

-- whether there are scores, and each of them
abbrev pub scores : Option Scores → Bool
scores (Some s) = true
scores None = false

abbrev first_or : Float → Option Scores → Float
first_or z (Some s) = s.one
first_or z None = z

abbrev second_or : Float → Option Scores → Float
second_or z (Some s) = s.two
second_or z None = z

laid-reads : (table : List Float) (sieve qs : List ℕ) (us : List Float) (cs : List ℕ) (vs : List Float) → slices_hold_below 32768 cs vs ≡ true
    → read_through table sieve qs us cs vs ≡ Some (laid_sum table cs vs (of_bits binary32 0))
unfolding read_through
laid-reads table sieve qs us cs vs h = rw h

module _ (table : List Float) (sieve qs : List ℕ) (us : List Float) (cs : List ℕ) (vs : List Float) (ds : List ℕ) (ws : List Float) (x y : Float) where
  abbrev one : Float
  one = laid_sum table cs vs (of_bits binary32 0)

  abbrev two : Float
  two = laid_sum table ds ws (of_bits binary32 0)

  pub first_reads : read_two table cs vs ds ws ≡ Some (scores_of x y) → read_through table sieve qs us cs vs ≡ Some x
  unfolding read_two
  first_reads = at (slices_hold_below 32768 cs vs && slices_hold_below 32768 ds ws) refl
    where
      at : (b : Bool) → (slices_hold_below 32768 cs vs && slices_hold_below 32768 ds ws) ≡ b → cond b (Some (scores_of one two)) None ≡ Some (scores_of x y) → read_through table sieve qs us cs vs ≡ Some x
      at true e f = laid-reads table sieve qs us cs vs (both (slices_hold_below 32768 cs vs) (slices_hold_below 32768 ds ws) e).0 ∙ ap (λ p. Some (first_or one p)) f
      at false e f = absurd (true≢false (sym (ap scores f)))

  pub second_reads : read_two table cs vs ds ws ≡ Some (scores_of x y) → read_through table sieve qs us ds ws ≡ Some y
  unfolding read_two
  second_reads = at (slices_hold_below 32768 cs vs && slices_hold_below 32768 ds ws) refl
    where
      at : (b : Bool) → (slices_hold_below 32768 cs vs && slices_hold_below 32768 ds ws) ≡ b → cond b (Some (scores_of one two)) None ≡ Some (scores_of x y) → read_through table sieve qs us ds ws ≡ Some y
      at true e f = laid-reads table sieve qs us ds ws (both (slices_hold_below 32768 cs vs) (slices_hold_below 32768 ds ws) e).1 ∙ ap (λ p. Some (second_or two p)) f
      at false e f = absurd (true≢false (sym (ap scores f)))
