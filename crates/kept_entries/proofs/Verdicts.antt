-- The verdict on a push onto a slice of entries, by its cases, and what a push leaves: what kept_list shows of the two slices.
use Rattle.std.specs.Prelude.{Result, Ok, Err}
use Rattle.refusal.specs.declared.Refusal.{Refusal}
use Prim.Native.Nat.{ℕ, suc, ◌<◌, ◌≤◌, min}
use native.Mathlib.Omega.{arith}
use native.Mathlib.Decide.{dec_le}
use mathlib.Core.Path.{◌≡◌, refl, sym, ap, ◌∙◌}
use mathlib.Core.Bool.{Bool, true, false, not, ◌&&◌, true≢false}
use mathlib.Core.List.{List, map}
use lib.ListN.{length, length-map}
use lib.Ieee.{eq}
use lib.Dec.{leb, ltb}
use borrow.Author.Tests.{eq-eqb, ne_eqb, lt-ltb, le-ltb, lt-leb, le-leb}
use Rattle.refusal.specs.declared.Refusal.TheVariants.{NothingToKeep, WrongKeptList, BufferTooShort}
use Rattle.kept_list.specs.declared.Scored.{Scored}
use Rattle.kept_list.specs.Lent.{packed_of, score_of, settled}
use Rattle.kept_list.specs.Push.{is_number, well_kept, verdict_of, left, pushed}
use Rattle.kept_push.proofs.Soundness.{eq_self}
use Rattle.kept_push.proofs.Verdicts.{refused-leaves, accepted-leaves}
use Rattle.kept_entries.specs.Entries.{as_lent}
use Rattle.kept_entries.specs.Answers.{verdict_by, verdict_in, length_in}

-- ---- by value
module _ (k n room : ℕ) (sound : Bool) (e : Scored) where
  pub keeps-nothing : k ≡ 0 → Err NothingToKeep ≡ verdict_by k n room sound e
  unfolding verdict_by
  keeps-nothing z = rw (eq-eqb k 0 z)

  module _ (some : k ≡ 0 → ⊥) where
    tested : (b : Bool) → (sound && eq e.score e.score) ≡ b → (sound && is_number e) ≡ b
    tested b h = ap (λ x. sound && x) (sym (eq_self e.score)) ∙ h

    pub wrong-list : (sound && eq e.score e.score) ≡ false → Err WrongKeptList ≡ verdict_by k n room sound e
    unfolding verdict_by
    wrong-list h = rw (ne_eqb k 0 some, tested false h)

    module _ (h : (sound && eq e.score e.score) ≡ true) (m : ℕ) (a : m ≡ min (suc n) k) where
      pub too_short : room < m → Err BufferTooShort ≡ verdict_by k n room sound e
      unfolding verdict_by
      too_short g = rw (ne_eqb k 0 some, tested true h, lt-ltb room (min (suc n) k) (rw a at g))

      pub admitted : m ≤ room → Ok tt ≡ verdict_by k n room sound e
      unfolding verdict_by
      admitted g = rw (ne_eqb k 0 some, tested true h, le-ltb room (min (suc n) k) (rw a at g))

-- ---- of the entries
module _ (k n : ℕ) (e : Scored) (ys : List Scored) where
  room-is : (m : ℕ) → ltb (length ys) m ≡ not (leb m (length (map packed_of ys)) && leb m (length (map score_of ys)))
  room-is m = go (dec_le m (length ys))
    where
      go : Dec (m ≤ length ys) → ltb (length ys) m ≡ not (leb m (length (map packed_of ys)) && leb m (length (map score_of ys)))
      go (yes h) = rw (le-ltb (length ys) m h, le-leb m (length (map packed_of ys)) (omega (arith, length-map ys packed_of)), le-leb m (length (map score_of ys)) (omega (arith, length-map ys score_of)))
      go (no h) = rw (lt-ltb (length ys) m (omega arith), lt-leb m (length (map packed_of ys)) (omega (arith, length-map ys packed_of)))

  pub verdict-is : (sound : Bool) → sound ≡ well_kept k (as_lent n ys) → verdict_by k n (length ys) sound e ≡ verdict_of k e (as_lent n ys)
  unfolding verdict_by verdict_of
  verdict-is sound h = rw (h, room-is (min (suc n) k))
