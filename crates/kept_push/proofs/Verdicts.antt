-- The tests of a push, by their cases.
use Rattle.std.specs.Prelude.{Result, Ok, Err}
use Prim.Native.Nat.{ℕ, suc, ◌≤◌, min}
use mathlib.Core.Path.{◌≡◌, sym, ap, ◌∙◌}
use mathlib.Core.Bool.{Bool, true, false, ◌&&◌}
use mathlib.Core.List.{List}
use lib.ListN.{length}
use lib.Ieee.{Float, eq}
use lib.Dec.{leb}
use borrow.Author.Tests.{leb-true, eq-eqb, ne_eqb}
use Rattle.sequences.specs.Laws.Lists.{both}
use Rattle.refusal.specs.declared.Refusal.{Refusal}
use Rattle.refusal.specs.declared.Refusal.TheVariants.{NothingToKeep, WrongKeptList, BufferTooShort}
use Rattle.kept_list.specs.declared.Scored.{Scored}
use Rattle.kept_list.specs.Lent.{Lent, lent, entries, settled}
use Rattle.kept_list.specs.Push.{is_number, sound, well_kept, verdict_of, left, if_accepted, pushed}
use Rattle.kept_push.proofs.Soundness.{eq_self}

-- ---- a kept list in which refusal 12 finds no fault
module _ (k n : ℕ) (ps : List ℕ) (xs : List Float) where
  abbrev held : Bool
  held = leb n k && (leb n (length ps) && leb n (length xs))

  pub ill-held : held ≡ false → false ≡ well_kept k (lent n ps xs)
  unfolding well_kept
  ill-held h = rw h

  pub well-held : held ≡ true → (n ≤ length ps) × (n ≤ length xs)
  well-held h =
      let s = both (leb n k) (leb n (length ps) && leb n (length xs)) h in
      let t = both (leb n (length ps)) (leb n (length xs)) s.1 in
      (leb-true n (length ps) t.0, leb-true n (length xs) t.1)

  pub well-kept-is : held ≡ true → (r : Bool) → r ≡ sound (entries (lent n ps xs)) → r ≡ well_kept k (lent n ps xs)
  unfolding well_kept
  well-kept-is h r e = rw h e

  pub none_kept : held ≡ true → n ≡ 0 → true ≡ well_kept k (lent n ps xs)
  none_kept h z = well-kept-is h true (ap (λ m. sound (entries (lent m ps xs))) (sym z))

-- ---- the verdict
module _ (k : ℕ) (e : Scored) (l : Lent) where
  pub keeps-nothing : k ≡ 0 → Err NothingToKeep ≡ verdict_of k e l
  unfolding verdict_of
  keeps-nothing z = rw (eq-eqb k 0 z)

  module _ (some : k ≡ 0 → ⊥) (w : Bool) (v : w ≡ well_kept k l) where
    tested : (b : Bool) → (w && eq e.score e.score) ≡ b → (well_kept k l && is_number e) ≡ b
    tested b h = ap (λ x. x && is_number e) (sym v) ∙ ap (λ x. w && x) (sym (eq_self e.score)) ∙ h

    pub wrong-list : (w && eq e.score e.score) ≡ false → Err WrongKeptList ≡ verdict_of k e l
    unfolding verdict_of
    wrong-list h = rw (ne_eqb k 0 some, tested false h)

    module _ (h : (w && eq e.score e.score) ≡ true) (m : ℕ) (a : m ≡ min (suc l.size) k) where
      pub too_short : (leb m (length l.packed) && leb m (length l.scores)) ≡ false → Err BufferTooShort ≡ verdict_of k e l
      unfolding verdict_of
      too_short g = rw (ne_eqb k 0 some, tested true h, rw a at g)

      pub admitted : (leb m (length l.packed) && leb m (length l.scores)) ≡ true → Ok tt ≡ verdict_of k e l
      unfolding verdict_of
      admitted g = rw (ne_eqb k 0 some, tested true h, rw a at g)

  -- ---- what a push leaves
  module _ (v : Result (Unit {0}) Refusal) (a : v ≡ verdict_of k e l) where
    pub refused-leaves : (r : Refusal) → v ≡ Err r → left v l ≡ pushed k e l
    unfolding pushed
    refused-leaves r q = ap (λ w. left w l) a ∙ ap (λ w. left (verdict_of k e l) (if_accepted w (settled k e l) l)) (sym q ∙ a)

    pub accepted-leaves : v ≡ Ok tt → (m : Lent) → m ≡ settled k e l → left v m ≡ pushed k e l
    unfolding pushed
    accepted-leaves q m s = ap (left v) s ∙ ap (λ w. left w (settled k e l)) a ∙ ap (λ w. left (verdict_of k e l) (if_accepted w (settled k e l) l)) (sym q ∙ a)
