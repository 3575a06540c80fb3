-- One pass over a slice of entries tells whether they are well kept: what kept_list shows of the two slices.
use Prim.Native.Nat.{ℕ, ◌+◌, ◌-◌, ◌≤◌, ◌<◌}
use native.Mathlib.Omega.{arith}
use native.Mathlib.Decide.{dec_le}
use mathlib.Core.Path.{◌≡◌, refl, sym, ap, ◌∙◌, subst}
use mathlib.Core.Bool.{Bool, true, false, not, ◌&&◌, ◌||◌}
use mathlib.Core.List.{List, map}
use lib.ListN.{length, get_or, length-map}
use lib.Dec.{T, leb, eqb}
use lib.Ieee.{eq, fits, binary32}
use borrow.Author.Tests.{leb-true, eq-eqb, ne_eqb, le-leb, lt-leb}
use Rattle.sequences.specs.Laws.Lists.{both}
use Rattle.kept_list.specs.declared.Scored.{Scored}
use Rattle.kept_list.specs.Entry.{better}
use Rattle.kept_list.specs.Lent.{lent, packed_of, score_of, entries}
use Rattle.kept_list.specs.Push.{sound, well_kept}
use Rattle.kept_push.proofs.Soundness.{Checking, check-start, check-next, check-end}
use Rattle.kept_push.proofs.Verdicts.{ill-held, well-kept-is}
use Rattle.kept_entries.specs.Entries.{no_entry, as_lent}
use Rattle.kept_entries.proofs.Rising.{entry-is}

module _ (k n : ℕ) (ys : List Scored) where
  -- both columns hold as many as the slice
  held-is : (leb n k && leb n (length ys)) ≡ (leb n k && (leb n (length (map packed_of ys)) && leb n (length (map score_of ys))))
  held-is = ap (λ b. leb n k && b) (go (dec_le n (length ys)))
    where
      go : Dec (n ≤ length ys) → leb n (length ys) ≡ (leb n (length (map packed_of ys)) && leb n (length (map score_of ys)))
      go (yes h) = rw (le-leb n (length ys) h, le-leb n (length (map packed_of ys)) (omega (arith, length-map ys packed_of)), le-leb n (length (map score_of ys)) (omega (arith, length-map ys score_of)))
      go (no h) = rw (lt-leb n (length ys) (omega arith), lt-leb n (length (map packed_of ys)) (omega (arith, length-map ys packed_of)))

  -- too many are not well kept
  pub not-held : (leb n k && leb n (length ys)) ≡ false → false ≡ well_kept k (as_lent n ys)
  not-held h = ill-held k n (map packed_of ys) (map score_of ys) (sym held-is ∙ h)

  -- what was found before place i, with the last entry looked at; where there is no entry, that all is well
  pub record Checked (ok : Bool) (above : Scored) (i : ℕ) : Type 0 where
    pub started : 0 < i
    pub last : above ≡ get_or ys (i - 1) no_entry
    pub none : n ≡ 0 → ok ≡ true
    pub some : 0 < n → Checking n (map packed_of ys) (map score_of ys) ok i

  module _ (h : (leb n k && leb n (length ys)) ≡ true) where
    within : n ≤ length ys
    within = leb-true n (length ys) (both (leb n k) (leb n (length ys)) h).1

    in-packed : n ≤ length (map packed_of ys)
    in-packed = omega (arith, within, length-map ys packed_of)

    in-scores : n ≤ length (map score_of ys)
    in-scores = omega (arith, within, length-map ys score_of)

    pub checked-first : (e : Scored) → e ≡ get_or ys 0 no_entry → (b : Bool) → b ≡ (eqb n 0 || eq e.score e.score) → Checked b e 1
    checked-first e p b q = record {
      started = omega arith;
      last = p;
      none = λ z. q ∙ ap (λ x. x || eq e.score e.score) (eq-eqb n 0 z);
      some = λ l.
          let r : b ≡ eq e.score e.score = q ∙ ap (λ x. x || eq e.score e.score) (ne_eqb n 0 (λ z. omega arith)) in
          subst (λ x. Checking n (map packed_of ys) (map score_of ys) x 1) (sym r) (check-start n (map packed_of ys) (map score_of ys) l e.score (ap score_of (p ∙ entry-is ys 0)));
    }

    pub checked-next : (ok : Bool) (above : Scored) (i : ℕ) → Checked ok above i → i < n → (e : Scored) → e ≡ get_or ys i no_entry → (b : Bool) → b ≡ (ok && not (better e above)) → Checked b e (i + 1)
    checked-next ok above i c l e p b q = record {
      started = omega arith;
      last = p ∙ ap (λ (m : ℕ). get_or ys m no_entry) (omega arith);
      none = λ z. absurd (omega arith);
      some = λ o. subst (λ x. Checking n (map packed_of ys) (map score_of ys) x (i + 1)) (sym q) (check-next n (map packed_of ys) (map score_of ys) in-packed in-scores ok i (c.some o) l above e (c.last ∙ entry-is ys (i - 1)) (p ∙ entry-is ys i) (better e above) refl);
    }

    pub checked-end : (T (fits binary32 (get_or ys 0 no_entry).score)) → (ok : Bool) (above : Scored) (i : ℕ) → Checked ok above i → n ≤ i → ok ≡ well_kept k (as_lent n ys)
    checked-end f ok above i c l = well-kept-is k n (map packed_of ys) (map score_of ys) (sym held-is ∙ h) ok (go (dec_le n 0))
      where
        go : Dec (n ≤ 0) → ok ≡ sound (entries (as_lent n ys))
        go (yes z) = let q : n ≡ 0 = omega arith in c.none q ∙ ap (λ m. sound (entries (lent m (map packed_of ys) (map score_of ys)))) (sym q)
        go (no z) = check-end n (map packed_of ys) (map score_of ys) in-packed in-scores (omega arith) (subst (λ e. T (fits binary32 e.score)) (entry-is ys 0) f) ok i (c.some (omega arith)) l
