-- A kept list is well kept exactly where refusal 12 finds no fault.
use Rattle.std.specs.Prelude.{ℕ, ◌≡◌, true, ◌&&◌, length, leb}
use Rattle.std.proofs.Common.{le-leb, leb-true}
use Rattle.sequences.specs.Lists.{every}
use Rattle.sequences.specs.Laws.Lists.{both}
use Rattle.kept_list.specs.Keep.{in_order}
use Rattle.kept_list.specs.Entry.{better}
use Rattle.kept_list.specs.Lent.{Lent, entries, places}
use Rattle.kept_list.specs.Push.{is_number, sound, well_kept}
use Rattle.kept_list.specs.WellKept.{WellKept}

pub well-kept : (k : ℕ) (l : Lent) → well_kept k l ≡ true → WellKept k l
unfolding well_kept
well-kept k l h =
    let a = both (leb l.size k && places l.size l) (sound (entries l)) h in
    let b = both (leb l.size k) (places l.size l) a.0 in
    let c = both (leb l.size (length l.packed)) (leb l.size (length l.scores)) b.1 in
    let s = both (in_order better (entries l)) (every is_number (entries l)) a.1 in
    record {
      few = leb-true l.size k b.0;
      held = leb-true l.size (length l.packed) c.0;
      held_scores = leb-true l.size (length l.scores) c.1;
      best-first = s.0;
      numbers = s.1;
    }

pub is-well-kept : (k : ℕ) (l : Lent) → WellKept k l → well_kept k l ≡ true
unfolding well_kept
is-well-kept k l w =
    rw (le-leb l.size k w.few, le-leb l.size (length l.packed) w.held, le-leb l.size (length l.scores) w.held_scores, w.best-first, w.numbers)
