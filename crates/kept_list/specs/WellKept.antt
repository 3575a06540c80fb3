-- What a kept list has in which refusal 12 finds no fault.
use Rattle.std.specs.Prelude.{ℕ, ◌≤◌, ◌≡◌, true, length}
use Rattle.sequences.specs.Lists.{every}
use Rattle.kept_list.specs.Keep.{in_order}
use Rattle.kept_list.specs.Entry.{better}
use Rattle.kept_list.specs.Lent.{Lent, entries}
use Rattle.kept_list.specs.Push.{is_number}

pub record WellKept (k : ℕ) (l : Lent) : Type 0 where
  pub few : l.size ≤ k
  pub held : l.size ≤ length l.packed
  pub held_scores : l.size ≤ length l.scores
  pub best-first : in_order better (entries l) ≡ true
  pub numbers : every is_number (entries l) ≡ true
