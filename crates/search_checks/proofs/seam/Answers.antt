-- `search_checks::seam` meets its contract. Each return is a case of the definition.
use lib.ListN.{get_or}
use Prim.Native.Nat.{◌-◌}
use lib.Dec.{leb}
use Rattle.sequences.specs.Laws.Lists.{byte_small}
use Rattle.search_checks.proofs.Loops.{seam-none, seam-end, seam-here}
use borrow.Author.Tests.{le-ltb, lt-ltb}
use native.Mathlib.Omega.{arith}
use Rattle.search_checks.proofs.seam.Goals as goal

pub returns-then-at-before : goal.returns-then-at-before
returns-then-at-before c = let a = c.args in record {
  answer = seam-none a.summary_ids.now a.before a.at (le-ltb _ _ c.if-at-before.true);
  small = omega arith;
}

pub returns-then-summary_ids-i : goal.returns-then-summary_ids-i
returns-then-summary_ids-i c = let a = c.args in record {
  answer = seam-end a.summary_ids.now a.before a.at c.if-summary_ids-i.true;
  small = omega arith;
}

pub returns : goal.returns
returns c = let a = c.args in record {
  answer = seam-here a.summary_ids.now a.before a.at (lt-ltb _ _ c.if-at-before.false) (lt-ltb _ _ c.if-summary_ids-i.false);
  small = byte_small (leb (get_or a.summary_ids.now a.at 0) (get_or a.summary_ids.now (a.at - 1) 0));
}
