-- `search_page::walk`: four terms at a time, and then the rest.
use mathlib.Core.Path.{◌≡◌}
use Prim.Native.Nat.{◌*◌}
use Rattle.search_page.proofs.Laws.{through_from}
use Rattle.search_page.proofs.walk.Given as goal

abbrev pub invariant-loop-b : goal.invariant-loop-b
invariant-loop-b l = through_from l.sieve l.query.components.now l.query.values.now l.components l.values 0 l.initial.s ≡ through_from l.sieve l.query.components.now l.query.values.now l.components l.values (l.b * 4) l.s
