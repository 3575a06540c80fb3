-- `search_page::terms`: going on through what is left is going on from the first place.
use mathlib.Core.Path.{◌≡◌}
use Rattle.search_page.proofs.Laws.{through_from}
use Rattle.search_page.proofs.terms.Given as goal

abbrev pub invariant-loop-k : goal.invariant-loop-k
invariant-loop-k l = (through_from l.sieve l.query.components.now l.query.values.now l.components l.values l.i l.initial.t ≡ through_from l.sieve l.query.components.now l.query.values.now l.components l.values l.k l.t)
