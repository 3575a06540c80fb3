-- `search_page::lay`: laying what is left is laying all.
use mathlib.Core.Path.{◌≡◌}
use Rattle.search_page.specs.Through.{laying}
use Rattle.search_page.proofs.lay.Given as goal

abbrev pub invariant-loop-c : goal.invariant-loop-c
invariant-loop-c l = laying l.table l.c-iterator.a.rest.now l.c-iterator.b.rest.now ≡ laying l.initial.table l.query.components.now l.query.values.now
