-- `search_page::sieve_of`: marking what is left is marking all.
use mathlib.Core.Path.{◌≡◌}
use lib.ListN.{length, drop}
use Rattle.search_page.specs.Through.{marking, sieve_of}
use Rattle.search_page.proofs.sieve_of.Given as goal

abbrev pub invariant-loop-c : goal.invariant-loop-c
invariant-loop-c l = (length l.sieve ≡ 4096) × (marking l.sieve (drop l.c-index l.query_components) ≡ sieve_of l.query_components)
