-- `search_postings::probe_postings`: probing what is left is probing all.
use mathlib.Core.Path.{◌≡◌}
use Rattle.search_postings.specs.Lent.{through_lent}
use Prim.Native.Nat.{◌-◌}
use lib.ListN.{length as len}
use Rattle.sequences.specs.Lists.{from}
use Rattle.kept_list.specs.Lent.{lent}
use Rattle.search_postings.specs.Postings.{lends, held_probe}
use Rattle.search_postings.proofs.probe_postings.Given as goal

abbrev pub invariant-loop-i : goal.invariant-loop-i
invariant-loop-i l =
    (len l.packed ≡ len l.initial.packed) × (len l.scores ≡ len l.initial.scores) × (len l.visits ≡ len l.initial.visits)
    × (held_probe l.k (through_lent l.laid.table.now l.laid.sieve.now l.laid.query l.terms) l.postings (from l.i (l.stop - l.i)) l.c (lends (lent l.length l.packed l.scores) l.visits)
    ≡ held_probe l.k (through_lent l.laid.table.now l.laid.sieve.now l.laid.query l.terms) l.postings (from l.first (l.stop - l.first)) l.initial.c (lends (lent l.initial.length l.initial.packed l.initial.scores) l.initial.visits))

abbrev pub decreases-loop-i : goal.decreases-loop-i
decreases-loop-i l = l.stop - l.i
