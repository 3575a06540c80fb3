-- `cluster_slots::meets_many` meets its contract.
use mathlib.Core.Path.{◌≡◌}
use mathlib.Core.List.{map}
use lib.ListN.{length, drop}
use lib.Dec.{leb}
use Rattle.cluster_index.specs.Lent.{entries_lent}
use Rattle.documents.specs.TermKeys.{term_of}
use Rattle.cluster_slots.specs.Met.{met}
use Rattle.cluster_slots.proofs.meets_many.Given as goal

abbrev pub invariant-loop-key : goal.invariant-loop-key
invariant-loop-key l =
    leb l.left (length (met (entries_lent l.index) (map term_of (drop l.key-index l.keys))))
    ≡ leb l.many (length (met (entries_lent l.index) (map term_of l.keys)))
