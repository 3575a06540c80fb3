-- `cluster_slots::clear_met` meets its contract.
use mathlib.Core.Path.{◌≡◌}
use mathlib.Core.List.{map, foldl}
use lib.ListN.{drop}
use Rattle.cluster_index.specs.Lent.{entries_lent}
use Rattle.documents.specs.TermKeys.{term_of}
use Rattle.cluster_slots.specs.Met.{met, clear_at}
use Rattle.cluster_slots.proofs.clear_met.Given as goal

abbrev pub invariant-loop-key : goal.invariant-loop-key
invariant-loop-key l =
    foldl clear_at l.sums (met (entries_lent l.index) (map term_of (drop l.key-index l.keys)))
    ≡ foldl clear_at l.initial.sums (met (entries_lent l.index) (map term_of l.keys))
