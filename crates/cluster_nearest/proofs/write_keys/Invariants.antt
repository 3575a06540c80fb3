-- `cluster_nearest::write_keys` meets its contract.
use lib.Seq.{sets}
use lib.ListN.{drop}
use mathlib.Core.Path.{◌≡◌}
use mathlib.Core.List.{map}
use Rattle.documents.specs.Documents.{paired}
use Rattle.documents.specs.TermKeys.{term_key}
use Rattle.cluster_nearest.proofs.write_keys.Given as goal

abbrev pub invariant-loop-i : goal.invariant-loop-i
invariant-loop-i l =
    sets l.keys l.i (map term_key (paired (drop l.i l.components) (drop l.i l.values)))
    ≡ sets l.initial.keys 0 (map term_key (paired l.components l.values))
