-- `build_scratch::term_total` meets its contract. What is summed, and the terms of the documents left, make the whole.
use Prim.Native.Nat.{◌+◌, ◌<◌}
use mathlib.Core.Path.{◌≡◌}
use mathlib.Core.List.{map}
use lib.ListN.{length, drop}
use Rattle.sequences.specs.Lists.{joined}
use Rattle.documents.specs.Documents.{terms}
use Rattle.documents.specs.Lent.{lent}
use Rattle.build_scratch.specs.Lengths.{capped}
use Rattle.build_scratch.proofs.term_total.Given as goal

abbrev pub invariant-loop-id : goal.invariant-loop-id
invariant-loop-id l = (l.total < 18446744073709551616) × (capped (l.total + length (joined (map (terms (lent l.documents)) (drop l.id-index l.listed)))) ≡ capped (length (joined (map (terms (lent l.documents)) l.listed))))
