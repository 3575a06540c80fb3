-- `quantizing::extent_of` meets its contract. The invariant: what is left of the pass gives the lowest and the highest key of all.
use mathlib.Core.Path.{◌≡◌}
use lib.ListN.{drop}
use Rattle.quantizing.specs.Laws.Extremes.{lowest, highest}
use Rattle.quantizing.proofs.extent_of.Given as goal

abbrev pub invariant-loop-value : goal.invariant-loop-value
invariant-loop-value l = (lowest l.low (drop l.value-index l.values) ≡ lowest 4294967295 l.values) × (highest l.high (drop l.value-index l.values) ≡ highest 0 l.values)
