-- `quantizing::encode` meets its contract. The invariant: the first i values are coded, and past them stands what was lent.
use mathlib.Core.Path.{◌≡◌}
use Rattle.quantizing.specs.Quantizing.{code_of}
use Rattle.quantizing.proofs.Laws.{coded}
use Rattle.quantizing.proofs.encode.Given as goal

abbrev pub invariant-loop-i : goal.invariant-loop-i
invariant-loop-i l = l.codes ≡ coded (code_of l.least l.step) l.values l.initial.codes l.i
