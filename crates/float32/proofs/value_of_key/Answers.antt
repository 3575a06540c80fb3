-- Between the keys of the infinities no pattern is a NaN's.
use Rattle.std.proofs.Common.{arith, le-leb}
use Rattle.std.proofs.lemmas.Bool.{lt-leb}
use Rattle.std.specs.Float.Ieee.{of_bits, div}
use Rattle.float32.specs.Key.{value_of}
use Rattle.float32.specs.Laws.KeyLaws.{number-pattern, no-key-below, no-key-above}
use Rattle.float32.proofs.value_of_key.Goals as goal

pub returns-then-k-lt8388607 : goal.returns-then-k-lt8388607
unfolding div of_bits
returns-then-k-lt8388607 c = no-key-below c.args.k (omega arith)

pub returns-then-k-gt4286578688 : goal.returns-then-k-gt4286578688
unfolding div of_bits
returns-then-k-gt4286578688 c = no-key-above c.args.k (omega arith) (omega arith)

pub float_from_bits-result : goal.float_from_bits-result
float_from_bits-result c = number-pattern _ (omega arith)

pub float_from_bits-result-else-k-ge2147483648 : goal.float_from_bits-result-else-k-ge2147483648
float_from_bits-result-else-k-ge2147483648 c = number-pattern _ (omega arith)

pub returns-then-k-ge2147483648 : goal.returns-then-k-ge2147483648
unfolding value_of
returns-then-k-ge2147483648 c = simp (le-leb _ _ c.if-k-ge2147483648.true)

pub returns-else-k-ge2147483648 : goal.returns-else-k-ge2147483648
unfolding value_of
returns-else-k-ge2147483648 c = simp (lt-leb _ _ c.if-k-ge2147483648.false)
