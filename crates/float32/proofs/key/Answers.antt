-- Only a NaN differs from itself, and of the others the sign is the highest bit.
use Rattle.std.proofs.Common.{sym, ap, ◌∙◌, arith, le-leb}
use Rattle.std.proofs.lemmas.Bool.{lt-leb}
use Rattle.std.specs.Float.{binary32}
use lib.Ieee.Compare.{differs_from_itself}
use Rattle.std.specs.Float.Ieee.Bits.{to_bits-lt}
use Rattle.float32.specs.Laws.Tests.{yes}
use Rattle.float32.specs.Key.{key_of}
use Rattle.float32.specs.Laws.KeyLaws.{key-of-nan, key-of-number, equals_itself}
use Rattle.float32.proofs.key.Goals as goal

pub returns-then-x : goal.returns-then-x
returns-then-x c = sym (ap key_of (differs_from_itself c.args.x (yes _ c.if-x.true)) ∙ key-of-nan)

pub float_to_bits-bits : goal.float_to_bits-bits
float_to_bits-bits c = equals_itself c.args.x c.if-x.false

pub overflow_sub-result-then-bits-ge2147483648 : goal.overflow_sub-result-then-bits-ge2147483648
overflow_sub-result-then-bits-ge2147483648 c = omega (arith, to_bits-lt binary32 c.args.x (yes _ c.well_formed.0.1))

pub returns-then-bits-ge2147483648 : goal.returns-then-bits-ge2147483648
returns-then-bits-ge2147483648 c = simp (key-of-number c.args.x (equals_itself c.args.x c.if-x.false), le-leb _ _ c.if-bits-ge2147483648.true) (omega arith)

pub returns-else-bits-ge2147483648 : goal.returns-else-bits-ge2147483648
returns-else-bits-ge2147483648 c = simp (key-of-number c.args.x (equals_itself c.args.x c.if-x.false), lt-leb _ _ c.if-bits-ge2147483648.false) (omega arith)
