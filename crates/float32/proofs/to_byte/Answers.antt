-- The whole part, and one more where the value reaches the point half way to the next.
use Rattle.std.proofs.Common.{sym, ◌∙◌, arith}
use Rattle.std.specs.Float.Ieee.{of_bits}
use Rattle.float32.specs.Laws.Tests.{yes}
use Rattle.float32.specs.Laws.RoundingLaws.{byte-is}
use Rattle.float32.specs.Laws.ByteLaws.{byte-top, byte-by}
use Rattle.float32.proofs.to_byte.Goals as goal

pub returns-then-whole-ge255 : goal.returns-then-whole-ge255
returns-then-whole-ge255 c =
    byte-top c.args.q c.whole_part-whole.result c.whole_part-whole.ensures (omega arith)
    ∙ sym (byte-is c.args.q (yes _ c.well_formed.0.1))

pub returns : goal.returns
unfolding of_bits
returns c =
    byte-by c.args.q c.whole_part-whole.result c.whole_part-whole.ensures (omega arith)
    ∙ sym (byte-is c.args.q (yes _ c.well_formed.0.1))
