use Rattle.std.proofs.Common.{ap, ◌∙◌}
use Rattle.std.specs.Prelude.{Float}
use Rattle.std.specs.Float.{binary32}
use Rattle.std.specs.Float.Ieee.{mul, to_unsigned}
use Rattle.float32.specs.Count.{scaled_length}
use Rattle.float32.proofs.scaled_length.Goals as goal

pub returns : goal.returns
unfolding scaled_length
returns c = c.whole_part.ensures ∙ ap (λ (x : Float). to_unsigned 64 (mul binary32 c.args.fraction x)) c.nearest.ensures
