-- The answer and the output of a build whose scratch is a short one.
use Rattle.std.specs.Prelude.{Result}
use Rattle.build_meaning.specs.declared.BuiltSizes.{BuiltSizes}
use Rattle.refusal.specs.declared.Refusal.{Refusal}
use mathlib.Core.Path.{◌≡◌, ap}
use Rattle.build_meaning.specs.Built.{Input}
use Rattle.build_meaning.specs.Building.{Outputs, Lent, lent, leaves, builds}
use Rattle.build_small.specs.Short.{short_scratch, made, made_of, made_short}

pub short-made : (g : Input) (o : Outputs) (a : Result BuiltSizes Refusal) (l : Lent) → leaves a l ≡ builds g (lent o short_scratch) → made a l.output ≡ made_short g o
unfolding made_of made_short
short-made g o a l h = ap made_of h
