-- Between -1 and 2^64 the library's cut serves, and the ends are known.
use Rattle.std.proofs.Common.{T, sym, subst}
use Rattle.std.specs.Float.Ieee.{of_bits, neg}
use Rattle.float32.specs.Laws.Tests.{yes, no}
use Rattle.float32.specs.Laws.CountLaws.{whole-over, whole-none}
use Rattle.float32.proofs.whole_part.Goals as goal

pub truncating_f32_to_u64-requires-clause-lower_bound :
    goal.truncating_f32_to_u64-requires-clause-lower_bound
unfolding of_bits neg
truncating_f32_to_u64-requires-clause-lower_bound c = subst T (sym c.if-x.true) tt

pub truncating_f32_to_u64-requires-clause-upper_bound :
    goal.truncating_f32_to_u64-requires-clause-upper_bound
unfolding of_bits neg
truncating_f32_to_u64-requires-clause-upper_bound c = subst T (sym c.if-x-2.true) tt

pub returns-then-x : goal.returns-then-x
unfolding of_bits neg
returns-then-x c = whole-over c.args.x (yes _ c.if-x.true) (no _ c.if-x-2.false)

pub returns : goal.returns
unfolding of_bits neg
returns c = whole-none c.args.x (no _ c.if-x.false)
