-- The order of the keys is the total order.
use Rattle.std.proofs.Common.{ℕ, ap, ◌∙◌}
use Rattle.std.specs.Prelude.{nat_le}
use Rattle.float32.specs.Laws.Tests.{yes}
use Rattle.float32.specs.Key.{key_of}
use Rattle.float32.specs.Laws.KeyLaws.{key-order}
use Rattle.float32.proofs.at_most.Goals as goal

pub returns : goal.returns
returns c =
    let a = c.args.a in
    let b = c.args.b in
    ap (λ (k : ℕ). nat_le k c.key-2.result) c.key.ensures
    ∙ ap (λ (k : ℕ). nat_le (key_of a) k) c.key-2.ensures
    ∙ key-order a b (yes _ c.well_formed.0.1) (yes _ c.well_formed.1.0.1)
