-- `float32::all_below` meets its contract: what was found so far is the test of the values so far.
use native.Mathlib.Omega.{arith}
use mathlib.Core.Path.{refl}
use lib.Ieee.{nan}
use Rattle.float32.specs.Laws.Tests.{yes}
use Rattle.float32.proofs.Below.{every_more, every-all, all_fit}
use Rattle.float32.proofs.all_below.Goals as goal

pub loop-value-init : goal.loop-value-init
loop-value-init c = (refl, λ z. absurd (omega arith))

pub loop-value-preserved : goal.loop-value-preserved
loop-value-preserved c = let l = c.loop-value in (every_more _ _ nan l.ok l.value-index (omega arith) l.invariant.0, λ z. c.type_inv.values)

pub returns : goal.returns
returns c =
    let l = c.loop-value in
    record {
      answer = every-all _ _ nan l.ok l.value-index c.loop-value-test.false l.invariant.0;
      fits = (yes _ c.well_formed.1.0.1, all_fit c.args.values.now (λ z. l.invariant.1 (omega (arith, z, c.loop-value-test.false))));
    }
