-- `documents::seek`: the place and what is left below from there make the place sought.
use mathlib.Core.Path.{◌≡◌, refl, ◌∙◌}
use Rattle.documents.proofs.Seeking.{seek_stop, seek-step, seek-end}
use Rattle.documents.specs.Sought.{sought}
use native.Mathlib.Omega.{arith}
use Rattle.documents.proofs.seek.Goals as goal

pub loop-at-init : goal.loop-at-init
unfolding sought
loop-at-init c = (omega arith, refl)

pub returns-then-component-components : goal.returns-then-component-components
returns-then-component-components c = let l = c.loop-at in let a = c.args in seek_stop a.components.now a.component l.at (omega arith) c.if-component-components.true ∙ l.invariant.1

pub loop-at-preserved : goal.loop-at-preserved
loop-at-preserved c = let l = c.loop-at in let a = c.args in (omega arith, seek-step a.components.now a.component l.at (omega arith) (omega arith) ∙ l.invariant.1)

pub returns : goal.returns
returns c = let l = c.loop-at in let a = c.args in let z : c.max.result ≡ l.at = omega (arith, c.max.ensures) in z ∙ seek-end a.components.now a.component l.at (omega arith) ∙ l.invariant.1
