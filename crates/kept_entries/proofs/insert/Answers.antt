-- `kept_entries::insert` meets its contract: an exchange leaves what is left to do, and where none is due all is done.
use Prim.Native.Nat.{◌+◌, ◌-◌}
use native.Mathlib.Omega.{arith}
use mathlib.Core.Path.{◌≡◌, refl, sym, ◌∙◌}
use Rattle.kept_entries.proofs.Rising.{rise-start, rise-up, rise-stay, rise-top}
use Rattle.kept_entries.proofs.insert.Goals as goal

pub loop-j-init : goal.loop-j-init
loop-j-init c = let a = c.args in rise-start a.at a.entries.now a.e c.requires

pub returns-then-not-better : goal.returns-then-not-better
returns-then-not-better c =
    let a = c.args in
    let l = c.loop-j in
    rise-stay a.at a.entries.now a.e c.requires l.entries l.j (l.j - 1) (omega (arith, c.loop-j-test.true)) _ refl l.invariant (sym c.better.ensures ∙ c.if-not-better.true)

pub loop-j-preserved : goal.loop-j-preserved
loop-j-preserved c =
    let a = c.args in
    let l = c.loop-j in
    let z : l.j - 1 + 1 ≡ l.j = omega (arith, c.loop-j-test.true) in
    rw z (rise-up a.at a.entries.now a.e c.requires l.entries l.j (l.j - 1) (omega (arith, c.loop-j-test.true)) _ refl l.invariant (sym c.better.ensures ∙ c.if-not-better.false))

pub returns : goal.returns
returns c =
    let a = c.args in
    let l = c.loop-j in
    rise-top a.at a.entries.now a.e c.requires l.entries l.j l.invariant c.loop-j-test.false
