-- `kept_push::is_sound` meets its contract: what is left to look at adds to what was found so far.
use Prim.Native.Nat.{◌+◌}
use native.Mathlib.Omega.{arith}
use mathlib.Core.Path.{refl}
use Rattle.kept_push.proofs.Soundness.{check-start, check-part, check-end}
use Rattle.kept_push.proofs.is_sound.Goals as goal

pub loop-i-init : goal.loop-i-init
loop-i-init c =
    let a = c.args in
    check-start a.length a.packed.now a.scores.now c.requires.length_nonzero.0 _ refl

pub loop-i-preserved : goal.loop-i-preserved
loop-i-preserved c =
    let a = c.args in
    let l = c.loop-i in
    check-part a.length a.packed.now a.scores.now c.requires.length_nonzero.1 c.requires.length_len_bound l.ok l.i (l.i + 16) _ l.invariant (omega arith) (omega arith) c.mostly_fall-ok.ensures

pub returns : goal.returns
returns c =
    let a = c.args in
    let l = c.loop-i in
    let all = check-part a.length a.packed.now a.scores.now c.requires.length_nonzero.1 c.requires.length_len_bound l.ok l.i a.length _ l.invariant l.invariant.within (omega arith) c.all_stand.ensures in
    check-end a.length a.packed.now a.scores.now c.requires.length_nonzero.1 c.requires.length_len_bound c.requires.length_nonzero.0 (c.type_inv.scores 0) _ a.length all (omega arith)
