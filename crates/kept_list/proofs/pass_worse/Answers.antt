-- `kept_list::pass_worse` meets its contract: what went down so far is worse, and it stops below the first that is not.
use Prim.Native.Nat.{◌+◌, ◌-◌}
use native.Mathlib.Omega.{arith}
use mathlib.Core.Path.{◌≡◌, refl, sym, ◌∙◌}
use Rattle.kept_list.proofs.Placing.{go-start, go-one, found-top, found_below}
use Rattle.kept_list.proofs.pass_worse.Goals as goal

pub loop-j-init : goal.loop-j-init
loop-j-init c =
    let s = c.args in
    go-start s.at s.packed.now s.scores.now s.e c.requires.0 c.requires.1

pub bounds-packed-j : goal.bounds-packed-j
bounds-packed-j c =
    let g = c.loop-j.invariant in
    omega (arith, g.as_many, g.passed.within, c.requires.0, c.loop-j-test.true)

pub bounds-scores-j : goal.bounds-scores-j
bounds-scores-j c =
    let g = c.loop-j.invariant in
    omega (arith, g.as_many_scores, g.passed.within, c.requires.1, c.loop-j-test.true)

pub returns-then-not-passes : goal.returns-then-not-passes
returns-then-not-passes c =
    let s = c.args in
    let l = c.loop-j in
    let z : l.j - 1 + 1 ≡ l.j = omega (arith, c.loop-j-test.true) in
    rw z (record {
      packed = l.invariant.packed;
      scores = l.invariant.scores;
      place = found_below s.at s.packed.now s.scores.now s.e c.requires.0 c.requires.1 l.packed l.scores l.j (l.j - 1) _ l.invariant (omega (arith, c.loop-j-test.true)) refl (sym c.passes.ensures ∙ c.if-not-passes.true);
    })

pub bounds-packed-j-in-loop-j : goal.bounds-packed-j-in-loop-j
bounds-packed-j-in-loop-j c =
    let g = c.loop-j.invariant in
    omega (arith, g.as_many, g.passed.within, c.requires.0, c.loop-j-test.true)

pub bounds-scores-j-in-loop-j : goal.bounds-scores-j-in-loop-j
bounds-scores-j-in-loop-j c =
    let g = c.loop-j.invariant in
    omega (arith, g.as_many_scores, g.passed.within, c.requires.1, c.loop-j-test.true)

pub loop-j-preserved : goal.loop-j-preserved
loop-j-preserved c =
    let s = c.args in
    let l = c.loop-j in
    let z : l.j - 1 + 1 ≡ l.j = omega (arith, c.loop-j-test.true) in
    rw z (go-one s.at s.packed.now s.scores.now s.e c.requires.0 c.requires.1 l.packed l.scores l.j (l.j - 1) _ l.invariant (omega (arith, c.loop-j-test.true)) refl (sym c.passes.ensures ∙ c.if-not-passes.false))

pub returns : goal.returns
returns c =
    let s = c.args in
    let l = c.loop-j in
    let z : l.j ≡ 0 = omega (arith, c.loop-j-test.false) in
    record {
      packed = rw z at l.invariant.packed;
      scores = rw z at l.invariant.scores;
      place = rw z at (found-top s.at s.packed.now s.scores.now s.e c.requires.0 c.requires.1 l.packed l.scores l.j l.invariant c.loop-j-test.false);
    }
