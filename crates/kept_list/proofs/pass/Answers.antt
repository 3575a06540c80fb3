-- `kept_list::pass` meets its contract: what went down so far is worse.
use Prim.Native.Nat.{◌-◌}
use native.Mathlib.Omega.{arith}
use mathlib.Core.Path.{sym, ◌∙◌}
use Rattle.kept_list.proofs.Placing.{go-start, go-part}
use Rattle.kept_list.proofs.pass.Goals as goal

pub loop-i-init : goal.loop-i-init
loop-i-init g c =
    let s = c.args in
    go-start s.at s.packed.now s.scores.now s.e c.requires.1 c.requires.2

pub slice_bounds-all_below-end : goal.slice_bounds-all_below-end
slice_bounds-all_below-end g c =
    let w = c.loop-i.invariant in
    omega (arith, w.as_many_scores, w.passed.within, c.requires.2)

pub shape_of-packed-then-not-all_below : goal.shape_of-packed-then-not-all_below
shape_of-packed-then-not-all_below g c =
    c.loop-i.invariant.as_many

pub shape_of-scores-then-not-all_below : goal.shape_of-scores-then-not-all_below
shape_of-scores-then-not-all_below g c =
    c.loop-i.invariant.as_many_scores

pub returns-then-not-all_below : goal.returns-then-not-all_below
returns-then-not-all_below g c =
    let w = c.loop-i.invariant in
    record {
      packed = w.packed;
      scores = w.scores;
      passed = w.passed;
    }

pub down-requires : goal.down-requires
down-requires g c =
    let w = c.loop-i.invariant in
    (c.loop-i-test.true, omega (arith, w.as_many, w.passed.within, c.requires.1))

pub down-requires-in-loop-i : goal.down-requires-in-loop-i
down-requires-in-loop-i g c =
    let w = c.loop-i.invariant in
    (c.loop-i-test.true, omega (arith, w.as_many_scores, w.passed.within, c.requires.2))

pub loop-i-smaller : goal.loop-i-smaller
loop-i-smaller g c =
    omega (arith, c.loop-i-test.true)

pub loop-i-preserved : goal.loop-i-preserved
loop-i-preserved g c =
    let s = c.args in
    let l = c.loop-i in
    let t = c.all_below.ensures in
    go-part s.at s.packed.now s.scores.now s.e c.requires.1 c.requires.2 l.packed l.scores l.i (l.i - g.row.N) _ _ l.invariant (omega arith)
    (sym t.answer ∙ c.if-not-all_below.false) t.fits c.down.ensures c.down-in-loop-i.ensures

pub shape_of-packed : goal.shape_of-packed
shape_of-packed g c =
    c.loop-i.invariant.as_many

pub shape_of-scores : goal.shape_of-scores
shape_of-scores g c =
    c.loop-i.invariant.as_many_scores

pub returns : goal.returns
returns g c =
    let w = c.loop-i.invariant in
    record {
      packed = w.packed;
      scores = w.scores;
      passed = w.passed;
    }
