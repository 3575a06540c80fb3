-- `cluster_approximate::gathering::push` meets its contract.
use Rattle.cluster_approximate.specs.Laws.Gathering.{pushed, not-pushed}
use native.Mathlib.Omega.{arith}
use Rattle.cluster_approximate.proofs.gathering.push.Goals as goal

pub returns-then-dissolves : goal.returns-then-dissolves
returns-then-dissolves c = let a = c.args in record {
  gathered = not-pushed a.competing.now a.n a.centroid.0 a.dissolves c.if-dissolves.true;
  room = omega arith;
}

pub returns : goal.returns
returns c = let a = c.args in record {
  gathered = pushed a.competing.now a.n a.centroid.0 a.dissolves c.if-dissolves.false c.requires;
  room = omega arith;
}
