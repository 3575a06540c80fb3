-- `search_page::four`: four terms that the sieve stops change nothing.
use Rattle.search_page.proofs.Laws.{through-four}
use native.Mathlib.Omega.{arith}
use Rattle.search_page.proofs.four.Goals as goal

pub returns-then-m0-m1-eq0 : goal.returns-then-m0-m1-eq0
returns-then-m0-m1-eq0 c = let a = (c.args) in through-four a.sieve.now a.query.components.now a.query.values.now a.components.now a.values.now a.i a.s (omega arith) (omega arith) (omega arith) (omega arith) (omega arith) (omega arith)
