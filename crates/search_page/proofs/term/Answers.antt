-- `search_page::term`: a term that the sieve stops changes nothing; another is looked up.
use mathlib.Core.Path.{refl}
use Prim.Native.Nat.{◌+◌}
use Rattle.search_page.proofs.Laws.{through-skip, through-look}
use native.Mathlib.Omega.{arith}
use Rattle.search_page.proofs.term.Goals as goal

pub returns-then-mark-eq0 : goal.returns-then-mark-eq0
returns-then-mark-eq0 c = let a = (c.args) in through-skip a.sieve.now a.query.components.now a.query.values.now a.components.now a.values.now a.i a.s (a.i + 1) refl (omega arith) (omega arith) (omega arith)

pub returns : goal.returns
returns c = let a = (c.args) in let t = c.look in through-look a.sieve.now a.query.components.now a.query.values.now a.components.now a.values.now a.i a.s t.result (omega arith) (omega arith) (λ z. omega arith) t.ensures
