-- `search_page::sieve_of`: marking what is left is marking all.
use mathlib.Core.Path.{refl, ◌∙◌}
use Prim.Native.Nat.{ℕ}
use native.Mathlib.Nat.{mod-lt}
use lib.Dec.{lit<}
use lib.ListN.{length-set, length-replicate}
use Rattle.search_page.proofs.Laws.{marking_step, marking-end}
use Rattle.search_page.specs.Through.{sieve_of}
use native.Mathlib.Omega.{arith}
use Rattle.search_page.proofs.sieve_of.Goals as goal

pub loop-c-init : goal.loop-c-init
unfolding sieve_of
loop-c-init c = (length-replicate {A = ℕ} 4096 0, refl)

pub bounds-sieve-r : goal.bounds-sieve-r
bounds-sieve-r c = mod-lt _ (lit< tt)

pub loop-c-preserved : goal.loop-c-preserved
loop-c-preserved c = let l = c.loop-c in let a = c.args in (simp length-set l.invariant.0, marking_step l.sieve a.query_components.now l.c-index (omega arith) ∙ l.invariant.1)

pub returns : goal.returns
returns c = let l = c.loop-c in let a = c.args in marking-end l.sieve a.query_components.now l.c-index (omega arith) ∙ l.invariant.1
