-- `search_checks::blocks_hold` meets its contract. Each return is a case of the definition.
use native.Mathlib.Omega.{arith}
use Rattle.search_checks.proofs.Parts.{blocks-none, blocks-uneven, blocks-even}
use Rattle.search_checks.proofs.blocks_hold.Goals as goal

pub returns-then-blocks-eq0 : goal.returns-then-blocks-eq0
returns-then-blocks-eq0 c = let a = c.args in blocks-none a.postings a.blocks a.component_offsets.now c.if-blocks-eq0.true

pub returns-then-n-eq0 : goal.returns-then-n-eq0
returns-then-n-eq0 c = let a = c.args in blocks-uneven a.postings a.blocks a.component_offsets.now c.if-blocks-eq0.false (λ e. omega (arith, c.if-n-eq0.true))

pub returns-then-last-blocks : goal.returns-then-last-blocks
returns-then-last-blocks c = let a = c.args in blocks-uneven a.postings a.blocks a.component_offsets.now c.if-blocks-eq0.false (λ e. c.if-last-blocks.true (omega arith))

pub returns : goal.returns
returns c = let a = (c.args) in blocks-even a.postings a.blocks a.component_offsets.now _ c.if-blocks-eq0.false (omega arith) c.never_falls.ensures
