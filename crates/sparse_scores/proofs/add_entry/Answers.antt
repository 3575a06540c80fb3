-- `sparse_scores::add_entry` meets its contract. Each return is a case of the definition.
use Rattle.sparse_scores.proofs.Walks.{grown-in, grown-out}
use borrow.Author.Rules.{rules}
use Rattle.sparse_scores.proofs.add_entry.Goals as goal

pub returns-then-s-n : goal.returns-then-s-n
returns-then-s-n c = let a = c.args in grown-in a.n a.minimums.now a.steps.now a.value a.block.0 a.code a.block_scores.now (search rules)

pub returns-else-s-n : goal.returns-else-s-n
returns-else-s-n c = let a = c.args in grown-out a.n a.minimums.now a.steps.now a.value a.block.0 a.code a.block_scores.now c.if-s-n.false
