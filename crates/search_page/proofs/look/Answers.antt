-- `search_page::look`: at each return the tests that led there say whether the query has the component.
use Rattle.search_page.proofs.Laws.{look-past, look-short, look_hit, look-miss}
use native.Mathlib.Omega.{arith}
use Rattle.search_page.proofs.look.Goals as goal

pub returns-then-query-at : goal.returns-then-query-at
returns-then-query-at c = let a = c.args in let k = c.seek-at in look-past a.a a.v a.s a.query.components.now a.query.values.now k.result k.ensures c.if-query-at.true

pub returns-then-query-at-2 : goal.returns-then-query-at-2
returns-then-query-at-2 c = let a = c.args in let k = c.seek-at in look-short a.a a.v a.s a.query.components.now a.query.values.now k.result k.ensures c.if-query-at.false c.if-query-at-2.true

pub returns-then-query-at-3 : goal.returns-then-query-at-3
returns-then-query-at-3 c = let a = (c.args) in let k = c.seek-at in look_hit a.a a.v a.s a.query.components.now a.query.values.now k.result k.ensures (omega arith) (omega arith) c.if-query-at-3.true

pub returns : goal.returns
returns c = let a = (c.args) in let k = c.seek-at in look-miss a.a a.v a.s a.query.components.now a.query.values.now k.result k.ensures (omega arith) (omega arith) c.if-query-at-3.false
