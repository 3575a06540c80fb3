-- `search::judge`: at each return the first test that fails gives the refusal.

use Rattle.search.proofs.judge.Goals as goal

pub returns-then-nothing : goal.returns-then-nothing
returns-then-nothing c = rw c.if-nothing.true

pub returns-then-not-query : goal.returns-then-not-query
returns-then-not-query c = rw (c.if-nothing.false, c.if-not-query.true-raw)

pub returns-then-not-even : goal.returns-then-not-even
returns-then-not-even c = rw (c.if-nothing.false, c.if-not-query.false-raw, c.if-not-even.true-raw)

pub returns-then-not-list : goal.returns-then-not-list
returns-then-not-list c = rw (c.if-nothing.false, c.if-not-query.false-raw, c.if-not-even.false-raw, c.if-not-list.true-raw)

pub returns-then-not-kept : goal.returns-then-not-kept
returns-then-not-kept c = rw (c.if-nothing.false, c.if-not-query.false-raw, c.if-not-even.false-raw, c.if-not-list.false-raw, c.if-not-kept.true-raw)

pub returns-then-not-room : goal.returns-then-not-room
returns-then-not-room c = rw (c.if-nothing.false, c.if-not-query.false-raw, c.if-not-even.false-raw, c.if-not-list.false-raw, c.if-not-kept.false-raw, c.if-not-room.true-raw)

pub returns : goal.returns
returns c = rw (c.if-nothing.false, c.if-not-query.false-raw, c.if-not-even.false-raw, c.if-not-list.false-raw, c.if-not-kept.false-raw, c.if-not-room.false-raw)
