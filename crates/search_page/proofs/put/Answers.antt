-- `search_page::put`: a component from 32,768 on has no place.
use Rattle.search_page.proofs.Laws.{put-there, put-nowhere}
use Rattle.search_page.proofs.put.Goals as goal

pub returns-then-c-lt32768 : goal.returns-then-c-lt32768
returns-then-c-lt32768 c = let a = c.args in put-there a.table.now a.c a.weight c.if-c-lt32768.true

pub returns-else-c-lt32768 : goal.returns-else-c-lt32768
returns-else-c-lt32768 c = let a = c.args in put-nowhere a.table.now a.c a.weight c.if-c-lt32768.false
