-- `kept_list::passes` meets its contract: a greater score is better.
use mathlib.Core.Path.{sym}
use Rattle.kept_list.specs.Laws.Entry.{better-of-lt}
use borrow.Author.Rules.{rules}
use Rattle.kept_list.proofs.passes.Goals as goal

pub returns-then-above-e : goal.returns-then-above-e
returns-then-above-e c =
    let a = c.args in
    sym (better-of-lt a.e a.above (search rules) (search rules) c.if-above-e.true)
