-- So many places from the front hold words, and those left are as they were.
use mathlib.Core.Path.{ap, ◌∙◌}
use native.Mathlib.Omega.{arith}
use Rattle.replay_words.proofs.Laws.{spread-step, spread_end}
use Rattle.replay_words.proofs.fill.Goals as goal

pub loop-i-preserved : goal.loop-i-preserved
loop-i-preserved g c =
    let f = g.N.FromWord.from_word in
    let l = c.loop-i in
    let a = c.args in
    spread-step f a.words.now a.numbers.now l.numbers l.i c.from_word.result (omega arith) l.invariant (c.from_word.ensures ∙ ap f c.word.ensures)

pub returns : goal.returns
returns g c = let l = c.loop-i in let a = c.args in spread_end g.N.FromWord.from_word a.words.now a.numbers.now l.numbers l.i (omega arith) l.invariant
